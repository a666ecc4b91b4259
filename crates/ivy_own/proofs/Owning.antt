-- What a turn does to a node with own code, and what a call that is handed to it.
use Rattle.std.proofs.Common.{◌≡◌, ◌≢◌, ◌⊎◌, ℕ, List, [], ◌∷◌, ◌++◌, length, append-nil, slice_get, option_map, ◌-◌, Bool, true, false, Option, Some, None, if◌then◌else◌, refl, sym, ap, subst, ◌∙◌, inl, inr, arith}
use Rattle.std.proofs.lemmas.List.{length-append, map-append}
use Rattle.std.proofs.lemmas.Option.{same_Some, none-some}
use Rattle.ivy_model.specs.declared.Call.{Call}
use Rattle.ivy_model.specs.declared.Record.{Record}
use Rattle.ivy_model.specs.declared.Reply.{Reply}
use Rattle.ivy_calls.specs.declared.answer.Answer.{Answer}
use Rattle.ivy_calls.specs.Answers.{answer, answers}
use Rattle.ivy_own.specs.Known.{Listed, listed}
use Rattle.ivy_program.specs.stated.Programs.{Called}
use Rattle.ivy_moves.specs.stated.Cores.{Outcome}
use Rattle.ivy_moves.specs.stated.Nodes.{Effect}
use Rattle.ivy_alloc.specs.declared.CallProgress as memory_answer
use Rattle.ivy_alloc.specs.declared.CallProgress.TheVariants.{Given, Awaited, Unserved}
use Rattle.ivy_memory.specs.stated.Memories.{CallBegun, polled}
use Rattle.ivy_host.specs.stated.Hosts.{Host, begins_with, number_of, recorded, turn_of, turned_at}
use Rattle.ivy_host.specs.stated.Managers.{Managed, managed_ops}
use Rattle.ivy_host.proofs.Turns.{either_turn}
use Rattle.ivy_site.specs.SiteView.{SiteView}
use Rattle.ivy_site.specs.Handed.{site_handed}
use Rattle.ivy_site.specs.Calls.{BeginsCall}
use Rattle.ivy_site.specs.Sites.{AfterTurn, SiteTurns, first_opened}
use Rattle.ivy_site.specs.declared.turn.Turn as turn
use Rattle.ivy_site.specs.declared.turn.Turn.TheVariants.{Idle, Moved, Ended}
use Rattle.ivy_seating.specs.Turns.{KeepsAnswers}
use Rattle.ivy_own.proofs.Each.{got_last}
use Rattle.ivy_own.specs.OwnSeats.{IsOwned, AnswersMore, TurnsOwn, came, grown, grown_by, last_reply_in}

abbrev H : Type 0
H = Host Managed

-- the host has this reply to the call
abbrev RepliedHost : Call → H → H → Type 0
RepliedHost c n o = (reply : Reply)
    × (o.history ≡ n.history ++ record { node = number_of n; call = c; reply = reply } ∷ [])

-- or it was answered no more
abbrev CameHost : Call → H → H → Type 0
CameHost c n o = (o.history ≡ n.history) ⊎ RepliedHost c n o

with_came : (n : H) (c : Call) (a : CallBegun Managed) (r : memory_answer.CallProgress) (o : Outcome H)
    → begins_with n c a r ≡ Some o → CameHost c n o.after
with_came n c a (Given r) o e =
    subst (λ (x : Outcome H). CameHost c n x.after)
    (same_Some (record { after = recorded n a.after c r; posted = a.posted }) o e)
    (inr (r, refl))
with_came n c a Awaited o e =
    subst (λ (x : Outcome H). CameHost c n x.after)
    (same_Some (record { after = record n { memory = a.after }; posted = a.posted }) o e)
    (inl refl)
with_came n c a Unserved o e = absurd (none-some o e)

turn_came : (n : H) (c : Call) (o : Outcome H) → n.memory.asked ≡ Some c
    → turn_of managed_ops n ≡ Some o → CameHost c n o.after
turn_came n c o asked e =
    let a = polled managed_ops n.memory in
    either_turn managed_ops (λ (x : Outcome H). CameHost c n x.after) n o
    (λ t. with_came n c a a.answer o (subst (λ k. turned_at managed_ops n k ≡ Some o) asked t))
    (λ f. inl refl) e

posted_core : (b : Bool) (x e : Effect H) → (if b then Some x else None) ≡ Some e
    → x.after.core ≡ e.after.core
posted_core true x e is = ap (λ (y : Effect H). y.after.core) (same_Some x e is)
posted_core false x e is = absurd (none-some e is)

-- a site whose turn for the call came to this
abbrev CameSite : Call → SiteView → SiteView → Type 0
CameSite call old new = (new.me ≡ old.me) × CameHost call old.node.core new.node.core

same_site : (call : Call) (old new : SiteView) → new ≡ old → CameSite call old new
same_site call old new same = subst (CameSite call old) (sym same) (refl, inl refl)

site_came : (call : Call) (t : turn.Turn) (old new : SiteView)
    → old.node.core.memory.asked ≡ Some call → AfterTurn t old new → CameSite call old new
site_came call Idle old new asked a = same_site call old new a.1
site_came call Ended old new asked a = same_site call old new a.2
site_came call Moved old new asked a =
    let core : a.outcome.after ≡ a.effect.after.core = posted_core _ _ a.effect a.sent in
    subst (CameSite call old) (sym a.after) (
      refl,
      subst (CameHost call old.node.core) core (turn_came old.node.core call a.outcome asked a.turn),
    )

last_of_more : (rs : List Record) (r : Record) → last_reply_in (rs ++ r ∷ []) ≡ Some r.reply
last_of_more rs r =
    let long = length-append rs (r ∷ []) in
    let before : length (rs ++ r ∷ []) - 1 ≡ length rs = omega (arith, long) in
    ap (λ i. option_map (λ (x : Record). x.reply) (slice_get (rs ++ r ∷ []) i)) before
    ∙ ap (option_map (λ (x : Record). x.reply)) (got_last rs r)

-- as many records as before: no answer came
pub none_came : (call : Call) (t : turn.Turn) (old new : SiteView)
    → old.node.core.memory.asked ≡ Some call → AfterTurn t old new
    → length new.node.core.history ≡ length old.node.core.history → TurnsOwn call None old new
none_came call t old new asked a same =
    let c = site_came call t old new asked a in
    let stays : new.node.core.history ≡ old.node.core.history = elim c.1 [
      | inl here ↦ here
      | inr more ↦
          let long = ap length more.1 in
          let longer = length-append old.node.core.history
          (record { node = number_of old.node.core; call = call; reply = more.0 } ∷ []) in
          absurd (omega (arith, long, longer, same))
    ] in
    record {
      me = c.0;
      answers = ap answers stays ∙ sym (append-nil (answers old.node.core.history));
    }

-- else the last record is the one that came
pub one_came : (call : Call) (t : turn.Turn) (old new : SiteView)
    → old.node.core.memory.asked ≡ Some call → AfterTurn t old new
    → length new.node.core.history ≢ length old.node.core.history
    → TurnsOwn call (last_reply_in new.node.core.history) old new
one_came call t old new asked a other =
    let c = site_came call t old new asked a in
    let more : RepliedHost call old.node.core new.node.core = elim c.1 [
      | inl here ↦ absurd (other (ap length here))
      | inr more ↦ more
    ] in
    let r : Record = record { node = number_of old.node.core; call = call; reply = more.0 } in
    let last : last_reply_in new.node.core.history ≡ Some more.0 =
    ap last_reply_in more.1 ∙ last_of_more old.node.core.history r in
    record {
      me = c.0;
      answers = ap answers more.1 ∙ map-append answer old.node.core.history (r ∷ [])
          ∙ ap (λ o. answers old.node.core.history ++ came call o) (sym last);
    }

-- a turn that lists this record more
pub recorded_more : (r : Record) (old new : SiteView) → SiteTurns old new
    → new.node.core.history ≡ old.node.core.history ++ r ∷ []
    → AnswersMore (answer r ∷ []) old new
recorded_more r old new turns more = record {
  me = ap (λ (s : SiteView). s.me) turns.after;
  answers = ap answers more ∙ map-append answer old.node.core.history (r ∷ []);
}

-- and one that lists none
pub recorded_none : (old new : SiteView) → SiteTurns old new
    → new.node.core.history ≡ old.node.core.history → AnswersMore [] old new
recorded_none old new turns same = record {
  me = ap (λ (s : SiteView). s.me) turns.after;
  answers = ap answers same ∙ sym (append-nil (answers old.node.core.history));
}

-- a call that its owner makes, with the first turn for it
pub call_made : (call : Call) (reply : Option Reply) (old new : SiteView)
    → BeginsCall call reply old new → TurnsOwn call reply old new
call_made call None old new b =
    let r : AnswersMore [] (site_handed ((call ∷ []) ∷ []) old) new =
    recorded_none (site_handed ((call ∷ []) ∷ []) old) new b.turns b.recorded in
    record { me = r.me; answers = r.answers }
call_made call (Some reply) old new b =
    let one : Record = record { node = number_of old.node.core; call = call; reply = reply } in
    let r : AnswersMore (answer one ∷ []) (site_handed ((call ∷ []) ∷ []) old) new =
    recorded_more one (site_handed ((call ∷ []) ∷ []) old) new b.turns b.recorded in
    record { me = r.me; answers = r.answers }

-- a turn that changed nothing of it
pub wired_owned : (old new : SiteView) (half : Listed Answer) → IsOwned old half → KeepsAnswers old new
    → IsOwned new half
wired_owned old new half o k = record {
  number = o.number ∙ sym k.me;
  list = o.list ∙ ap answers (sym k.history);
}

-- where it has these answers more, the half that has them more is its own again
pub more_owned : (more : List Answer) (old new : SiteView) (half half' : Listed Answer)
    → IsOwned old half → AnswersMore more old new → half' ≡ grown_by more half → IsOwned new half'
more_owned more old new half half' o t grows = record {
  number = ap (λ (l : Listed Answer). l.number) grows ∙ o.number ∙ sym t.me;
  list = ap (λ (l : Listed Answer). l.list) grows ∙ ap (λ (l : List Answer). l ++ more) o.list
      ∙ sym t.answers;
}

-- and after a turn for a call
pub turned_owned : (call : Call) (reply : Option Reply) (old new : SiteView)
    (half half' : Listed Answer) → IsOwned old half → TurnsOwn call reply old new → half' ≡ grown call reply half
    → IsOwned new half'
turned_owned call None old new half half' o t grows =
    more_owned [] old new half half' o t
    (grows ∙ ap (listed half.number) (sym (append-nil half.list)))
turned_owned call (Some reply) old new half half' o t grows =
    more_owned (came call (Some reply)) old new half half' o t grows

-- a node with own code that has made no call
pub first_owned : (opened : _) (keep : _) (c : _) (me : ℕ) (s : SiteView) (half : Listed Answer)
    → s ≡ first_opened opened keep c me (Called [] []) → half ≡ listed me [] → IsOwned s half
first_owned opened keep c me s half first new =
    subst (λ (x : SiteView). IsOwned x half) (sym first)
    (record {
      number = ap (λ (l : Listed Answer). l.number) new;
      list = ap (λ (l : Listed Answer). l.list) new;
    })
