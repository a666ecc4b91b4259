-- What a site's turns and deliveries do to what is lent and to the calls that have no reply.
use Rattle.std.proofs.Common.{◌≡◌, ◌≢◌, ◌⊎◌, inl, inr, ℕ, zero, suc, ◌+◌, ◌<◌, true, false, List, [], ◌∷◌, ◌++◌, length, slice_get, Option, Some, None, refl, sym, ap, ◌∙◌, subst, arith}
use Rattle.std.proofs.lemmas.List.{length-append}
use Rattle.std.proofs.lemmas.Option.{none-some, same_Some, slice_get_past}
use Rattle.ivy_model.specs.declared.Call.{Call}
use Rattle.ivy_model.specs.declared.Record.{Record}
use Rattle.ivy_model.specs.declared.Reply.{Reply}
use Rattle.ivy_pagetable.specs.declared.Word.{Word}
use Rattle.ivy_memory.specs.declared.memory.Asked.TheVariants as asked
use Rattle.ivy_memory.specs.stated.Asking.{asked_of}
use Rattle.ivy_program.specs.Programs.{IsCalled}
use Rattle.ivy_program.specs.stated.Programs.{Program, fetches_of}
use Rattle.ivy_program.specs.OwnCode.{process_handed}
use Rattle.ivy_program.specs.stated.InstructionSteps.{Asks, Process, answered_with, step_of}
use Rattle.ivy_program.proofs.running.Handing.{handed_called}
use Rattle.ivy_moves.specs.stated.Cores.{Outcome}
use Rattle.ivy_host.specs.stated.Hosts.{Host, turn_of}
use Rattle.ivy_host.specs.stated.Managers.{Managed, managed_ops}
use Rattle.ivy_host.proofs.Programs.{asked-used, posting-core, turned-program}
use Rattle.ivy_host.proofs.Turns.{none-due}
use Rattle.ivy_host.proofs.WellBehaved.{IsAskingHost, turn-asking}
use Rattle.ivy_site.specs.Calls.{AreAnswered, AreTaken}
use Rattle.ivy_site.specs.Handed.{site_handed}
use Rattle.ivy_site.specs.SiteView.{SiteView}
use Rattle.ivy_site.specs.Sites.{AreUsed, SiteTurns}
use Rattle.ivy_site.proofs.Calling.{handing-used, used-due}
use Rattle.ivy_embedded.specs.declared.lending.Lending.{Lending}
use Rattle.ivy_embedded.specs.Exports.{AfterBegin, AfterCall}
use Rattle.ivy_embedded.specs.Lending.{HasUnanswered, lending_in, may_ask, permits}
use Rattle.ivy_embedded.proofs.Turning.{IsTurned, turn_turned}
use Rattle.ivy_embedded.proofs.Unanswered.{IsAnswered, answered_less, asks_unanswered, handed_or, one_answered}
use Rattle.ivy_embedded.proofs.Holding.{IsHeld, MayWait, turned_held}

abbrev pub core_of : SiteView → Host Managed
core_of s = s.node.core

-- own code, whose calls in progress are those that it makes, and for which no fetch is due
pub record IsOwn (n : Host Managed) : Type 0 where
  pub called : IsCalled n.process.program
  pub asking : IsAskingHost n
  pub fetched : AreUsed n

-- what a turn of a site comes to
pub turned_core : (old new : SiteView) → (t : SiteTurns old new) → t.outcome.after ≡ core_of new
turned_core old new t =
    sym (posting-core old.node t.outcome.after t.outcome.posted t.effect t.sent)
    ∙ ap core_of (sym t.after)

pub turned_so : (old new : SiteView) → IsOwn (core_of old) → SiteTurns old new
    → IsTurned (core_of old) (core_of new)
turned_so old new own t =
    subst (IsTurned (core_of old)) (turned_core old new t)
    (turn_turned managed_ops (core_of old) t.outcome own.called own.asking
    (used-due (core_of old) own.fetched) t.turn)

called_on : (n new : Host Managed) → IsTurned n new → IsCalled n.process.program
    → IsCalled new.process.program
called_on n new t called = elim t.process [
  | inl same ↦ rw same.0 called
  | inr answers ↦ rw answers.process called
]

-- a turn at which no fetch is due leaves them as they are
turned_used : (n : Host Managed) (o : Outcome (Host Managed)) → AreUsed n
    → turn_of managed_ops n ≡ Some o → AreUsed o.after
turned_used n o used is =
    asked-used n n.memory.asked o (sym (none-due managed_ops n (used-due n used)) ∙ is)
    ∙ used
    ∙ sym (ap (λ (p : Program). length (fetches_of p)) (turned-program n o is))

pub turned_own : (old new : SiteView) → IsOwn (core_of old) → SiteTurns old new
    → IsOwn (core_of new)
turned_own old new own t = record {
  called = called_on (core_of old) (core_of new) (turned_so old new own t) own.called;
  asking = subst IsAskingHost (turned_core old new t)
      (turn-asking managed_ops (core_of old) t.outcome own.asking t.turn);
  fetched = subst AreUsed (turned_core old new t)
      (turned_used (core_of old) t.outcome own.fetched t.turn);
}

pub turned_config : (old new : SiteView) → SiteTurns old new → new.config ≡ old.config
turned_config old new t = ap (λ (s : SiteView). s.config) t.after

-- and of several
pub answered_config : (rs : List Record) (old new : SiteView) → AreAnswered rs old new
    → new.config ≡ old.config
answered_config [] old new same = ap (λ (s : SiteView). s.config) same
answered_config (r ∷ rs) old new a =
    answered_config rs a.0 new a.2 ∙ turned_config _ a.0 a.1.turns

pub taken_config : (rs : List Record) (old new : SiteView) → AreTaken rs old new
    → new.config ≡ old.config
taken_config [] old new same = ap (λ (s : SiteView). s.config) same
taken_config (r ∷ rs) old new a = taken_config rs a.0 new a.2 ∙ turned_config old a.0 a.1.turns

pub asked_config : (progress : Option Reply) (old new : SiteView) → AfterCall progress old new
    → new.config ≡ old.config
asked_config None old new (inl same) = ap (λ (s : SiteView). s.config) same.1
asked_config None old new (inr waits) = turned_config old new waits.0
asked_config (Some reply) old new a = turned_config old new a.2.turns

pub begun_config : (call : Call) (progress : Option Reply) (old new : SiteView)
    → AfterBegin call progress old new → new.config ≡ old.config
begun_config call None old new (inl same) = ap (λ (s : SiteView). s.config) same
begun_config call None old new (inr waits) = turned_config _ new waits.0
begun_config call (Some reply) old new a = turned_config _ new a.turns

-- a call without a reply had none before
pub turned_less : (n new : Host Managed) → IsTurned n new → (call : Call)
    → HasUnanswered new.process call → HasUnanswered n.process call
turned_less n new t call h = elim t.process [
  | inl same ↦ subst (λ p. HasUnanswered p call) same.0 h
  | inr answers ↦
      answered_less n.process answers.reply call
      (subst (λ p. HasUnanswered p call) answers.process h)
]

no_growth : (xs : List Record) (r : Record) → xs ≡ xs ++ r ∷ [] → ⊥
no_growth xs r is =
    let long = ap length is ∙ length-append xs (r ∷ []) in absurd (omega (arith, long))

-- a turn that records a reply lets no call wait
pub recorded_waits : (lent : List Lending) (n new : Host Managed) (r : Record)
    → new.history ≡ n.history ++ r ∷ [] → MayWait lent n new
recorded_waits lent n new r grown call p w asks quiet of =
    absurd (no_growth n.history r (sym quiet ∙ grown))

-- and one that records the reply to a call that was made alone leaves none
recorded_answers : (n new : Host Managed) (p : Process) (call : Call) (r : Record)
    → IsTurned n new → new.history ≡ n.history ++ r ∷ [] → IsAnswered p
    → n.process ≡ process_handed ((call ∷ []) ∷ []) p → IsAnswered new.process
recorded_answers n new p call r t grown none at = elim t.process [
  | inl same ↦ absurd (no_growth n.history r (sym same.1 ∙ grown))
  | inr answers ↦
      subst IsAnswered (sym (answers.process ∙ ap (λ q. answered_with q answers.reply) at))
      (one_answered p call answers.reply none)
]

-- own code that was answered each call makes further ones
pub handed_own : (s : SiteView) (more : List (List Call)) → IsOwn (core_of s)
    → IsAnswered (core_of s).process → IsOwn (core_of (site_handed more s))
handed_own s more own none = record {
  called = handed_called more (core_of s).process.program own.called;
  asking = λ k at. absurd (none k
      (asks_unanswered (core_of s).process k own.called (own.asking k at).0));
  fetched = handing-used more (core_of s) own.fetched;
}

-- the calls that have no reply yet may be made, as their pages are lent
abbrev pub AreMadeSo : List Lending → SiteView → Type 0
AreMadeSo lent s = (call : Call) → HasUnanswered (core_of s).process call
    → may_ask lent (asked_of s.config call) ≡ true

pub may_wait : (lent : List Lending) (s : SiteView) (new : Host Managed) → IsOwn (core_of s)
    → (core_of s).memory.coherence.config ≡ s.config → AreMadeSo lent s
    → MayWait lent (core_of s) new
may_wait lent s new own config made call p w asks quiet of =
    ap (may_ask lent) (sym (sym (ap (λ c. asked_of c call) config) ∙ of))
    ∙ made call (asks_unanswered (core_of s).process call own.called asks)

-- a site where each call has its reply
pub record IsSettled (lent : List Lending) (s : SiteView) : Type 0 where
  pub own : IsOwn (core_of s)
  pub none : IsAnswered (core_of s).process
  pub held : IsHeld lent (core_of s)

-- calls in a row that are answered at once
pub answered_settled : (lent : List Lending) (rs : List Record) (old new : SiteView)
    → AreAnswered rs old new → IsSettled lent old → IsSettled lent new
answered_settled lent [] old new same s = rw same s
answered_settled lent (r ∷ rs) old new a s =
    let handed = site_handed ((r.call ∷ []) ∷ []) old in
    let own = handed_own old ((r.call ∷ []) ∷ []) s.own s.none in
    let t = turned_so handed a.0 own a.1.turns in
    answered_settled lent rs a.0 new a.2
    (record {
      own = turned_own handed a.0 own a.1.turns;
      none = recorded_answers (core_of handed) (core_of a.0) (core_of old).process r.call _ t
          a.1.recorded s.none refl;
      held = turned_held lent (core_of handed) (core_of a.0) t s.held
          (recorded_waits lent (core_of handed) (core_of a.0) _ a.1.recorded);
    })

-- a site whose calls without a reply are some of those of another
pub record GoesOn (lent : List Lending) (old new : SiteView) : Type 0 where
  pub own : IsOwn (core_of new)
  pub held : IsHeld lent (core_of new)
  pub less : (call : Call) → HasUnanswered (core_of new).process call
      → HasUnanswered (core_of old).process call

pub same_on : (lent : List Lending) (old new : SiteView) → new ≡ old → IsOwn (core_of old)
    → IsHeld lent (core_of old) → GoesOn lent old new
same_on lent old new same own held =
    rw same (record { own = own; held = held; less = λ call h. h })

pub turned_on : (lent : List Lending) (old new : SiteView) → SiteTurns old new
    → IsOwn (core_of old) → IsHeld lent (core_of old)
    → MayWait lent (core_of old) (core_of new) → GoesOn lent old new
turned_on lent old new turns own held may =
    let t = turned_so old new own turns in record {
      own = turned_own old new own turns;
      held = turned_held lent (core_of old) (core_of new) t held may;
      less = turned_less (core_of old) (core_of new) t;
    }

-- replies in a row that are taken at once
pub taken_on : (lent : List Lending) (rs : List Record) (old new : SiteView) → AreTaken rs old new
    → IsOwn (core_of old) → IsHeld lent (core_of old) → GoesOn lent old new
taken_on lent [] old new same own held = same_on lent old new same own held
taken_on lent (r ∷ rs) old new a own held =
    let first = turned_on lent old a.0 a.1.turns own held
    (recorded_waits lent (core_of old) (core_of a.0) r a.1.recorded) in
    let rest = taken_on lent rs a.0 new a.2 first.own first.held in
    record {
      own = rest.own;
      held = rest.held;
      less = λ call h. first.less call (rest.less call h);
    }

-- a turn in which a reply is asked for
pub asked_on : (lent : List Lending) (progress : Option Reply) (old new : SiteView)
    → AfterCall progress old new → IsOwn (core_of old) → IsHeld lent (core_of old)
    → (core_of old).memory.coherence.config ≡ old.config → AreMadeSo lent old
    → GoesOn lent old new
asked_on lent None old new (inl same) own held config made = same_on lent old new same.1 own held
asked_on lent None old new (inr waits) own held config made =
    turned_on lent old new waits.0 own held (may_wait lent old (core_of new) own config made)
asked_on lent (Some reply) old new a own held config made =
    turned_on lent old new a.2.turns own held (may_wait lent old (core_of new) own config made)

-- of one call in a row by itself
one_call : (call other : Call) (k : ℕ) → slice_get (call ∷ []) k ≡ Some other → other ≡ call
one_call call other zero is = sym (same_Some call other is)
one_call call other (suc k) is =
    absurd (none-some other (sym (slice_get_past List.[] k (omega arith)) ∙ is))

-- a call of one that may be made leaves that one alone, or none where it has its reply
pub record IsBegun (lent : List Lending) (call : Call) (s : SiteView) : Type 0 where
  pub own : IsOwn (core_of s)
  pub held : IsHeld lent (core_of s)
  pub only : (other : Call) → HasUnanswered (core_of s).process other → other ≡ call

handed_only : (old : SiteView) (call other : Call) → IsAnswered (core_of old).process
    → HasUnanswered (core_of (site_handed ((call ∷ []) ∷ []) old)).process other → other ≡ call
handed_only old call other none h =
    elim (handed_or ((call ∷ []) ∷ []) (core_of old).process other h) [
      | inl before ↦ absurd (none other before)
      | inr at ↦ one_call call other at.0 at.1
    ]

made_alone : (lent : List Lending) (old : SiteView) (call : Call) → IsAnswered (core_of old).process
    → may_ask lent (asked_of old.config call) ≡ true
    → AreMadeSo lent (site_handed ((call ∷ []) ∷ []) old)
made_alone lent old call none may other h =
    ap (λ c. may_ask lent (asked_of old.config c)) (handed_only old call other none h) ∙ may

pub begun_none : (lent : List Lending) (call : Call) (old new : SiteView) → AfterBegin call None old new
    → IsSettled lent old → (core_of old).memory.coherence.config ≡ old.config
    → may_ask lent (asked_of old.config call) ≡ true → IsBegun lent call new
begun_none lent call old new (inl same) s config may =
    rw same (record {
      own = handed_own old ((call ∷ []) ∷ []) s.own s.none;
      held = s.held;
      only = λ other h. handed_only old call other s.none h;
    })
begun_none lent call old new (inr waits) s config may =
    let handed = site_handed ((call ∷ []) ∷ []) old in
    let own = handed_own old ((call ∷ []) ∷ []) s.own s.none in
    let on = turned_on lent handed new waits.0 own s.held
    (may_wait lent handed (core_of new) own config (made_alone lent old call s.none may)) in
    record {
      own = on.own;
      held = on.held;
      only = λ other h. handed_only old call other s.none (on.less other h);
    }

pub begun_some : (lent : List Lending) (call : Call) (reply : Reply) (old new : SiteView)
    → AfterBegin call (Some reply) old new → IsSettled lent old → IsSettled lent new
begun_some lent call reply old new a s =
    let handed = site_handed ((call ∷ []) ∷ []) old in
    let own = handed_own old ((call ∷ []) ∷ []) s.own s.none in
    let t = turned_so handed new own a.turns in
    record {
      own = turned_own handed new own a.turns;
      none = recorded_answers (core_of handed) (core_of new) (core_of old).process call _ t
          a.recorded s.none refl;
      held = turned_held lent (core_of handed) (core_of new) t s.held
          (recorded_waits lent (core_of handed) (core_of new) _ a.recorded);
    }
