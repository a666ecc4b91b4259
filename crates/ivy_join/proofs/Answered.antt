-- What a node was answered stands first in what it was answered once it went on.
use Rattle.std.proofs.Common.{◌≡◌, ℕ, ◌+◌, ◌-◌, ◌^◌, ◌<◌, List, [], ◌∷◌, ◌++◌, length, take, slice_get, nat_lt, Option, Some, None, Result, Ok, Err, refl, sym, ap, ◌∙◌, append-nil, append_assoc, arith}
use Rattle.std.proofs.Math.Seq.{take-append_seam}
use Rattle.std.proofs.lemmas.List.{length-append, length-map, length-take-le, map-append, nil_from_length, take_all}
use Rattle.std.proofs.lemmas.Option.{same_Some, none-some, get_or_from_slice_get, slice_get_within}
use Rattle.ivy_model.specs.declared.Call.{Call}
use Rattle.ivy_model.specs.declared.Config.{Config}
use Rattle.ivy_model.specs.declared.Fault.{Fault}
use Rattle.ivy_model.specs.declared.Record.{Record}
use Rattle.ivy_model.specs.declared.Reply.{Reply}
use Rattle.ivy_wire.specs.declared.FrameKind.{FrameKind}
use Rattle.ivy_wire.specs.stated.Data.{Frame, Message}
use Rattle.ivy_wire.specs.stated.DecodeErrors.{checked}
use Rattle.ivy_wire.specs.stated.Reading.{frame_at}
use Rattle.ivy_link.specs.declared.Verdict.{Verdict}
use Rattle.ivy_link.specs.declared.Verdict.TheVariants as verdict
use Rattle.ivy_link.specs.stated.Accepted.{offered}
use Rattle.ivy_alloc.specs.declared.CallProgress.{CallProgress}
use Rattle.ivy_alloc.specs.declared.CallProgress.TheVariants.{Given, Awaited, Unserved}
use Rattle.ivy_memory.specs.stated.Memories.{CallBegun, call_begun, polled}
use Rattle.ivy_calls.specs.declared.Answer.{Answer}
use Rattle.ivy_calls.specs.Answers.{answer, answers}
use Rattle.ivy_program.specs.stated.InstructionSteps.{Step, Local, Asks, Ends, step_of, at_state, along_of}
use Rattle.ivy_moves.specs.Keeping.{last_of}
use Rattle.ivy_moves.specs.stated.Cores.{Outcome}
use Rattle.ivy_moves.specs.stated.Nodes.{Node, Effect, stays, posting, accepting, served_next, received_as, received, delivered_as, delivered}
use Rattle.ivy_host.specs.stated.Managers.{Managed, managed_ops}
use Rattle.ivy_host.specs.stated.Hosts.{Host, host_rules, turn_of, serving, turned_at, steps, begins, begins_as, begins_with, quietly, number_of, recorded}
use Rattle.ivy_host.proofs.Programs.{accepting-core, guarded, posting-core}
use Rattle.ivy_host.proofs.Turns.{either_turn}
use Rattle.ivy_join.specs.ReplaySites.{AddsRecords}
use Rattle.ivy_join.specs.Remade.{IsAnsweredLast, StandFirst}
use Rattle.ivy_join.proofs.AnswersLogged.{answers-taken}

pub adds-none : (old new : List Record) → new ≡ old → AddsRecords old new
adds-none old new same = ([], same ∙ sym (append-nil old))

-- first these, then those
pub adds-further : (a b d : List Record) → AddsRecords a b → AddsRecords b d → AddsRecords a d
adds-further a b d x y = (x.0 ++ y.0, y.1 ∙ ap (λ l. l ++ y.0) x.1 ∙ append_assoc a x.0 y.0)

-- a turn records one reply, or none; a fetch has none
module _ where
  with-records : (n : Host Managed) (c : Call) (a : CallBegun Managed) (r : CallProgress)
      (o : Outcome (Host Managed)) → begins_with n c a r ≡ Some o → AddsRecords n.history o.after.history
  with-records n c a (Given r) o e = (
    record { node = number_of n; call = c; reply = r } ∷ [],
    ap (λ (x : Outcome (Host Managed)). x.after.history)
        (sym (same_Some (record { after = recorded n a.after c r; posted = a.posted }) o e)),
  )
  with-records n c a Awaited o e =
      adds-none n.history o.after.history
      (ap (λ (x : Outcome (Host Managed)). x.after.history)
      (sym (same_Some (record { after = record n { memory = a.after }; posted = a.posted }) o e)))
  with-records n c a Unserved o e = absurd (none-some o e)

  begun-records : (n : Host Managed) (c : Call) (o : Outcome (Host Managed))
      → begins managed_ops n c ≡ Some o → AddsRecords n.history o.after.history
  begun-records n c o e =
      let a = call_begun managed_ops n.memory c (along_of n.process) (length n.history + 1) in
      with-records n c a a.answer o
      (guarded (nat_lt (length n.history + 1) (2 ^ 64)) (begins_as n c a) o e).1

  stepped-records : (n : Host Managed) (s : Step) (o : Outcome (Host Managed))
      → steps managed_ops n s ≡ Some o → AddsRecords n.history o.after.history
  stepped-records n (Local s) o e =
      adds-none n.history o.after.history
      (ap (λ (x : Outcome (Host Managed)). x.after.history)
      (sym (same_Some (quietly (record n { process = at_state n.process s })) o e)))
  stepped-records n (Asks c) o e = begun-records n c o e
  stepped-records n Ends o e = absurd (none-some o e)

  asked-records : (n : Host Managed) (asked : Option Call) (o : Outcome (Host Managed))
      → turned_at managed_ops n asked ≡ Some o → AddsRecords n.history o.after.history
  asked-records n (Some c) o e =
      let a = polled managed_ops n.memory in with-records n c a a.answer o e
  asked-records n None o e = stepped-records n (step_of n.process) o e

  pub turned-records : (n : Host Managed) (o : Outcome (Host Managed))
      → turn_of managed_ops n ≡ Some o → AddsRecords n.history o.after.history
  turned-records n o =
      either_turn managed_ops
      (λ (x : Outcome (Host Managed)). AddsRecords n.history x.after.history) n o
      (asked-records n n.memory.asked o) (λ f. adds-none n.history n.history refl)

-- a delivery records none, and the code goes on with nothing
pub record IsUntold (old new : Host Managed) : Type 0 where
  pub process : new.process ≡ old.process
  pub history : new.history ≡ old.history

untold-same : (old new : Host Managed) → new ≡ old → IsUntold old new
untold-same old new same = record {
  process = ap (λ (k : Host Managed). k.process) same;
  history = ap (λ (k : Host Managed). k.history) same;
}

accepted-untold : (n : Node (Host Managed)) (f : Frame) (e : Effect (Host Managed))
    → accepting f (Some (stays n)) ≡ Some e → IsUntold n.core e.after.core
accepted-untold n f e is =
    let x = accepting-core f (Some (stays n)) e is in
    untold-same n.core e.after.core
    (x.2 ∙ ap (λ (y : Effect (Host Managed)). y.after.core) (sym (same_Some (stays n) x.0 x.1)))

served-untold : (n : Node (Host Managed)) (f : Frame) (body : Option Message) (e : Effect (Host Managed))
    → served_next (host_rules managed_ops) n f body ≡ Some e → IsUntold n.core e.after.core
unfolding serving
served-untold n f None e is = accepted-untold n f e is
served-untold n f (Some m) e is =
    let o = serving managed_ops n.core f.source m in
    let x = accepting-core f (posting n o.after o.posted) e is in
    let core : e.after.core ≡ o.after = x.2 ∙ posting-core n o.after o.posted x.0 x.1 in record {
      process = ap (λ (k : Host Managed). k.process) core;
      history = ap (λ (k : Host Managed). k.history) core;
    }

received-untold : (v : Verdict) (n : Node (Host Managed)) (f : Frame) (e : Effect (Host Managed))
    → received_as (host_rules managed_ops) v n f ≡ Some e → IsUntold n.core e.after.core
received-untold verdict.NotMine n f e is =
    untold-same n.core e.after.core
    (ap (λ (y : Effect (Host Managed)). y.after.core) (sym (same_Some (stays n) e is)))
received-untold verdict.Next n f e is = served-untold n f f.body e is
received-untold verdict.Repeat n f e is = accepted-untold n f e is
received-untold verdict.Ahead n f e is = accepted-untold n f e is

checked-untold : (r : Result FrameKind Fault) (n : Node (Host Managed)) (bytes : List ℕ)
    (e : Effect (Host Managed)) → delivered_as (host_rules managed_ops) r n bytes ≡ Some e
    → IsUntold n.core e.after.core
unfolding received
checked-untold (Err fault) n bytes e is = absurd (none-some e is)
checked-untold (Ok kind) n bytes e is =
    received-untold (offered n.link (frame_at kind bytes)) n (frame_at kind bytes) e is

pub delivered-untold : (c : Config) (n : Node (Host Managed)) (bytes : List ℕ) (e : Effect (Host Managed))
    → delivered (host_rules managed_ops) c n bytes ≡ Some e → IsUntold n.core e.after.core
unfolding delivered
delivered-untold c n bytes e is = checked-untold (checked c bytes) n bytes e is

-- what stands first

pub first-none : (history : List Record) → StandFirst [] history
first-none history = record { more = answers history; are = refl }

pub first-longer : (told : List Answer) (old new : List Record) → StandFirst told old → AddsRecords old new
    → StandFirst told new
first-longer told old new first adds = record {
  more = first.more ++ answers adds.0;
  are = ap answers adds.1 ∙ map-append answer old adds.0 ∙ ap (λ l. l ++ answers adds.0) first.are
      ∙ append_assoc told first.more (answers adds.0);
}

same-front : {X : Type 0} (xs ys zs ws : List X) → length xs ≡ length zs → xs ++ ys ≡ zs ++ ws → xs ≡ zs
same-front xs ys zs ws long same =
    sym (take-append_seam xs ys) ∙ ap (λ l. take (length xs) l) same
    ∙ ap (λ n. take n (zs ++ ws)) long ∙ take-append_seam zs ws

-- then so many and one more are all of them
pub first-and-last : (told : List Answer) (last : Answer) (history : List Record) → StandFirst told history
    → IsAnsweredLast (length told) last history → answers history ≡ told ++ last ∷ []
first-and-last told last history first end =
    end.are
    ∙ ap (λ l. l ++ last ∷ []) (same-front end.before (last ∷ []) told first.more end.many (sym end.are ∙ first.are))

pub first-all : (told : List Answer) (history : List Record) → answers history ≡ told → StandFirst told history
first-all told history all = record { more = []; are = all ∙ sym (append-nil told) }

-- where there are no more of them, these are all
pub first-whole : (told : List Answer) (history : List Record) → StandFirst told history
    → length history ≡ length told → answers history ≡ told
first-whole told history first long =
    let left : length first.more ≡ 0 = (
    let all = ap length first.are in let many = length-map history answer in
    let both = length-append told first.more in omega (arith, all, many, both, long)
    ) in
    first.are ∙ ap (λ l. told ++ l) (nil_from_length first.more left) ∙ append-nil told

pub same-answer : (r : Record) (a : Answer) → r.call ≡ a.call → r.reply ≡ a.reply → answer r ≡ a
same-answer r a calls replies =
    ap {B = Answer} (λ (x : Call). record { call = x; reply = r.reply }) calls
    ∙ ap {B = Answer} (λ (x : Reply). record { call = a.call; reply = x }) replies

-- the last record of so many more
pub answered-last : (count : ℕ) (last : Answer) (r : Record) (history : List Record)
    → last_of history ≡ Some r → length history - 1 ≡ count → answer r ≡ last
    → IsAnsweredLast count last history
answered-last count last r history there behind is =
    let at : slice_get history count ≡ Some r = ap (λ n. slice_get history n) (sym behind) ∙ there in
    let below : count < length history = slice_get_within history count r at in
    let all : take (count + 1) history ≡ history = take_all (count + 1) history (omega (arith, behind, below)) in
    record {
      before = answers (take count history);
      many = length-map (take count history) answer ∙ length-take-le count history (omega (arith, below));
      are = ap answers (sym all)
          ∙ answers-taken history count r below (sym (get_or_from_slice_get history count r r at))
          ∙ ap (λ a. answers (take count history) ++ a ∷ []) is;
    }
