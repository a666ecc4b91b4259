-- An event keeps the program of its node, and uses a fetch up only in a turn that carries it out.
use Rattle.std.proofs.Common.{◌≡◌, ℕ, Bool, true, false, ◌+◌, ◌^◌, List, length, map, Option, Some, None, nat_lt, if◌then◌else◌, refl, sym, ap, ◌∙◌}
use Rattle.std.proofs.lemmas.Option.{same_Some, none-some}
use Rattle.ivy_model.specs.declared.Config.{Config}
use Rattle.ivy_model.specs.stated.Config.{IsConfig}
use Rattle.ivy_model.specs.declared.Call.{Call}
use Rattle.ivy_wire.specs.stated.Data.{Parcel, Frame, Message}
use Rattle.ivy_wire.specs.stated.Spelling.{spelling, Spells}
use Rattle.ivy_wire.proofs.Frames.{spelled_once}
use Rattle.ivy_link.specs.declared.Verdict.{Verdict}
use Rattle.ivy_link.specs.declared.Verdict.TheVariants as verdict
use Rattle.ivy_link.specs.stated.Linked.{has_numbers, sends}
use Rattle.ivy_link.specs.stated.Accepted.{offered, accepted}
use Rattle.ivy_program.specs.stated.InstructionSteps.{Step, Local, Asks, Ends, step_of, at_state, along_of}
use Rattle.ivy_moves.specs.stated.Cores.{Outcome}
use Rattle.ivy_moves.specs.stated.Nodes.{Node, Effect, stays, posting, accepting, served_next, received_as, received, delivered_as, delivered}
use Rattle.ivy_alloc.specs.declared.CallProgress.{CallProgress}
use Rattle.ivy_alloc.specs.declared.CallProgress.TheVariants.{Given, Awaited, Unserved}
use Rattle.ivy_memory.specs.stated.Memories.{CallBegun, call_begun, polled}
use Rattle.ivy_host.specs.stated.Managers.{Managed, managed_ops}
use Rattle.ivy_host.specs.stated.Hosts.{Host, host_rules, turn_of, serving, turned_at, steps, begins, begins_as, begins_with, quietly, recorded}
use Rattle.ivy_host.proofs.Turns.{either_turn}

-- what a test guards
pub guarded : {X : Type 0} (b : Bool) (o : Option X) (x : X) → (if b then o else None) ≡ Some x
    → (b ≡ true) × (o ≡ Some x)
guarded true o x e = (refl, e)
guarded false o x e = absurd (none-some x e)

-- a turn keeps it

module _ where
  with-program : (n : Host Managed) (c : Call) (a : CallBegun Managed) (r : CallProgress)
      (o : Outcome (Host Managed)) → begins_with n c a r ≡ Some o
      → o.after.process.program ≡ n.process.program
  with-program n c a (Given r) o e =
      ap (λ (x : Outcome (Host Managed)). x.after.process.program)
      (sym (same_Some (record { after = recorded n a.after c r; posted = a.posted }) o e))
  with-program n c a Awaited o e =
      ap (λ (x : Outcome (Host Managed)). x.after.process.program)
      (sym (same_Some (record { after = record n { memory = a.after }; posted = a.posted }) o e))
  with-program n c a Unserved o e = absurd (none-some o e)

  begun-program : (n : Host Managed) (c : Call) (o : Outcome (Host Managed))
      → begins managed_ops n c ≡ Some o → o.after.process.program ≡ n.process.program
  begun-program n c o e =
      let a = call_begun managed_ops n.memory c (along_of n.process) (length n.history + 1) in
      with-program n c a a.answer o
      (guarded (nat_lt (length n.history + 1) (2 ^ 64)) (begins_as n c a) o e).1

  stepped-program : (n : Host Managed) (s : Step) (o : Outcome (Host Managed))
      → steps managed_ops n s ≡ Some o → o.after.process.program ≡ n.process.program
  stepped-program n (Local s) o e =
      ap (λ (x : Outcome (Host Managed)). x.after.process.program)
      (sym (same_Some (quietly (record n { process = at_state n.process s })) o e))
  stepped-program n (Asks c) o e = begun-program n c o e
  stepped-program n Ends o e = absurd (none-some o e)

  asked-program : (n : Host Managed) (asked : Option Call) (o : Outcome (Host Managed))
      → turned_at managed_ops n asked ≡ Some o → o.after.process.program ≡ n.process.program
  asked-program n (Some c) o e =
      let a = polled managed_ops n.memory in with-program n c a a.answer o e
  asked-program n None o e = stepped-program n (step_of n.process) o e

  pub turned-program : (n : Host Managed) (o : Outcome (Host Managed))
      → turn_of managed_ops n ≡ Some o → o.after.process.program ≡ n.process.program
  turned-program n o e =
      either_turn managed_ops
      (λ (x : Outcome (Host Managed)). x.after.process.program ≡ n.process.program) n o
      (asked-program n n.memory.asked o) (λ f. refl) e

  -- a turn that is none of a fetch uses none up
  with-used : (n : Host Managed) (c : Call) (a : CallBegun Managed) (r : CallProgress)
      (o : Outcome (Host Managed)) → begins_with n c a r ≡ Some o
      → o.after.used ≡ n.used
  with-used n c a (Given r) o e =
      ap (λ (x : Outcome (Host Managed)). x.after.used)
      (sym (same_Some (record { after = recorded n a.after c r; posted = a.posted }) o e))
  with-used n c a Awaited o e =
      ap (λ (x : Outcome (Host Managed)). x.after.used)
      (sym (same_Some (record { after = record n { memory = a.after }; posted = a.posted }) o e))
  with-used n c a Unserved o e = absurd (none-some o e)

  stepped-used : (n : Host Managed) (s : Step) (o : Outcome (Host Managed))
      → steps managed_ops n s ≡ Some o → o.after.used ≡ n.used
  stepped-used n (Local s) o e =
      ap (λ (x : Outcome (Host Managed)). x.after.used)
      (sym (same_Some (quietly (record n { process = at_state n.process s })) o e))
  stepped-used n (Asks c) o e =
      let a = call_begun managed_ops n.memory c (along_of n.process) (length n.history + 1) in
      with-used n c a a.answer o
      (guarded (nat_lt (length n.history + 1) (2 ^ 64)) (begins_as n c a) o e).1
  stepped-used n Ends o e = absurd (none-some o e)

  pub asked-used : (n : Host Managed) (asked : Option Call) (o : Outcome (Host Managed))
      → turned_at managed_ops n asked ≡ Some o → o.after.used ≡ n.used
  asked-used n (Some c) o e =
      let a = polled managed_ops n.memory in with-used n c a a.answer o e
  asked-used n None o e = stepped-used n (step_of n.process) o e

pub posting-core : (n : Node (Host Managed)) (core : Host Managed) (ps : List Parcel)
    (e : Effect (Host Managed)) → posting n core ps ≡ Some e → e.after.core ≡ core
posting-core n core ps e is =
    ap (λ (x : Effect (Host Managed)). x.after.core)
    (sym (same_Some
    (record {
      after = record { core = core; link = (sends n.link ps).after };
      sent = map spelling (sends n.link ps).frames;
    }) e
    (guarded (has_numbers n.link ps) _ e is).1))

pub posting-link : (n : Node (Host Managed)) (core : Host Managed) (ps : List Parcel)
    (e : Effect (Host Managed)) → posting n core ps ≡ Some e
    → e.after.link ≡ (sends n.link ps).after
posting-link n core ps e is =
    ap (λ (x : Effect (Host Managed)). x.after.link)
    (sym (same_Some
    (record {
      after = record { core = core; link = (sends n.link ps).after };
      sent = map spelling (sends n.link ps).frames;
    }) e
    (guarded (has_numbers n.link ps) _ e is).1))

-- a delivery keeps it

pub accepting-core : (f : Frame) (o : Option (Effect (Host Managed))) (e : Effect (Host Managed))
    → accepting f o ≡ Some e
    → (x : Effect (Host Managed)) × (o ≡ Some x) × (e.after.core ≡ x.after.core)
accepting-core f None e is = absurd (none-some e is)
accepting-core f (Some x) e is = (
  x,
  refl,
  ap (λ (y : Effect (Host Managed)). y.after.core)
      (sym (same_Some
      (record {
        after = record { core = x.after.core; link = accepted x.after.link f };
        sent = x.sent;
      }) e is)),
)

kept-program : (n : Node (Host Managed)) (f : Frame) (e : Effect (Host Managed))
    → accepting f (Some (stays n)) ≡ Some e → e.after.core.process.program ≡ n.core.process.program
kept-program n f e is =
    let x = accepting-core f (Some (stays n)) e is in
    ap (λ (k : Host Managed). k.process.program)
    (x.2 ∙ ap (λ (y : Effect (Host Managed)). y.after.core) (sym (same_Some (stays n) x.0 x.1)))

served-program : (n : Node (Host Managed)) (f : Frame) (body : Option Message)
    (e : Effect (Host Managed)) → served_next (host_rules managed_ops) n f body ≡ Some e
    → e.after.core.process.program ≡ n.core.process.program
unfolding serving
served-program n f None e is = kept-program n f e is
served-program n f (Some m) e is =
    let o = serving managed_ops n.core f.source m in
    let x = accepting-core f (posting n o.after o.posted) e is in
    ap (λ (k : Host Managed). k.process.program) (x.2 ∙ posting-core n o.after o.posted x.0 x.1)

pub received-program : (v : Verdict) (n : Node (Host Managed)) (f : Frame)
    (e : Effect (Host Managed)) → received_as (host_rules managed_ops) v n f ≡ Some e
    → e.after.core.process.program ≡ n.core.process.program
received-program verdict.NotMine n f e is =
    ap (λ (y : Effect (Host Managed)). y.after.core.process.program)
    (sym (same_Some (stays n) e is))
received-program verdict.Next n f e is = served-program n f f.body e is
received-program verdict.Repeat n f e is = kept-program n f e is
received-program verdict.Ahead n f e is = kept-program n f e is

pub delivered-is : (c : Config) → IsConfig c
    → (n : Node (Host Managed)) (f : Frame) (bytes : List ℕ) → Spells c f bytes
    → delivered (host_rules managed_ops) c n bytes
    ≡ received_as (host_rules managed_ops) (offered n.link f) n f
unfolding delivered received
delivered-is c config n f bytes spells =
    let once = spelled_once c f bytes config spells in
    ap (λ r. delivered_as (host_rules managed_ops) r n bytes) once.0
    ∙ ap (λ g. received (host_rules managed_ops) n g) once.1

pub delivered-program : (c : Config) → IsConfig c
    → (n : Node (Host Managed)) (f : Frame) (bytes : List ℕ) (e : Effect (Host Managed))
    → Spells c f bytes → delivered (host_rules managed_ops) c n bytes ≡ Some e
    → e.after.core.process.program ≡ n.core.process.program
delivered-program c config n f bytes e spells is =
    received-program (offered n.link f) n f e (sym (delivered-is c config n f bytes spells) ∙ is)

-- and a message uses no fetch up

kept-used : (n : Node (Host Managed)) (f : Frame) (e : Effect (Host Managed))
    → accepting f (Some (stays n)) ≡ Some e → e.after.core.used ≡ n.core.used
kept-used n f e is =
    let x = accepting-core f (Some (stays n)) e is in
    ap (λ (k : Host Managed). k.used)
    (x.2 ∙ ap (λ (y : Effect (Host Managed)). y.after.core) (sym (same_Some (stays n) x.0 x.1)))

served-used : (n : Node (Host Managed)) (f : Frame) (body : Option Message)
    (e : Effect (Host Managed)) → served_next (host_rules managed_ops) n f body ≡ Some e
    → e.after.core.used ≡ n.core.used
unfolding serving
served-used n f None e is = kept-used n f e is
served-used n f (Some m) e is =
    let o = serving managed_ops n.core f.source m in
    let x = accepting-core f (posting n o.after o.posted) e is in
    ap (λ (k : Host Managed). k.used) (x.2 ∙ posting-core n o.after o.posted x.0 x.1)

received-used : (v : Verdict) (n : Node (Host Managed)) (f : Frame)
    (e : Effect (Host Managed)) → received_as (host_rules managed_ops) v n f ≡ Some e
    → e.after.core.used ≡ n.core.used
received-used verdict.NotMine n f e is =
    ap (λ (y : Effect (Host Managed)). y.after.core.used) (sym (same_Some (stays n) e is))
received-used verdict.Next n f e is = served-used n f f.body e is
received-used verdict.Repeat n f e is = kept-used n f e is
received-used verdict.Ahead n f e is = kept-used n f e is

pub delivered-used : (c : Config) → IsConfig c
    → (n : Node (Host Managed)) (f : Frame) (bytes : List ℕ) (e : Effect (Host Managed))
    → Spells c f bytes → delivered (host_rules managed_ops) c n bytes ≡ Some e
    → e.after.core.used ≡ n.core.used
delivered-used c config n f bytes e spells is =
    received-used (offered n.link f) n f e (sym (delivered-is c config n f bytes spells) ∙ is)
