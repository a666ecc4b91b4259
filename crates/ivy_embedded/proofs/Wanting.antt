-- A string would take one page at most, and one that would take any spells a frame; and whether a page
-- is here to be lent.
use Rattle.std.proofs.Common.{◌≡◌, ◌≢◌, ◌⊎◌, inl, inr, ℕ, ◌<◌, Bool, true, false, List, Option, Some, None, refl, sym, ap, ◌∙◌, subst}
use Rattle.std.specs.Prelude.{Result, Ok, Err, IfErr, IfOk, MatchResult}
use Rattle.std.proofs.lemmas.Option.{same_Some}
use Rattle.ivy_model.specs.declared.Call.{Call}
use Rattle.ivy_model.specs.declared.Fault.{Fault}
use Rattle.ivy_model.specs.stated.Config.{IsConfig}
use Rattle.ivy_wire.specs.stated.Data.{Frame, Message}
use Rattle.ivy_wire.specs.stated.DecodeErrors.{checked}
use Rattle.ivy_wire.proofs.Frames.{spelled_once}
use Rattle.ivy_pagetable.specs.declared.Access.{Access}
use Rattle.ivy_coherence.specs.declared.leaving.Leaving.{Leaving}
use Rattle.ivy_coherence.specs.Leavings as leavings
use Rattle.ivy_program.specs.OwnCode.{IsFree}
use Rattle.ivy_program.specs.Programs.{IsCalled}
use Rattle.ivy_program.specs.stated.InstructionSteps.{Asks, Ends, Local, Process, Step, step_of}
use Rattle.ivy_site.specs.Leavings.{Leaves}
use Rattle.ivy_site.specs.SiteView.{SiteView}
use Rattle.ivy_site.proofs.Receiving.{spelled_same}
use Rattle.ivy_embedded.specs.declared.embedded.Declined.{Declined}
use Rattle.ivy_embedded.specs.declared.embedded.Declined.TheVariants as why
use Rattle.ivy_embedded.specs.declared.lending.Lending.{Lending}
use Rattle.ivy_embedded.specs.declared.lending.Lending.TheVariants.{Unlent, ToRead, ToWrite}
use Rattle.ivy_embedded.specs.declared.lending.Want.{Want}
use Rattle.ivy_embedded.specs.Calls.{IsLender}
use Rattle.ivy_embedded.specs.Lending.{HasUnanswered, IsWanted, WaitsFor, is_had, is_more, left_for, lending_at, lending_in, suffices_for}
use Rattle.ivy_embedded.specs.Nodes.{Embedded}
use Rattle.ivy_embedded.proofs.Unanswered.{asks_unanswered, free_answered, local_less}

-- a string leaves one thing
leaves_once : (s : SiteView) (bytes : List ℕ) (l m : Leaving) → IsConfig s.config
    → Leaves s bytes l → Leaves s bytes m → l ≡ m
leaves_once s bytes l m limits a b =
    let same = spelled_same s.config limits a.frame b.frame bytes a.spelled b.spelled in
    let message = same_Some a.message b.message
    (sym a.body ∙ (ap (λ (f : Frame). f.body) same ∙ b.body)) in
    same_Some l m
    (sym a.left
    ∙ (ap (λ (f : Frame). leavings.leaves s.node.core.memory.coherence f.source a.message) same
    ∙ (ap (leavings.leaves s.node.core.memory.coherence b.frame.source) message ∙ b.left)))

-- what is left of a page, as what it may be lent for
abbrev wanted_of : Leaving → Want
wanted_of l = record { page = l.page; on = left_for l.access }

is_wanted_of : (s : Embedded) (bytes : List ℕ) (w : Want) → (is : IsWanted s bytes w)
    → w ≡ wanted_of is.left
is_wanted_of s bytes w is =
    ap (λ p. let x : Want = record { page = p; on = w.on } in x) is.page
    ∙ ap (λ o. let x : Want = record { page = is.left.page; on = o } in x) is.on

-- and so one page is wanted
pub want_once : (s : Embedded) (bytes : List ℕ) (v w : Want) → IsConfig s.site.config
    → IsWanted s bytes v → IsWanted s bytes w → v ≡ w
want_once s bytes v w limits a b =
    is_wanted_of s bytes v a
    ∙ (ap wanted_of (leaves_once s.site bytes a.left b.left limits a.leaves b.leaves)
    ∙ sym (is_wanted_of s bytes w b))

-- a string that leaves enough is not wanted
pub enough_not_wanted : (s : Embedded) (bytes : List ℕ) (l : Leaving) → IsConfig s.site.config
    → Leaves s.site bytes l → is_more (lending_at s l.page) (left_for l.access) ≡ false → (w : Want)
    → IsWanted s bytes w → ⊥
enough_not_wanted s bytes l limits leaves enough w is =
    let same = leaves_once s.site bytes is.left l limits is.leaves leaves in
    let f : true ≡ false = sym is.more
    ∙ (ap (λ (x : Leaving). is_more (lending_at s x.page) (left_for x.access)) same ∙ enough) in
    absurd cc

-- nor is any where no page is lent
pub none_wanted : (s : Embedded) (bytes : List ℕ) → ((page : ℕ) → lending_at s page ≡ Unlent)
    → (w : Want) → IsWanted s bytes w → ⊥
none_wanted s bytes none w is =
    let f : false ≡ true =
    ap (λ l. is_more l (left_for is.left.access)) (sym (none is.left.page)) ∙ is.more in absurd cc

-- one that is wanted is refused by no test
pub wanted_passes : (s : Embedded) (bytes : List ℕ) (w : Want) → IsConfig s.site.config
    → IsWanted s bytes w → (P : Fault → Type 0) → IfErr (checked s.site.config bytes) P
wanted_passes s bytes w limits is P =
    rw (spelled_once s.site.config is.leaves.frame bytes limits is.leaves.spelled).0 tt

-- own code that may make no call has made one without a reply
pub busy_unanswered : (p : Process) → IsCalled p.program → (IsFree p → ⊥)
    → (call : Call) × HasUnanswered p call
busy_unanswered p called busy = by (step_of p) refl
  where
    by : (t : Step) → step_of p ≡ t → (call : Call) × HasUnanswered p call
    by (Local s) is = absurd (local_less p s called is)
    by (Asks call) is = (call, asks_unanswered p call called is)
    by Ends is = absurd (busy (record { called = called; ended = is }))

-- it is the one of the page that is kept
pub busy_waits : (s : Embedded) (at page : ℕ) → IsLender s.site s.lent at
    → (IsFree s.site.node.core.process → ⊥) → at ≡ page → WaitsFor s page
busy_waits s at page l busy same =
    let u = busy_unanswered s.site.node.core.process l.own busy in
    record { call = u.0; unanswered = u.1; of = l.at u.0 u.1 ∙ same }

-- and no call waits at another one
pub none_waits : (s : Embedded) (at page : ℕ) → IsLender s.site s.lent at
    → IsFree s.site.node.core.process ⊎ (at ≢ page) → WaitsFor s page → ⊥
none_waits s at page l (inl free) w =
    free_answered s.site.node.core.process free l.wide w.call w.unanswered
none_waits s at page l (inr other) w = other (sym (l.at w.call w.unanswered) ∙ w.of)

-- an access to a page is had for what it suffices for
pub had_is : (access : Access) (to : Lending) → is_had (Some access) to ≡ suffices_for access to
had_is access Unlent = refl
had_is access ToRead = refl
had_is access ToWrite = refl

-- and none is where a word may wait there
pub none_is_had : (to : Lending) → to ≢ Unlent → is_had None to ≡ false
none_is_had Unlent other = absurd (other refl)
none_is_had ToRead other = refl
none_is_had ToWrite other = refl
