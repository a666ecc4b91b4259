-- A site's turn, from what its parts did: `v` is what the fields are seen as, `n` the value.
use Rattle.std.proofs.Common.{◌≡◌, Bool, true, false, List, [], ◌∷◌, ◌++◌, length, Option, None, Some, MatchOption, refl, sym, ap, ◌∙◌, subst}
use Rattle.ivy_model.specs.declared.Call.{Call}
use Rattle.std.proofs.lemmas.Option.{none-some}
use Rattle.ivy_model.specs.declared.Fault.{Fault}
use Rattle.ivy_model.specs.declared.Record.{Record}
use Rattle.ivy_model.specs.declared.Reply.{Reply}
use Rattle.ivy_program.specs.stated.Programs.{Program, fetches_of}
use Rattle.ivy_host.specs.stated.Managers.{Managed, managed_ops}
use Rattle.ivy_program.specs.declared.machine.Next.{Next}
use Rattle.ivy_program.specs.declared.machine.Next.TheVariants as next
use Rattle.ivy_program.specs.stated.InstructionSteps.{Process, Asks, Local, Ends, at_state, step_of}
use Rattle.ivy_program.specs.InstructionSteps.{HasEnded, TellsStep}
use Rattle.ivy_moves.specs.Marks.{Mark, Turn}
use Rattle.ivy_memory.specs.stated.Memories.{NodeMemory}
use Rattle.ivy_host.specs.stated.Hosts.{Host, number_of, turn_of}
use Rattle.ivy_link.specs.Outboxes.{Outbox}
use Rattle.ivy_site.specs.Calls.{RecordsReply, recorded_by}
use Rattle.ivy_site.specs.SiteView.{SiteView, box_of, shown_of}
use Rattle.ivy_site.specs.Sites.{AreUsed, SiteTurns, IsSpentTurn, IsMadeByEvents, HoldsEarly, IsSite}
use Rattle.ivy_site.specs.Inside.{HasTurn, AfterHostTurn, HasNoNumbers, host_of}
use Rattle.ivy_host.proofs.Same.{turn-same}
use Rattle.ivy_host.proofs.WellBehaved.{IsAskingHost, turn-asking}
use Rattle.ivy_site.specs.declared.turn.Turn.TheVariants as turn
use Rattle.ivy_link.specs.stated.Linked.{Linked, peer_at, after_sends}
use Rattle.ivy_link.proofs.Sending.{sends-me}
use Rattle.ivy_link.proofs.Holds.{sends-delivered}
use Rattle.ivy_host.proofs.Programs.{asked-used, posting-link, turned-program}
use Rattle.ivy_host.proofs.Turns.{none-due}
use Rattle.ivy_site.proofs.Calling.{host-used, used-due}
use Rattle.ivy_site.proofs.HeldStrings.{IsQuiet, quiet_holds}
use Rattle.ivy_site.proofs.Made.{turn_made, turn_early}
use Rattle.ivy_site.proofs.Turning.{turn_steps, moved_quietly, moved_by_call, spent_call}

abbrev H : Type 0
H = Host Managed

-- the site with this core, and these events listed
abbrev with_core : SiteView → H → List Mark → SiteView
with_core v h events =
    record {
      config = v.config;
      opened = v.opened;
      me = v.me;
      node = record { core = h; link = v.node.link };
      events = events;
      waiting = v.waiting;
      held = v.held;
      keep = v.keep;
    }

hosts : (m m' : NodeMemory Managed) (p p' : Process) (hs hs' : List Record) → m ≡ m' → p ≡ p'
    → hs ≡ hs' → host_of m p hs ≡ host_of m' p' hs'
hosts m m' p p' hs hs' a b d =
    ap (λ x. host_of x p hs) a ∙ (ap (λ x. host_of m' x hs) b ∙ ap (λ x. host_of m' p' x) d)

stays_so : (v : SiteView) → AreUsed v.node.core → (m : NodeMemory Managed) (p : Process) (hs : List Record)
    (events : List Mark) → m ≡ v.node.core.memory → p ≡ v.node.core.process
    → hs ≡ v.node.core.history → events ≡ v.events → with_core v (host_of m p hs) events ≡ v
stays_so v used m p hs events a b d e =
    ap (λ h. with_core v h events)
    (hosts m v.node.core.memory p v.node.core.process hs v.node.core.history a b d
    ∙ host-used v.node.core v.node.core.memory v.node.core.history used)
    ∙ ap (λ es. with_core v v.node.core es) e

-- the program has ended
pub ended_turn : (n v : SiteView) → v ≡ n → AreUsed v.node.core
    → (x : Next) (p : Process) (hs : List Record) (events : List Mark)
    → v.node.core.memory.asked ≡ None → TellsStep x v.node.core.process p → x ≡ next.Ended
    → hs ≡ v.node.core.history → events ≡ v.events
    → HasEnded n.node.core.process × (turn_of managed_ops n.node.core ≡ None)
    × (with_core v (host_of v.node.core.memory p hs) events ≡ n)
ended_turn n v same used x p hs events idle steps is history listed =
    let s : TellsStep next.Ended v.node.core.process p =
    subst (λ y. TellsStep y v.node.core.process p) is steps in (
      subst (λ (y : SiteView). HasEnded y.node.core.process) same s.0,
      subst (λ (y : SiteView). turn_of managed_ops y.node.core ≡ None) same
          (turn_steps v.node.core Ends used idle s.0),
      stays_so v used v.node.core.memory p hs events refl s.1 history listed ∙ same,
    )

-- an instruction of its own
pub local_turn : (n v : SiteView) → v ≡ n → AreUsed v.node.core
    → (x : Next) (p : Process) (hs : List Record) (events : List Mark)
    → v.node.core.memory.asked ≡ None → TellsStep x v.node.core.process p → x ≡ next.Local
    → hs ≡ v.node.core.history → events ≡ v.events ++ Turn ∷ []
    → SiteTurns n (with_core v (host_of v.node.core.memory p hs) events)
local_turn n v same used x p hs events idle steps is history listed =
    let s : TellsStep next.Local v.node.core.process p =
    subst (λ y. TellsStep y v.node.core.process p) is steps in
    let h : H = record v.node.core { process = at_state v.node.core.process p.state } in
    let so : host_of v.node.core.memory p hs ≡ h =
    hosts v.node.core.memory v.node.core.memory p h.process hs h.history refl s.1 history
    ∙ host-used h h.memory h.history used in
    subst (λ y. SiteTurns n (with_core v y events)) (sym so)
    (moved_quietly n v same h events (turn_steps v.node.core (Local p.state) used idle s.0) listed)

-- a program that makes a call does not go on yet
pub makes_call : (h : H) (c : Call) (x : Next) (p : Process) (hs : List Record)
    → AreUsed h → TellsStep x h.process p → x ≡ next.Call c → hs ≡ h.history
    → host_of h.memory p hs ≡ h
makes_call h c x p hs used steps is history =
    let s : TellsStep (next.Call c) h.process p = subst (λ y. TellsStep y h.process p) is steps in
    (λ j. host_of h.memory (s.1 j) (history j)) ∙ host-used h h.memory h.history used

-- `k` is the host as the code has it then
pub spent_turn : (n v : SiteView) → v ≡ n → (k : H) (f : Fault) → k ≡ v.node.core
    → HasNoNumbers k (box_of v) f → IsSpentTurn n f
spent_turn n v same k f rests cannot =
    spent_call n v same f (subst (λ h. HasNoNumbers h (box_of v) f) rests cannot)

pub called_turn : (n v : SiteView) → v ≡ n → (k h : H) (box : Outbox) (reserved events : List Mark)
    → k ≡ v.node.core → HasTurn k (box_of v) h box
    → reserved ≡ v.events → events ≡ reserved ++ Turn ∷ [] → SiteTurns n (shown_of v.opened v.keep h box events)
called_turn n v same k h box reserved events rests b room listed =
    moved_by_call n v same h box events (subst (λ x. HasTurn x (box_of v) h box) rests b)
    (listed ∙ ap (λ es. es ++ Turn ∷ []) room)

-- a turn delivers nothing
turns_quietly : (old new : SiteView) → IsMadeByEvents old → SiteTurns old new → IsQuiet old new
turns_quietly old new made t =
    let link : t.effect.after.link ≡ after_sends old.node.link t.outcome.posted =
    posting-link old.node t.outcome.after t.outcome.posted t.effect t.sent in
    record {
      held = ap (λ (x : SiteView). x.held) t.after;
      config = ap (λ (x : SiteView). x.config) t.after;
      me = ap (λ (x : SiteView). x.node.link.me) t.after
          ∙ (ap (λ (l : Linked). l.me) link ∙ sends-me old.node.link t.outcome.posted);
      delivered =
          λ j. ap (λ (x : SiteView). (peer_at x.node.link j).delivered) t.after
          ∙ (ap (λ (l : Linked). (peer_at l j).delivered) link
          ∙ sends-delivered old.node.link t.outcome.posted j);
      more = [];
      early = turn_early turn.Moved old new made t;
    }

-- what holds of a site but for its fetches, which may have one that waits
pub record IsHanded (s : SiteView) : Type 0 where
  pub config : s.node.core.memory.coherence.config ≡ s.config
  pub me : s.node.core.memory.coherence.me ≡ s.me
  pub asking : IsAskingHost s.node.core
  pub made : IsMadeByEvents s
  pub held : HoldsEarly s

pub turned_site : (v : SiteView) (k h : H) (box : Outbox) (reserved events : List Mark)
    → IsHanded v → k ≡ v.node.core → HasTurn k (box_of v) h box → AreUsed h
    → reserved ≡ v.events → events ≡ reserved ++ Turn ∷ [] → IsSite (shown_of v.opened v.keep h box events)
turned_site v k h box reserved events s rests b0 used room listed =
    let b : HasTurn v.node.core (box_of v) h box =
    subst (λ x. HasTurn x (box_of v) h box) rests b0 in
    let well = turn-same managed_ops v.node.core b.outcome b.turn in
    record {
      fetched = used;
      config =
          ap (λ (x : H). x.memory.coherence.config) b.host
          ∙ (well.config ∙ (s.config ∙ sym (ap (λ (x : Outbox). x.config) b.sent)));
      me = ap (λ (x : H). x.memory.coherence.me) b.host
          ∙ (well.me ∙ (s.me ∙ sym (ap (λ (x : Outbox). x.me) b.sent)));
      asking =
          subst IsAskingHost (sym b.host)
          (turn-asking managed_ops v.node.core b.outcome s.asking b.turn);
      made = turn_made turn.Moved v (shown_of v.opened v.keep h box events) s.made
          (called_turn v v refl k h box reserved events rests b0 room listed);
      held = quiet_holds v (shown_of v.opened v.keep h box events) s.held
          (turns_quietly v (shown_of v.opened v.keep h box events) s.made
          (called_turn v v refl k h box reserved events rests b0 room listed));
    }

pub called_site : (v : SiteView) (k h : H) (box : Outbox) (reserved events : List Mark) → IsSite v
    → k ≡ v.node.core → HasTurn k (box_of v) h box
    → reserved ≡ v.events → events ≡ reserved ++ Turn ∷ [] → IsSite (shown_of v.opened v.keep h box events)
called_site v k h box reserved events s rests b room listed =
    let t : HasTurn v.node.core (box_of v) h box =
    subst (λ x. HasTurn x (box_of v) h box) rests b in
    turned_site v k h box reserved events
    (record { config = s.config; me = s.me; asking = s.asking; made = s.made; held = s.held }) rests b
    (subst AreUsed (sym t.host)
    (asked-used v.node.core v.node.core.memory.asked t.outcome
    (sym (none-due managed_ops v.node.core (used-due v.node.core s.fetched)) ∙ t.turn)
    ∙ s.fetched
    ∙ sym (ap (λ (p : Program). length (fetches_of p))
    (turned-program v.node.core t.outcome t.turn))))
    room listed

-- what holds of a site holds after an instruction of its own
pub local_site : (v : SiteView) (x : Next) (p : Process) (hs : List Record) (events : List Mark)
    → IsSite v → v.node.core.memory.asked ≡ None → TellsStep x v.node.core.process p
    → x ≡ next.Local
    → hs ≡ v.node.core.history → events ≡ v.events ++ Turn ∷ []
    → IsSite (with_core v (host_of v.node.core.memory p hs) events)
local_site v x p hs events s idle steps is history listed = record {
  config = s.config;
  me = s.me;
  asking = λ call asked. absurd (none-some call (sym idle ∙ asked));
  fetched = refl;
  made = turn_made turn.Moved v (with_core v (host_of v.node.core.memory p hs) events) s.made
      (local_turn v v refl s.fetched x p hs events idle steps is history listed);
  held = quiet_holds v (with_core v (host_of v.node.core.memory p hs) events) s.held
      (turns_quietly v (with_core v (host_of v.node.core.memory p hs) events) s.made
      (local_turn v v refl s.fetched x p hs events idle steps is history listed));
}

-- whether anything changed
pub has_turned : (b : Bool) → b ≡ true → (old : H) (box : Outbox) (new : H) (after : Outbox)
    → AfterHostTurn b old box new after → HasTurn old box new after
has_turned true is old box new after h = h
has_turned false is old box new after h = absurd cc

pub not_turned : (b : Bool) → b ≡ false → (old : H) (box : Outbox) (new : H) (after : Outbox)
    → AfterHostTurn b old box new after → AfterHostTurn false old box new after
not_turned true is old box new after h = absurd cc
not_turned false is old box new after h = h

-- the reply that the turn recorded, to the call in progress
pub replied : (n v : SiteView) → v ≡ n → (call : Call) (reply : Option Reply) (hs : List Record)
    (new : SiteView) → v.node.core.memory.asked ≡ Some call → hs ≡ v.node.core.history
    → new.node.core.history ≡ recorded_by hs (number_of v.node.core) call reply
    → RecordsReply reply n new
replied n v same call None hs new asked rests is =
    is ∙ rests ∙ ap (λ (x : SiteView). x.node.core.history) same
replied n v same call (Some reply) hs new asked rests is =
    subst (λ x. RecordsReply (Some reply) x new) same (
      call,
      subst (λ o. MatchOption o (step_of v.node.core.process ≡ Asks call) (λ k. k ≡ call))
          (sym asked) refl,
      is ∙ ap (λ rs. recorded_by rs (number_of v.node.core) call (Some reply)) rests,
    )

-- and to the call that begins in it
pub begun_reply : (n v : SiteView) → v ≡ n → (call : Call) (reply : Option Reply) (x : Next)
    (p : Process) (hs : List Record) (new : SiteView) → v.node.core.memory.asked ≡ None
    → TellsStep x v.node.core.process p → x ≡ next.Call call → hs ≡ v.node.core.history
    → new.node.core.history ≡ recorded_by hs (number_of v.node.core) call reply
    → RecordsReply reply n new
begun_reply n v same call None x p hs new idle steps told rests is =
    is ∙ rests ∙ ap (λ (y : SiteView). y.node.core.history) same
begun_reply n v same call (Some reply) x p hs new idle steps told rests is =
    let s : TellsStep (next.Call call) v.node.core.process p =
    subst (λ y. TellsStep y v.node.core.process p) told steps in
    subst (λ y. RecordsReply (Some reply) y new) same (
      call,
      subst (λ o. MatchOption o (step_of v.node.core.process ≡ Asks call) (λ k. k ≡ call))
          (sym idle) s.0,
      is ∙ ap (λ rs. recorded_by rs (number_of v.node.core) call (Some reply)) rests,
    )

-- nothing changed
pub idle_turn : (n v : SiteView) → v ≡ n → (k h : H) (box : Outbox) (events : List Mark)
    → k ≡ v.node.core → AfterHostTurn false k (box_of v) h box → events ≡ v.events
    → (turn_of managed_ops n.node.core ≡ None) × (shown_of v.opened v.keep h box events ≡ n)
idle_turn n v same k h box events rests after listed = (
  subst (λ (y : SiteView). turn_of managed_ops y.node.core ≡ None) same
      (subst (λ x. turn_of managed_ops x ≡ None) rests after.0),
  (λ j. shown_of v.opened v.keep ((after.1 ∙ rests) j) (after.2 j) (listed j)) ∙ same,
)
