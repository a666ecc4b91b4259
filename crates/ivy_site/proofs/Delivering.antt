-- What a delivery to a site is, from what its parts did. `v` is what the fields are seen as, `n`
-- the value.
use Rattle.std.proofs.Common.{◌≡◌, ◌≢◌, ◌==◌, if◌then◌else◌, ℕ, ◌+◌, ◌≤◌, ◌⊎◌, inl, inr, true}
use Rattle.std.proofs.Common.{false, List, [], ◌∷◌, ◌++◌, length, map, Some, None, Contains, Result}
use Rattle.std.proofs.Common.{Ok, Err, MatchResult, refl, sym, ap, ◌∙◌, subst, arith, append-nil}
use Rattle.std.proofs.lemmas.Bool.{cases_eq, ne_eqb}
use Rattle.std.proofs.lemmas.List.{length-append}
use Rattle.std.proofs.lemmas.List.Elements.{Contains-push}
use Rattle.ivy_model.specs.declared.Config.{Config}
use Rattle.ivy_model.specs.declared.Fault.{Fault}
use Rattle.ivy_model.specs.declared.Fault.TheVariants as fault
use Rattle.ivy_model.specs.stated.Config.{IsConfig}
use Rattle.ivy_wire.specs.declared.FrameKind.{FrameKind}
use Rattle.ivy_wire.specs.stated.Data.{Message, Frame, Parcel}
use Rattle.ivy_wire.specs.stated.Spelling.{Spells, spelling, frame_kind}
use Rattle.ivy_wire.specs.stated.DecodeErrors.{checked}
use Rattle.ivy_wire.specs.stated.Reading.{frame_at}
use Rattle.ivy_wire.proofs.Frames.{spelled_once}
use Rattle.ivy_link.specs.declared.Verdict.{Verdict}
use Rattle.ivy_link.specs.declared.Verdict.TheVariants as verdict
use Rattle.ivy_link.specs.stated.Linked.{Linked, peer_at, sends, has_numbers}
use Rattle.ivy_link.specs.stated.Accepted.{verdict_on, offered, accepted}
use Rattle.ivy_link.specs.Fitting.{FitsLink}
use Rattle.ivy_link.specs.Holding.{moved_at}
use Rattle.ivy_link.specs.Holding as holding
use Rattle.ivy_link.proofs.Sending.{sends-me, sends-peers}
use Rattle.ivy_link.proofs.Peers.{accepted-me}
use Rattle.ivy_link.proofs.Holds.{sends-delivered}
use Rattle.ivy_host.specs.stated.Managers.{Managed, managed_ops}
use Rattle.ivy_moves.specs.Marks.{Mark, Delivery}
use Rattle.ivy_moves.specs.stated.Cores.{Core}
use Rattle.ivy_moves.specs.stated.Nodes.{Node, Effect, stays, posting, accepting, served_next, received, received_as, delivered, delivered_as}
use Rattle.ivy_coherence.specs.EventLimits.{most_posted}
use Rattle.ivy_memory.specs.stated.Memories.{NodeMemory, memory_handled, memory_told}
use Rattle.ivy_host.specs.stated.Hosts.{Host, host_rules, serving}
use Rattle.ivy_link.specs.Outboxes.{Outbox, HasNumbers, RefusesParcels, holding_of, with_holding, posted_by}
use Rattle.ivy_site.specs.SiteView.{SiteView, after_hearing, after_delivery, box_of, shown_of}
use Rattle.ivy_site.specs.Sites.{early_at, AreUsed, SiteDelivers, IsSpentDelivery, IsSite}
use Rattle.ivy_site.specs.Inside.{CameEarlyAs}
use Rattle.ivy_link.proofs.Boxes.{as_many}
use Rattle.ivy_moves.specs.Early.{early_as}
use Rattle.ivy_site.proofs.Made.{delivery_made, delivery_early}
use Rattle.ivy_site.proofs.HeldStrings.{hearing-holds}
use Rattle.ivy_memory.specs.Asking.{IsMessageWant}
use Rattle.ivy_memory.proofs.keeping.Same.{told-same}
use Rattle.ivy_host.proofs.WellBehaved.{serve-asking}
use Rattle.ivy_host.proofs.WellBehaved.{IsAskingHost}

abbrev H : Type 0
H = Host Managed

abbrev rules : Core H
rules = host_rules managed_ops

-- a frame was read from the string, and this is what it is to the node
pub record IsRead (v : SiteView) (k : Config) (f : Frame) (bytes : List ℕ) (w : Verdict) : Type 0 where
  pub config : k ≡ v.config
  pub limits : IsConfig k
  pub spelled : Spells k f bytes
  pub is : w ≡ offered v.node.link f

spelled_here : (v : SiteView) (k : Config) (f : Frame) (bytes : List ℕ) (w : Verdict)
    → IsRead v k f bytes w → Spells v.config f bytes
spelled_here v k f bytes w r = subst (λ x. Spells x f bytes) r.config r.spelled

receives : (v : SiteView) (k : Config) (f : Frame) (bytes : List ℕ) (w : Verdict)
    → IsRead v k f bytes w → delivered rules v.config v.node bytes ≡ received_as rules w v.node f
unfolding delivered received
receives v k f bytes w r =
    let once : (checked v.config bytes ≡ Ok (frame_kind f.body))
    × (frame_at (frame_kind f.body) bytes ≡ f) =
    spelled_once v.config f bytes (subst IsConfig r.config r.limits)
    (spelled_here v k f bytes w r) in
    ap (λ x. delivered_as rules x v.node bytes) once.0
    ∙ (ap (λ x. received rules v.node x) once.1
    ∙ ap (λ x. received_as rules x v.node f) (sym r.is))

-- a string that no frame was read from is not delivered
refused_is : (c : Config) (m : Node H) (bytes : List ℕ) (x : Result FrameKind Fault)
    → checked c bytes ≡ x
    → (Q : Fault → Type 0) → MatchResult x (λ k. false ≡ true) Q → delivered rules c m bytes ≡ None
unfolding delivered
refused_is c m bytes (Ok kind) is Q why = absurd cc
refused_is c m bytes (Err k) is Q why = ap (λ x. delivered_as rules x m bytes) is

pub spent_reading : (n v : SiteView) → v ≡ n
    → (k : Config) (bytes : List ℕ) (e : Fault) (Q : Fault → Type 0) → k ≡ v.config
    → MatchResult (checked k bytes) (λ x. false ≡ true) Q → IsSpentDelivery n bytes e
spent_reading n v same k bytes e Q config why spent =
    subst (λ (x : SiteView). delivered rules x.config x.node bytes ≡ None) same
    (subst (λ x. delivered rules x v.node bytes ≡ None) config
    (refused_is k v.node bytes (checked k bytes) refl Q why))

-- a frame for another node
pub not_mine : (n v : SiteView) → v ≡ n → (k : Config) (f : Frame) (bytes : List ℕ) (w : Verdict)
    → IsRead v k f bytes w → w ≡ verdict.NotMine → SiteDelivers bytes w n n
not_mine n v same k f bytes w r not =
    subst (λ x. SiteDelivers bytes w x x) same
    (record {
      frame = f;
      spelled = spelled_here v k f bytes w r;
      is = r.is;
      effect = stays v.node;
      delivered = receives v k f bytes w r ∙ ap (λ x. received_as rules x v.node f) not;
      after = sym (ap (λ x. after_delivery v bytes x f.source (stays v.node)) not);
    })

numbers_out : (e : Fault) (o : Outbox) (ps : List Parcel) → RefusesParcels o ps e
    → e ≡ fault.NumbersSpent → has_numbers o.link ps ≡ false
numbers_out e o ps why spent = subst (λ x. RefusesParcels o ps x) spent why

not_sent : (m : Node H) (h : H) (ps : List Parcel) → has_numbers m.link ps ≡ false
    → posting m h ps ≡ None
not_sent m h ps numbers = rw numbers refl

is_sent : (m : Node H) (h : H) (ps : List Parcel) → has_numbers m.link ps ≡ true
    → posting m h ps
    ≡ Some (record {
      after = record { core = h; link = (sends m.link ps).after };
      sent = map spelling (sends m.link ps).frames;
    })
is_sent m h ps numbers = rw numbers refl

-- what the message of the next frame posts has no numbers
spent_post : (n v : SiteView) → v ≡ n → (k : Config) (f : Frame) (bytes : List ℕ) (w : Verdict)
    → IsRead v k f bytes w → w ≡ verdict.Next → (m : Message) → f.body ≡ Some m → (e : Fault)
    → RefusesParcels (box_of v) (memory_handled managed_ops v.node.core.memory f.source m).posted e
    → IsSpentDelivery n bytes e
unfolding serving
spent_post n v same k f bytes w r next m body e why spent =
    subst (λ (x : SiteView). delivered rules x.config x.node bytes ≡ None) same
    (receives v k f bytes w r
    ∙ (ap (λ x. received_as rules x v.node f) next ∙ (ap (served_next rules v.node f) body
    ∙ ap (accepting f)
    (not_sent v.node (serving managed_ops v.node.core f.source m).after
    (serving managed_ops v.node.core f.source m).posted
    (numbers_out e (box_of v) (memory_handled managed_ops v.node.core.memory f.source m).posted why
    spent)))))

-- nor is it for want of numbers that the heap does not grow
pub spent_message : {B C : Type 0} (n v : SiteView) → v ≡ n
    → (k : Config) (f : Frame) (bytes : List ℕ) (w : Verdict) → IsRead v k f bytes w
    → w ≡ verdict.Next → (m : Message) → f.body ≡ Some m → (e : Fault)
    → (IsMessageWant v.node.core.memory.coherence
    (memory_handled managed_ops v.node.core.memory f.source m).posted e × B)
    ⊎ (RefusesParcels (box_of v) (memory_handled managed_ops v.node.core.memory f.source m).posted e
    × C)
    → IsSpentDelivery n bytes e
spent_message n v same k f bytes w r next m body e why spent =
    elim why [
      | inl grows ↦ let not : fault.Memory ≡ fault.NumbersSpent = sym grows.0.1 ∙ spent in absurd cc
      | inr refuses ↦ spent_post n v same k f bytes w r next m body e refuses.0 spent
    ]

-- the frame was heard: what the node and its outbox are before the frame is accepted
pub record IsHeard (v : SiteView) (f : Frame) (w : Verdict) (h : H) (box : Outbox) : Type 0 where
  pub link : Linked
  pub sent : List (List ℕ)
  pub received : received_as rules w v.node f
      ≡ accepting f (Some (record { after = record { core = h; link = link }; sent = sent }))
  pub outbox : box
      ≡ record {
        config = v.config;
        me = v.me;
        link = link;
        waiting = v.waiting ++ sent;
        held = v.held;
      }
  pub few : length sent ≤ most_posted
  pub same_me : link.me ≡ v.node.link.me
  pub peers : length link.peers ≡ length v.node.link.peers
  pub same : (j : ℕ) → (peer_at link j).delivered ≡ (peer_at v.node.link j).delivered
  pub config : h.memory.coherence.config ≡ v.node.core.memory.coherence.config
  pub me : h.memory.coherence.me ≡ v.node.core.memory.coherence.me
  pub asking : IsAskingHost v.node.core → IsAskingHost h
  pub used : AreUsed v.node.core → AreUsed h

quietly_as : (w : Verdict) (m : Node H) (f : Frame) → (w ≡ verdict.NotMine → ⊥)
    → (w ≡ verdict.Next → f.body ≡ None) → received_as rules w m f ≡ accepting f (Some (stays m))
quietly_as verdict.NotMine m f ne none = absurd (ne refl)
quietly_as verdict.Next m f ne none = ap (served_next rules m f) (none refl)
quietly_as verdict.Repeat m f ne none = refl
quietly_as verdict.Ahead m f ne none = refl

pub heard_quietly : (v : SiteView) (f : Frame) (w : Verdict) → (w ≡ verdict.NotMine → ⊥)
    → (w ≡ verdict.Next → f.body ≡ None) → IsHeard v f w v.node.core (box_of v)
heard_quietly v f w ne none = record {
  link = v.node.link;
  sent = [];
  received = quietly_as w v.node f ne none;
  outbox =
      ap (λ (ws : List (List ℕ)).
      record { config = v.config; me = v.me; link = v.node.link; waiting = ws; held = v.held })
      (sym (append-nil v.waiting));
  few = omega arith;
  same_me = refl;
  peers = refl;
  same = λ j. refl;
  config = refl;
  me = refl;
  asking = λ a. a;
  used = λ a. a;
}

-- by a message that is served
told_message : (v : SiteView) (f : Frame) (w : Verdict) (m : Message) → w ≡ verdict.Next
    → f.body ≡ Some m
    → HasNumbers (box_of v) (memory_handled managed_ops v.node.core.memory f.source m).posted
    → length (memory_handled managed_ops v.node.core.memory f.source m).posted ≤ most_posted
    → IsHeard v f w (serving managed_ops v.node.core f.source m).after
    (posted_by (box_of v) (memory_handled managed_ops v.node.core.memory f.source m).posted)
unfolding serving
told_message v f w m next body numbers few =
    let ps : List Parcel = (memory_handled managed_ops v.node.core.memory f.source m).posted in
    let same = told-same managed_ops v.node.core.memory f.source m in
    record {
      link = (sends v.node.link ps).after;
      sent = map spelling (sends v.node.link ps).frames;
      received =
          ap (λ x. received_as rules x v.node f) next
          ∙ (ap (served_next rules v.node f) body
          ∙ ap (accepting f)
          (is_sent v.node (serving managed_ops v.node.core f.source m).after ps numbers));
      outbox = refl;
      few = omega (arith, as_many v.node.link ps, few);
      same_me = sends-me v.node.link ps;
      peers = sends-peers v.node.link ps;
      same = sends-delivered v.node.link ps;
      config = same.config;
      me = same.me;
      asking = λ a. serve-asking managed_ops v.node.core f.source m a;
      used = λ a. a;
    }

pub heard_message : (v : SiteView) (f : Frame) (w : Verdict) (m : Message)
    (memory : NodeMemory Managed) (box : Outbox) → w ≡ verdict.Next → f.body ≡ Some m
    → memory ≡ memory_told managed_ops v.node.core.memory f.source m
    → HasNumbers (box_of v) (memory_handled managed_ops v.node.core.memory f.source m).posted
    → length (memory_handled managed_ops v.node.core.memory f.source m).posted ≤ most_posted
    → box ≡ posted_by (box_of v) (memory_handled managed_ops v.node.core.memory f.source m).posted
    → IsHeard v f w
    (record v.node.core { memory = memory })
    box
unfolding serving
heard_message v f w m memory box next body told numbers few posted =
    subst (λ x. IsHeard v f w
    (record v.node.core { memory = memory })
    x) (sym posted)
    (subst (λ x. IsHeard v f w
    (record v.node.core { memory = x })
    (posted_by (box_of v) (memory_handled managed_ops v.node.core.memory f.source m).posted))
    (sym told)
    (told_message v f w m next body numbers few))

-- then the frame is accepted, and the event listed

-- what the frame is does not change while its message is served
offered_same : (v : SiteView) (f : Frame) (w : Verdict) (h : H) (box : Outbox)
    → (x : IsHeard v f w h box) → offered x.link f ≡ offered v.node.link f
offered_same v f w h box x =
    ap (λ m. if f.dest == m then verdict_on (peer_at x.link f.source).delivered f.number
    else verdict.NotMine) x.same_me
    ∙ ap (λ d. if f.dest == v.node.link.me then verdict_on d f.number else verdict.NotMine)
    (x.same f.source)

abbrev heard_box : SiteView → Linked → List (List ℕ) → Frame → Verdict → Outbox
heard_box v link sent f w =
    record {
      config = v.config;
      me = v.me;
      link = accepted link f;
      waiting = v.waiting ++ sent;
      held = moved_at w v.held f.source;
    }

after_heard : (v : SiteView) (f : Frame) (w : Verdict) (h : H) (box new : Outbox)
    → w ≡ offered v.node.link f → (x : IsHeard v f w h box)
    → new ≡ with_holding box (holding.accepted_at (holding_of box) f)
    → new ≡ heard_box v x.link x.sent f w
after_heard v f w h box new said x is =
    is ∙ (ap (λ (b : Outbox). with_holding b (holding.accepted_at (holding_of b) f)) x.outbox
    ∙ ap (heard_box v x.link x.sent f) (offered_same v f w h box x ∙ sym said))

is_event : (v : SiteView) (bytes : List ℕ) (w : Verdict) (source : ℕ) (e : Effect H)
    → (w ≡ verdict.NotMine → ⊥)
    → after_hearing v bytes w source e ≡ after_delivery v bytes w source e
is_event v bytes verdict.NotMine source e ne = absurd (ne refl)
is_event v bytes verdict.Next source e ne = refl
is_event v bytes verdict.Repeat source e ne = refl
is_event v bytes verdict.Ahead source e ne = refl

pub heard_delivers : (n v : SiteView) → v ≡ n → (k : Config) (f : Frame) (bytes : List ℕ) (w : Verdict)
    → IsRead v k f bytes w → (w ≡ verdict.NotMine → ⊥)
    → (h : H) (box new : Outbox) (events : List Mark) → IsHeard v f w h box
    → new ≡ with_holding box (holding.accepted_at (holding_of box) f)
    → events ≡ v.events ++ Delivery bytes ∷ [] → SiteDelivers bytes w n (shown_of v.opened v.keep h new events)
heard_delivers n v same k f bytes w r ne h box new events x is listed =
    let e : Effect H =
    record { after = record { core = h; link = accepted x.link f }; sent = x.sent } in
    subst (λ y. SiteDelivers bytes w y (shown_of v.opened v.keep h new events)) same
    (record {
      frame = f;
      spelled = spelled_here v k f bytes w r;
      is = r.is;
      effect = e;
      delivered = receives v k f bytes w r ∙ x.received;
      after = ap (λ (b : Outbox). shown_of v.opened v.keep h b events) (after_heard v f w h box new r.is x is)
          ∙ (ap (λ (es : List Mark). shown_of v.opened v.keep h (heard_box v x.link x.sent f w) es) listed
          ∙ is_event v bytes w f.source e ne);
    })

-- a frame that is not for another node is for this one
pub offered_mine : (v : SiteView) (f : Frame) → offered v.node.link f ≢ verdict.NotMine
    → f.dest ≡ v.node.link.me
offered_mine v f ne =
    elim (cases_eq f.dest v.node.link.me) [
      | inl e ↦ e
      | inr away ↦ absurd (ne (rw (ne_eqb f.dest v.node.link.me away) refl))
    ]

pub heard_site : (v : SiteView) (k : Config) (f : Frame) (bytes : List ℕ) (w : Verdict)
    → FitsLink v.config v.node.link → IsRead v k f bytes w → (w ≡ verdict.NotMine → ⊥)
    → (h : H) (box new : Outbox) (events : List Mark) → IsSite v → IsHeard v f w h box
    → new ≡ with_holding box (holding.accepted_at (holding_of box) f)
    → events ≡ v.events ++ Delivery bytes ∷ [] → IsSite (shown_of v.opened v.keep h new events)
heard_site v k f bytes w fits r ne h box new events site x is listed =
    let same = after_heard v f w h box new r.is x is in
    let limits : IsConfig v.config = subst IsConfig r.config r.limits in
    let d : SiteDelivers bytes w v (shown_of v.opened v.keep h new events) =
    heard_delivers v v refl k f bytes w r ne h box new events x is listed in
    record {
      config = x.config ∙ site.config ∙ sym (ap (λ (b : Outbox). b.config) same);
      me = x.me ∙ site.me ∙ sym (ap (λ (b : Outbox). b.me) same);
      asking = x.asking site.asking;
      fetched = x.used site.fetched;
      made = delivery_made bytes w v (shown_of v.opened v.keep h new events) limits site.made d;
      held = hearing-holds v (shown_of v.opened v.keep h new events) f w site.held (record {
        link = x.link;
        me = x.same_me;
        delivered = x.same;
        is = r.is ∙ sym (offered_same v f w h box x);
        dest = offered_mine v f (λ not. ne (r.is ∙ not)) ∙ sym x.same_me;
        source = omega (arith, (spelled_here v k f bytes w r).fits.source, fits.nodes, x.peers);
        after = ap (λ (b : Outbox). b.link) same;
        held = ap (λ (b : Outbox). b.held) same;
        same_me = ap (λ (b : Outbox). b.link.me) same ∙ (accepted-me x.link f ∙ x.same_me);
        config = ap (λ (b : Outbox). b.config) same;
        more = early_as w bytes;
        early = (delivery_early bytes w v (shown_of v.opened v.keep h new events) limits site.made d).1;
      });
    }

-- what came too early did so by its event
pub came_as : (bytes : List ℕ) (w : Verdict) (old new : SiteView)
    → early_at new ≡ early_at old ++ early_as w bytes → CameEarlyAs w bytes new
came_as bytes verdict.NotMine old new is = tt
came_as bytes verdict.Next old new is = tt
came_as bytes verdict.Repeat old new is = tt
came_as bytes verdict.Ahead old new is =
    subst (λ l. Contains l bytes) (sym is) (Contains-push (early_at old) bytes)

pub heard_early : (v : SiteView) (k : Config) (f : Frame) (bytes : List ℕ) (w : Verdict)
    → IsRead v k f bytes w → (w ≡ verdict.NotMine → ⊥)
    → (h : H) (box new : Outbox) (events : List Mark) → IsSite v → IsHeard v f w h box
    → new ≡ with_holding box (holding.accepted_at (holding_of box) f)
    → events ≡ v.events ++ Delivery bytes ∷ [] → CameEarlyAs w bytes (shown_of v.opened v.keep h new events)
heard_early v k f bytes w r ne h box new events site x is listed =
    came_as bytes w v (shown_of v.opened v.keep h new events)
    (delivery_early bytes w v (shown_of v.opened v.keep h new events) (subst IsConfig r.config r.limits) site.made
    (heard_delivers v v refl k f bytes w r ne h box new events x is listed)).1

pub heard_few : (n v : SiteView) → v ≡ n → (f : Frame) (w : Verdict) (h : H) (box new : Outbox)
    → w ≡ offered v.node.link f → IsHeard v f w h box
    → new ≡ with_holding box (holding.accepted_at (holding_of box) f)
    → length new.waiting ≤ length n.waiting + most_posted
heard_few n v same f w h box new said x is =
    let count : length new.waiting ≡ length (v.waiting ++ x.sent) =
    ap (λ (b : Outbox). length b.waiting) (after_heard v f w h box new said x is) in
    let before : length v.waiting ≡ length n.waiting = ap (λ (y : SiteView). length y.waiting) same in
    let few = x.few in
    omega (arith, count, before, few, length-append v.waiting x.sent)
