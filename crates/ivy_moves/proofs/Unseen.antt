-- The events of a node that is changed where neither its turns nor messages see it.
use Rattle.std.proofs.Common.{◌≡◌, ℕ, List, [], ◌∷◌, ◌++◌, Bool, true, false, Option, Some, None}
use Rattle.std.proofs.Common.{option_map, refl, sym, ap, ◌∙◌, Result, Ok, Err, if◌then◌else◌, map}
use Rattle.ivy_model.specs.declared.Config.{Config}
use Rattle.ivy_model.specs.declared.Fault.{Fault}
use Rattle.ivy_wire.specs.declared.FrameKind.{FrameKind}
use Rattle.ivy_wire.specs.stated.Data.{Message, Frame, Parcel}
use Rattle.ivy_wire.specs.stated.Spelling.{spelling}
use Rattle.ivy_wire.specs.stated.DecodeErrors.{checked}
use Rattle.ivy_wire.specs.stated.Reading.{frame_at}
use Rattle.ivy_link.specs.declared.Verdict.{Verdict}
use Rattle.ivy_link.specs.declared.Verdict.TheVariants as verdict
use Rattle.ivy_link.specs.stated.Linked.{has_numbers, sends}
use Rattle.ivy_link.specs.stated.Accepted.{offered}
use Rattle.ivy_moves.specs.stated.Cores.{Core, Outcome}
use Rattle.ivy_moves.specs.Marks.{Mark, Turn, Delivery, Pulse}
use Rattle.ivy_moves.specs.stated.Nodes.{Node, Effect, posting, accepting, turned_to, turned, served_next}
use Rattle.ivy_moves.specs.stated.Nodes.{received_as, received, delivered_as, delivered, verdict_as, pulsing}
use Rattle.ivy_moves.specs.Early.{early_as, early_by, after_mark, early_in}
use Rattle.ivy_moves.specs.Parts.{Happens, AllHappen}
use Rattle.ivy_moves.specs.Carrying.{changed, node_changed, effect_changed, IsUnseen}
use Rattle.ivy_moves.specs.Carrying.{EventsCarryOver}
use Rattle.ivy_moves.proofs.Early.{mark-after}

module _ {C : Type 0} (rules : Core C) (c : Config) (g : C → C) (unseen : IsUnseen rules g) where
  posting-by : (b : Bool) (n : Node C) (core : C) (ps : List Parcel)
      → (if b
      then Some (record {
        after = record { core = g core; link = (sends n.link ps).after };
        sent = map spelling (sends n.link ps).frames;
      }) else None)
      ≡ option_map (effect_changed g) (if b
      then Some (record {
        after = record { core = core; link = (sends n.link ps).after };
        sent = map spelling (sends n.link ps).frames;
      }) else None)
  posting-by true n core ps = refl
  posting-by false n core ps = refl

  pub posting-over : (n : Node C) (core : C) (ps : List Parcel)
      → posting (node_changed g n) (g core) ps ≡ option_map (effect_changed g) (posting n core ps)
  posting-over n core ps = posting-by (has_numbers n.link ps) n core ps

  accepting-over : (f : Frame) (o : Option (Effect C))
      → accepting f (option_map (effect_changed g) o) ≡ option_map (effect_changed g) (accepting f o)
  accepting-over f None = refl
  accepting-over f (Some e) = refl

  served-over : (n : Node C) (f : Frame) (body : Option Message)
      → served_next rules (node_changed g n) f body
      ≡ option_map (effect_changed g) (served_next rules n f body)
  served-over n f None = refl
  served-over n f (Some m) =
      ap (λ (o : Outcome C). accepting f (posting (node_changed g n) o.after o.posted))
      (unseen.serve n.core f.source m)
      ∙ ap (accepting f)
      (posting-over n (rules.serve n.core f.source m).after (rules.serve n.core f.source m).posted)
      ∙ accepting-over f
      (posting n (rules.serve n.core f.source m).after (rules.serve n.core f.source m).posted)

  received-over : (v : Verdict) (n : Node C) (f : Frame)
      → received_as rules v (node_changed g n) f ≡ option_map (effect_changed g) (received_as rules v n f)
  received-over verdict.NotMine n f = refl
  received-over verdict.Next n f = served-over n f f.body
  received-over verdict.Repeat n f = refl
  received-over verdict.Ahead n f = refl

  delivered-as : (r : Result FrameKind Fault) (n : Node C) (bytes : List ℕ)
      → delivered_as rules r (node_changed g n) bytes
      ≡ option_map (effect_changed g) (delivered_as rules r n bytes)
  unfolding received
  delivered-as (Err fault) n bytes = refl
  delivered-as (Ok kind) n bytes =
      received-over (offered n.link (frame_at kind bytes)) n (frame_at kind bytes)

  pub delivered-over : (n : Node C) (bytes : List ℕ)
      → delivered rules c (node_changed g n) bytes ≡ option_map (effect_changed g) (delivered rules c n bytes)
  unfolding delivered
  delivered-over n bytes = delivered-as (checked c bytes) n bytes

  pub verdict-over : (r : Result FrameKind Fault) (n : Node C) (bytes : List ℕ)
      → verdict_as r (node_changed g n) bytes ≡ verdict_as r n bytes
  verdict-over (Err fault) n bytes = refl
  verdict-over (Ok kind) n bytes = refl

  pub pulsing-over : (n : Node C) (to : ℕ) → pulsing (node_changed g n) to ≡ effect_changed g (pulsing n to)
  unfolding pulsing
  pulsing-over n to = refl

  -- an event, and a list of events
  happens-over : (n : Node C) (m : Mark) (e : Effect C) → Happens rules c n m e
      → Happens rules c (node_changed g n) m (effect_changed g e)
  unfolding turned
  happens-over n Turn e h =
      let o : Outcome C = h.0.0 in
      let turn' : rules.turn (g n.core) ≡ Some (changed g o) = unseen.turn n.core o h.0.1 in
      let old : posting n o.after o.posted ≡ Some e = sym (ap (turned_to rules n) h.0.1) ∙ h.1 in (
        (changed g o, turn'),
        ap (turned_to rules (node_changed g n)) turn' ∙ posting-over n o.after o.posted
            ∙ ap (option_map (effect_changed g)) old,
      )
  happens-over n (Delivery bytes) e h = (
    (λ not. h.0 (sym (verdict-over (checked c bytes) n bytes) ∙ not)),
    delivered-over n bytes ∙ ap (option_map (effect_changed g)) h.1,
  )
  happens-over n (Pulse to) e h = (
    ap (effect_changed g) h.0 ∙ sym (pulsing-over n to),
    h.1,
  )

  all_over : (n : Node C) (ms : List Mark) (e : Effect C) → AllHappen rules c n ms e
      → AllHappen rules c (node_changed g n) ms (effect_changed g e)
  all_over n [] e h = ap (effect_changed g) h
  all_over n (m ∷ ms) e h = (
    effect_changed g h.0,
    happens-over n m h.0 h.1,
    (effect_changed g h.2.0, all_over h.0.after ms h.2.0 h.2.1, ap (effect_changed g) h.2.2),
  )

  -- the strings that came too early are the same
  by-over : (n : Node C) (m : Mark) → early_by rules c (node_changed g n) m ≡ early_by rules c n m
  by-over n Turn = refl
  by-over n (Delivery bytes) =
      ap (λ v. early_as v bytes) (verdict-over (checked c bytes) n bytes)
  by-over n (Pulse to) = refl

  early-over : (n : Node C) (ms : List Mark) (e : Effect C) → AllHappen rules c n ms e
      → early_in rules c (node_changed g n) ms ≡ early_in rules c n ms
  early-over n [] e h = refl
  early-over n (m ∷ ms) e h =
      ap (λ l. l ++ early_in rules c (after_mark rules c (node_changed g n) m) ms) (by-over n m)
      ∙ ap (λ k. early_by rules c n m ++ early_in rules c k ms)
      (mark-after rules c (node_changed g n) m (effect_changed g h.0) (happens-over n m h.0 h.1))
      ∙ ap (λ l. early_by rules c n m ++ l) (early-over h.0.after ms h.2.0 h.2.1)
      ∙ ap (λ k. early_by rules c n m ++ early_in rules c k ms)
      (sym (mark-after rules c n m h.0 h.1))

  pub events-over : (n : Node C) (ms : List Mark) (e : Effect C) → AllHappen rules c n ms e
      → EventsCarryOver rules c g n ms e
  events-over n ms e h = record { happen = all_over n ms e h; early = early-over n ms e h }
