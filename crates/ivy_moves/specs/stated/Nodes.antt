-- The events of a node over its core and its link: a turn, a string delivered, a pulse. Each gives
-- the node after it and the strings that it sends, in order; none where a message number above the
-- greatest one would be needed, or the string is no frame: then nothing happens.
use Rattle.std.specs.Prelude.{ℕ, List, [], map, Option, Some, None, Result, Ok, Err, if◌then◌else◌}
use Rattle.ivy_model.specs.declared.Config.{Config}
use Rattle.ivy_model.specs.declared.Fault.{Fault}
use Rattle.ivy_wire.specs.declared.FrameKind.{FrameKind}
use Rattle.ivy_wire.specs.stated.Data.{Message, Frame, Parcel}
use Rattle.ivy_wire.specs.stated.Spelling.{spelling}
use Rattle.ivy_wire.specs.stated.DecodeErrors.{checked}
use Rattle.ivy_wire.specs.stated.Reading.{frame_at}
use Rattle.ivy_link.specs.declared.Verdict.{Verdict}
use Rattle.ivy_link.specs.declared.Verdict.TheVariants as verdict
use Rattle.ivy_link.specs.stated.Linked.{Linked, sends, has_numbers}
use Rattle.ivy_link.specs.stated.Accepted.{offered, accepted}
use Rattle.ivy_link.specs.stated.Pulsed.{pulsed}
use Rattle.ivy_moves.specs.stated.Cores.{Core, Outcome}

-- a node: its core, and its side of all links
pub record Node (C : Type 0) : Type 0 where
  pub core : C
  pub link : Linked

-- the node after an event, and the strings that it sends
pub record Effect (C : Type 0) : Type 0 where
  pub after : Node C
  pub sent : List (List ℕ)

module _ {C : Type 0} where
  -- nothing changes, and nothing is sent
  abbrev pub stays : Node C → Effect C
  stays n = record { after = n; sent = [] }

  -- the core goes on to this one, and its link sends the parcels
  abbrev pub posting : Node C → C → List Parcel → Option (Effect C)
  posting n core parcels =
      if has_numbers n.link parcels
      then Some (record {
        after = record { core = core; link = (sends n.link parcels).after };
        sent = map spelling (sends n.link parcels).frames;
      })
      else None

  -- then the link accepts the frame
  abbrev pub accepting : Frame → Option (Effect C) → Option (Effect C)
  accepting f None = None
  accepting f (Some e) =
      Some (record {
        after = record { core = e.after.core; link = accepted e.after.link f };
        sent = e.sent;
      })

module _ {C : Type 0} (rules : Core C) where
  -- a turn without an outcome changes nothing
  abbrev pub turned_to : Node C → Option (Outcome C) → Option (Effect C)
  turned_to n None = Some (stays n)
  turned_to n (Some o) = posting n o.after o.posted

  -- a turn of the core; none where a number above the greatest one would be needed
  unfoldable pub turned : Node C → Option (Effect C)
  turned n = turned_to n (rules.turn n.core)

  -- the message of a frame that is the next one
  abbrev pub served_next : Node C → Frame → Option Message → Option (Effect C)
  served_next n f None = accepting f (Some (stays n))
  served_next n f (Some m) =
      accepting f
      (posting n (rules.serve n.core f.source m).after (rules.serve n.core f.source m).posted)

  -- what a frame does that is this to the node: for another node, nothing
  abbrev pub received_as : Verdict → Node C → Frame → Option (Effect C)
  received_as verdict.NotMine n f = Some (stays n)
  received_as verdict.Next n f = served_next n f f.body
  received_as verdict.Repeat n f = accepting f (Some (stays n))
  received_as verdict.Ahead n f = accepting f (Some (stays n))

  -- a frame comes, and does what it is to the node; none where numbers are at an end
  unfoldable pub received : Node C → Frame → Option (Effect C)
  received n f = received_as (offered n.link f) n f

  -- the string is received as the frame that it spells
  abbrev pub delivered_as : Result FrameKind Fault → Node C → List ℕ → Option (Effect C)
  delivered_as (Err fault) n bytes = None
  delivered_as (Ok kind) n bytes = received n (frame_at kind bytes)

  -- a string comes; none where it spells no frame, or numbers are at an end
  unfoldable pub delivered : Config → Node C → List ℕ → Option (Effect C)
  delivered c n bytes = delivered_as (checked c bytes) n bytes

module _ {C : Type 0} where
  -- what a string is to the node: a string that is no frame is not for it
  abbrev pub verdict_as : Result FrameKind Fault → Node C → List ℕ → Verdict
  verdict_as (Err fault) n bytes = verdict.NotMine
  verdict_as (Ok kind) n bytes = offered n.link (frame_at kind bytes)

  -- so it is under this configuration
  abbrev pub verdict_of : Config → Node C → List ℕ → Verdict
  verdict_of c n bytes = verdict_as (checked c bytes) n bytes

  -- a pulse: the node sends another one again what it keeps for it
  unfoldable pub pulsing : Node C → ℕ → Effect C
  pulsing n to = record {
    after = record { core = n.core; link = (pulsed n.link to).after };
    sent = map spelling (pulsed n.link to).frames;
  }
