-- What a frame that arrives is to a node, and what accepting it does.
use Rattle.std.specs.Prelude.{ℕ, ◌+◌, ◌-◌, List, length, drop, Bool, true, false, ◌||◌, ◌==◌, nat_le, if◌then◌else◌}
use Rattle.ivy_wire.specs.stated.Data.{Message}
use Rattle.ivy_wire.specs.declared.frame.Frame as frame
use Rattle.ivy_link.specs.declared.verdict.Verdict.{Verdict}
use Rattle.ivy_link.specs.declared.verdict.Verdict.TheVariants.{Next, Repeat, Ahead, NotMine}
use Rattle.ivy_link.specs.stated.Linked.{Peer, Linked, peer_at, with_peer}

-- a frame of this number from a node of which so many messages were delivered
abbrev pub verdict_on : ℕ → ℕ → Verdict
verdict_on delivered number =
    if number == delivered + 1 then Next else (if nat_le number delivered then Repeat else Ahead)

-- what the frame is to the node of this link
abbrev pub offered : {B : Type 0} → Linked → frame.Frame B → Verdict
offered l f = if f.dest == l.me then verdict_on (peer_at l f.source).delivered f.number else NotMine

-- what is still kept after an acknowledgement: one above all that was sent says nothing
abbrev pub still_kept : Peer → ℕ → List Message
still_kept p ack =
    if nat_le ack p.sent then drop (ack - (p.sent - length p.kept)) p.kept else p.kept

-- how many messages are delivered then: one more for Next alone
abbrev pub delivered_then : Verdict → ℕ → ℕ
delivered_then Next delivered = delivered + 1
delivered_then Repeat delivered = delivered
delivered_then Ahead delivered = delivered
delivered_then NotMine delivered = delivered

-- whether a frame of this number is to be acknowledged: an acknowledgement alone, of number 0, is
-- not
abbrev pub is_owing : Verdict → ℕ → Bool
is_owing Next number = true
is_owing Repeat number = nat_le 1 number
is_owing Ahead number = false
is_owing NotMine number = false

-- what is known of a node once a frame with this verdict came from it
abbrev pub heard : Verdict → Peer → ℕ → ℕ → Peer
heard v p number ack = record {
  sent = p.sent;
  kept = still_kept p ack;
  delivered = delivered_then v p.delivered;
  owed = p.owed || is_owing v number;
}

-- a frame for another node changes nothing
abbrev pub accepted : {B : Type 0} → Linked → frame.Frame B → Linked
accepted l f =
    if f.dest == l.me
    then with_peer l f.source
    (heard (verdict_on (peer_at l f.source).delivered f.number) (peer_at l f.source) f.number f.ack)
    else l
