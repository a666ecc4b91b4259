use Rattle.std.proofs.Common.{◌≡◌, ◌+◌, ◌-◌, length, map, take}
use Rattle.ivy_wire.specs.Lent.{owned_frame}
use Rattle.ivy_link.specs.stated.Linked.{peer_at}
use Rattle.ivy_link.specs.stated.Pulsed.{numbered}
use Rattle.ivy_link.specs.Holding.{link_of}
use Rattle.ivy_link.proofs.link.Link.repeated.Given as goal

abbrev pub invariant-loop-i : goal.invariant-loop-i
invariant-loop-i g l =
    map owned_frame l.frames.items
    ≡ numbered l.self.me l.to (peer_at (link_of l.self) l.to).delivered
    ((peer_at (link_of l.self) l.to).sent - length (peer_at (link_of l.self) l.to).kept + 1)
    (take l.i (peer_at (link_of l.self) l.to).kept)
