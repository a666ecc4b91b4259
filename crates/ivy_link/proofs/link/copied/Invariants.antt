use Rattle.std.proofs.Common.{◌≡◌, map, take}
use Rattle.ivy_wire.specs.Lent.{owned_frame}
use Rattle.ivy_link.proofs.link.copied.Given as goal

abbrev pub invariant-loop-frame : goal.invariant-loop-frame
invariant-loop-frame g l = l.copies.items ≡ map owned_frame (take l.frame-index l.frames)
