use Rattle.std.proofs.Common.{◌≡◌, ◌++◌, map, take}
use Rattle.ivy_wire.specs.Lent.{owned_frame}
use Rattle.ivy_wire.specs.stated.Spelling.{spelling}
use Rattle.ivy_link.proofs.outbox.spell_again.Given as goal

-- those so far are spelled, behind what was there
abbrev pub invariant-loop-frame : goal.invariant-loop-frame
invariant-loop-frame g l =
    l.strings.items
    ≡ l.fn.strings.items ++ map spelling (map owned_frame (take l.frame-index l.frames))
