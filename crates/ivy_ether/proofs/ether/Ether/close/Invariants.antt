use Rattle.std.proofs.Common.{[]}
use Rattle.ivy_ether.proofs.ether.Ether.close.Given as goal

abbrev pub ghosts-give : goal.ghosts-give
ghosts-give g a = record { events = a.events.now.marks; frame = [] }
