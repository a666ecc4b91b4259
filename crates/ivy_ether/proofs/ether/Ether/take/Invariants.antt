use Rattle.std.proofs.Common.{[]}
use Rattle.ivy_ether.proofs.ether.Ether.take.Given as goal

abbrev pub ghosts-take_given : goal.ghosts-take_given
ghosts-take_given g a = record { events = a.events.now.marks; frame = [] }
