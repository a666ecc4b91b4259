use Rattle.ivy_ether.proofs.ether.Ether.put_back.Given as goal

abbrev pub ghosts-put_given : goal.ghosts-put_given
ghosts-put_given g a = record { events = a.events.now.marks; frame = a.frame }
