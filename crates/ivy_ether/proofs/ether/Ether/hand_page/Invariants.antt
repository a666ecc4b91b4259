use Rattle.std.proofs.Common.{[], ◌∷◌}
use Rattle.ivy_ether.specs.Handings.{Page}
use Rattle.ivy_ether.proofs.ether.Ether.hand_page.Given as goal

abbrev pub ghosts-hand_page_given : goal.ghosts-hand_page_given
ghosts-hand_page_given g a = record { handings = Page a.page a.write ∷ [] }
