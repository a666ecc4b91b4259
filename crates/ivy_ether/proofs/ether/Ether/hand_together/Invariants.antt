use Rattle.std.proofs.Common.{[], ◌∷◌}
use Rattle.ivy_model.specs.Rows.{calls_of, numbers_in, row}
use Rattle.ivy_ether.specs.Handings.{Calls}
use Rattle.ivy_ether.proofs.ether.Ether.hand_together.Given as goal

abbrev pub ghosts-hand_words_given : goal.ghosts-hand_words_given
ghosts-hand_words_given g a =
    record {
      handings = Calls (calls_of (row a.kind 0 a.addr (numbers_in a.words a.bytes.now))) ∷ [];
    }
