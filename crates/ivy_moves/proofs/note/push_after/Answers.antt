use Rattle.std.proofs.Common.{◌≡◌, ◌+◌, suc, ◌++◌, ◌∷◌, [], ap, arith, rules}
use Rattle.ivy_moves.proofs.Noted.{noted_again, noted_new}
use Rattle.ivy_moves.proofs.note.push_after.Goals as goal

pub returns-in-Turns : goal.returns-in-Turns
returns-in-Turns g c =
    let more : c.in-Turns.n + 1 ≡ suc c.in-Turns.n = omega arith in
    noted_again c.args.entries.now.items (c.args.entries.now.items ++ c.args.last ∷ []) _ _ _ more
    (ap (λ e. c.args.entries.now.items ++ e ∷ []) c.in-Turns.is) c.push_reserved.ensures.items

pub returns-in_default : goal.returns-in_default
returns-in_default g c =
    noted_new (c.args.entries.now.items ++ c.args.last ∷ []) _ _ (search rules)
    c.push_reserved-in_default-2.ensures.items
