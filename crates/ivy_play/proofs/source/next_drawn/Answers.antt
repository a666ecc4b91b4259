use Rattle.std.proofs.Common.{◌≤◌, All, List, ℕ, length, subst, sym}
use Rattle.ivy_texts.proofs.Drawing.{long_strings}
use Rattle.ivy_play.proofs.source.next_drawn.Goals as goal

pub draw-requires-clause-strings : goal.draw-requires-clause-strings
draw-requires-clause-strings g c =
    subst (λ ss. All (λ (s : List ℕ). 24 ≤ length s) ss) (sym c.sent.ensures)
    (long_strings c.args.world.now.config c.args.world.now.world.sent c.keeps.ensures.limits
    c.keeps.ensures.spelled)
