-- The status of an order is 0 where it is legal, else 3.
use Rattle.std.proofs.Common.{◌≡◌, if◌then◌else◌, sym, ap, subst, ◌∙◌}
use Rattle.ivy_commands.specs.Commands.{IsCarriedOut}
use Rattle.ivy_commands.proofs.command.carry_out.Goals as goal
use Rattle.ivy_commands.proofs.command.carry_out.Goals.{then-is_legal, else-is_legal}

pub returns-after-is_legal : goal.returns-after-is_legal
returns-after-is_legal g c =
    let yes = c.in_ok-is_legal-in-Check.is_legal in
    let status : c.if-is_legal.result ≡ (if yes then 0 else 3) = elim c.if-is_legal.branch [
      | then-is_legal w ↦
          w.result-is ∙ ap (λ b. if b then 0 else 3) (sym w.if-is_legal.true)
      | else-is_legal w ↦
          w.result-is ∙ ap (λ b. if b then 0 else 3) (sym w.if-is_legal.false)
    ] in
    subst
    (λ request. IsCarriedOut request c.if-is_legal.result (g.W.Write.contents c.args.out.now)
    (g.W.Write.contents c.check.new.out)) (sym c.in-Check.is)
    (yes, status, (_, c.in_ok-is_legal-in-Check.ensures))
