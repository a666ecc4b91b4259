use Rattle.std.proofs.Common.{refl, sym, subst}
use Rattle.std.proofs.lemmas.Result.{IfOk-from_err}
use Rattle.ivy_process.specs.NodeLogs.{AddsEvents}
use Rattle.ivy_process.proofs.Kept.{keeps-same}
use Rattle.ivy_process.proofs.Logged.{stays, goes_further}
use Rattle.ivy_process.proofs.node.Node.go_on_all.Goals as goal
use Rattle.ivy_process.proofs.node.Node.go_on_all.Goals.{then-from-config+in_ok-go_on, else-from-config}

pub loop-from-init : goal.loop-from-init
loop-from-init c = stays _ _ refl refl refl refl (keeps-same _ _ refl)

pub loop-from-preserved : goal.loop-from-preserved
loop-from-preserved c =
    elim c.if-from-config.branch [
      | then-from-config+in_ok-go_on w ↦
          subst (AddsEvents c.args.self.now) (sym w.self-is)
          (goes_further c.args.self.now c.loop-from.self w.go_on.new.self c.loop-from.invariant
          w.in_ok-go_on.ensures.on)
      | else-from-config w ↦ subst (AddsEvents c.args.self.now) (sym w.self-is) c.loop-from.invariant
    ]

pub returns-in_err-go_on : goal.returns-in_err-go_on
returns-in_err-go_on c = IfOk-from_err c.from_residual.result _ c.from_residual.ensures.0
