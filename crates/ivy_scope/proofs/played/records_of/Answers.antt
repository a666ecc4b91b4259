use Rattle.std.proofs.Common.{List, subst}
use Rattle.std.proofs.lemmas.Option.{IfSome_then}
use Rattle.std.proofs.lemmas.Result.{IfOk-weaker}
use Rattle.ivy_moves.specs.declared.Move.{Move}
use Rattle.ivy_replay.specs.Orders.{IsOrderOf}
use Rattle.ivy_scope.proofs.played.records_of.Goals as goal

pub returns : goal.returns
returns g c =
    IfOk-weaker c.order_of.result _ _
    (λ found some. IfSome_then found some (λ order is. record {
      moves = c.in_ok-moves.moves.items;
      said = c.in_ok-moves.ensures;
      is = subst (λ (moves : List Move). IsOrderOf c.args.run.now.text.config
          c.args.run.now.text.opening c.args.run.now.text.programs.now moves order.items) c.deref.ensures.value is;
    }))
    c.order_of.ensures
