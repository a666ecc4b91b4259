use Rattle.std.proofs.Common.{◌≡◌, ◌++◌, ◌∷◌, [], true, append-nil, append_assoc, sym, ap, ◌∙◌, rules, arith}
use Rattle.std.specs.Result.{result_ok}
use Rattle.std.proofs.lemmas.Option.{same_Some}
use Rattle.ivy_model.specs.declared.Config.{Config}
use Rattle.ivy_moves.specs.declared.Move.TheVariants.{Turn}
use Rattle.ivy_play.proofs.Reported.{settled}
use Rattle.ivy_play.proofs.stage.find_still.Goals as goal

pub loop-node-init : goal.loop-node-init
loop-node-init g c = record {
  config = search rules;
  played = search rules;
  more = ([], sym (append-nil c.args.moves.now.items));
  longer = search rules;
  idle = search rules;
}

pub loop-node-preserved : goal.loop-node-preserved
loop-node-preserved g c =
    let was = c.loop-node.invariant in
    let turn = Turn c.loop-node.node ∷ [] in
    record {
      config = search rules;
      played = search rules;
      more = (
        was.more.0 ++ turn,
        c.in_ok-stirred.ensures.listed
            ∙ ap (λ l. l ++ turn) was.more.1
            ∙ append_assoc c.args.moves.now.items was.more.0 turn,
      );
      longer = search rules;
      idle = search rules;
    }

pub returns-in_err-stirred-clause-more : goal.returns-in_err-stirred-clause-more
returns-in_err-stirred-clause-more g c = (
  c.loop-node.invariant.more.0,
  c.in_err-stirred.ensures.refused.1
      ∙ c.loop-node.invariant.more.1,
)

pub returns-then-stirred-clause-more : goal.returns-then-stirred-clause-more
returns-then-stirred-clause-more g c =
    let was = c.loop-node.invariant in
    let turn = Turn c.loop-node.node ∷ [] in (
      was.more.0 ++ turn,
      c.in_ok-stirred.ensures.listed ∙ ap (λ l. l ++ turn) was.more.1
          ∙ append_assoc c.args.moves.now.items was.more.0 turn,
    )

pub returns-clause-still : goal.returns-clause-still
returns-clause-still g c =
    let same : c.loop-node.world.config.nodes ≡ c.args.world.now.config.nodes =
    ap (λ (k : Config). k.nodes) c.loop-node.invariant.config in
    let count = c.nodes-node-end.ensures in
    let end = c.loop-node-test.false in
    λ ok.
    let is : c.is_delivered-none_left.result ≡ true =
    same_Some c.is_delivered-none_left.result true (ap result_ok ok) in
    settled c.loop-node.world c.loop-node.node c.keeps.ensures (omega (arith, same, count, end))
    c.loop-node.invariant.idle (c.is_delivered-none_left.ensures.0 is)
