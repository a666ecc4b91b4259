use Rattle.std.proofs.Common.{rules}
use Rattle.ivy_play.proofs.InRow.{one_turn}
use Rattle.ivy_play.proofs.Making.{block_made}
use Rattle.ivy_play.proofs.Playing.{played_block}
use Rattle.ivy_play.proofs.together.play_block.Goals as goal

pub returns-clause-played : goal.returns-clause-played
returns-clause-played g c =
    played_block c.args.moves.now.items c.push_reserved.new.self.items c.args.asked.node
    c.args.asked.kind c.args.asked.addr c.in_ok-calls.calls c.args.asked.bytes.now c.args.world.now
    c.hand_block.new.self (search rules) (search rules) c.in_ok-calls.ensures.done

pub returns-clause-turns : goal.returns-clause-turns
returns-clause-turns g c =
    one_turn c.args.asked.node c.in_ok-calls.calls c.args.moves.now.items c.push_reserved.new.self.items
    (search rules) (search rules)

pub returns-clause-made : goal.returns-clause-made
returns-clause-made g c =
    block_made c.args.asked.node _ c.args.world.now c.hand_block.new.self c.in_ok-calls.ensures.done
