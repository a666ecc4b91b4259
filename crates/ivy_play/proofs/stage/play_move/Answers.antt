use Rattle.std.proofs.Common.{rules}
use Rattle.ivy_play.proofs.Playing.{played_move}
use Rattle.ivy_play.proofs.stage.play_move.Goals as goal

pub returns-clause-played : goal.returns-clause-played
returns-clause-played g c =
    played_move c.args.moves.now.items c.push_reserved.new.self.items c.args.step c.args.world.now
    c.make.new.self (search rules) c.make.ensures.stays c.in_ok-did.ensures.ok
