use Rattle.std.proofs.Common.{◌∙◌, ◌+◌, ◌-◌, ◌*◌, ◌≤◌, ℕ, arith}
use Rattle.proof_worlds.specs.stated.RunState.{Run}
use Rattle.ivy_play.proofs.InRow.{handed_config, turn_tried}
use Rattle.ivy_play.proofs.Making.{word_made}
use Rattle.ivy_play.proofs.Playing.{played_calls}
use Rattle.ivy_play.proofs.together.play_words.Goals as goal

pub loop-word-preserved : goal.loop-word-preserved
loop-word-preserved g c =
    let was = c.loop-word.invariant in
    let handed = c.hand_word.ensures.handed c.if-not-hand_word.false in
    let moved = c.play_move.ensures in
    let before : Run = c.loop-word.world in
    let mid : Run = c.hand_word.new.world in
    let m : ℕ = c.loop-word.word in
    let k : ℕ = 8 * m + 8 - 8 * m in
    let fits : 8 * 1 ≤ k = omega arith in
    record {
      played = λ past p. moved.played past
          (played_calls c.loop-word.moves.items c.args.asked.node _ before mid handed past
          (was.played past p));
      made =
          word_made _ c.args.asked.node c.args.asked.kind c.args.asked.addr m k c.args.asked.bytes.now
          c.args.world.now before mid c.play_move.new.world c.play_move.result fits was.made handed
          moved.stays moved.made moved.refused;
      turns =
          turn_tried _ c.args.asked.node c.loop-word.word c.args.moves.now.items c.loop-word.moves.items
          c.play_move.new.moves.items c.play_move.result moved.listed moved.refused was.turns;
      config = moved.stays.0 ∙ handed_config c.args.asked.node _ before mid handed ∙ was.config;
    }
