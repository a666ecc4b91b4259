use Rattle.std.proofs.Common.{◌≡◌}
use Rattle.ivy_model.specs.Rows.{calls_of, numbers_in, row}
use Rattle.ivy_play.specs.Played.{AddsTurns, LeadsOn, MakesCalls}
use Rattle.ivy_play.proofs.together.play_words.Given as goal

abbrev pub invariant-loop-word : goal.invariant-loop-word
invariant-loop-word g l = record {
  played : LeadsOn l.fn.moves.items l.fn.world l.moves.items l.world;
  made : MakesCalls l.asked.node
      (calls_of (row l.asked.kind 0 l.asked.addr (numbers_in l.word l.asked.bytes.now))) l.fn.world
      l.world;
  turns : AddsTurns l.asked.node l.word l.fn.moves.items l.moves.items;
  config : l.world.config ≡ l.fn.world.config;
}
