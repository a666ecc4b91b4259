use Rattle.std.proofs.Common.{◌≡◌, ◌≤◌, ◌+◌, length, max, take}
use Rattle.ivy_play.specs.Played.{LeadsOn}
use Rattle.ivy_play.specs.Endings.{HaveSameCores}
use Rattle.ivy_play.proofs.rested.spend.Given as goal

abbrev pub invariant-loop : goal.invariant-loop
invariant-loop g l = record {
  played : LeadsOn l.fn.moves.items l.fn.world l.moves.items l.world;
  cores : HaveSameCores l.fn.world.world l.world.world;
  config : l.world.config ≡ l.fn.world.config;
  spent : l.fn.drawn + l.counter ≡ length l.moves.items;
  longer : length l.fn.moves.items ≤ length l.moves.items;
  few : length l.moves.items ≤ max (length l.fn.moves.items) (l.fn.drawn + l.fn.most);
  first : take l.fn.drawn l.moves.items ≡ take l.fn.drawn l.fn.moves.items;
}
