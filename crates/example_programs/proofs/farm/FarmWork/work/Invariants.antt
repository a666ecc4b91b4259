use Rattle.std.proofs.Common.{◌≡◌, ◌-◌, ◌<◌, ◌≤◌, All, map, vec_len}
use Rattle.ivy_sync.specs.Doing.{draws}
use Rattle.example_programs.proofs.farm.FarmWork.work.Given as goal

abbrev pub invariant-loop-memory : goal.invariant-loop-memory
invariant-loop-memory g l = record {
  number : l.jobs ≡ l.self.jobs;
  whole : g.M.SharedMemory.answers l.memory ≡ map (draws l.self.next) l.mine.items;
  jobs : All (λ job. job < l.self.jobs) l.mine.items;
  few : vec_len l.mine ≤ l.jobs;
}

abbrev pub decreases-loop-memory : goal.decreases-loop-memory
decreases-loop-memory g l = l.jobs - vec_len l.mine
