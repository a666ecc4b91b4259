-- Nodes that draw the numbers of jobs from one word.
use Rattle.std.specs.Prelude.{◌≡◌, ℕ, ◌+◌, ◌^◌, ◌<◌, ◌≤◌, ◌⊎◌, List, [], ◌∷◌, ◌++◌, All, length}
use Rattle.std.specs.Prelude.{map, count_by, nat_eq}
use Rattle.std.specs.Global.{Vec}
use Rattle.ivy_model.specs.declared.config.Config.{Config}
use Rattle.ivy_model.specs.declared.call.Record.{Record}
use Rattle.ivy_calls.specs.declared.answer.Answer.{Answer}
use Rattle.ivy_calls.specs.Shared.{AreShared}
use Rattle.ivy_sync.specs.Doing.{draws}
use Rattle.ivy_sync.specs.HeapWords.{IsHeapWord}
use Rattle.example_programs.specs.declared.farm.Farm.{Farm}

-- a node drew these jobs and did them, and then a number that is no job's, or it had done as many
-- as there are
pub record HasWorked (work : Farm) (me : ℕ) (answers : List Answer) (out : Vec ℕ) : Type 0 where
  pub over : List ℕ
  pub whole : answers ≡ map (draws work.next) (out.items ++ over)
  pub jobs : All (λ job. job < work.jobs) out.items
  pub few : length out.items ≤ work.jobs
  pub stops : (length out.items ≡ work.jobs) × (over ≡ [])
      ⊎ ((more : ℕ) × (work.jobs ≤ more) × (over ≡ more ∷ []))

-- how often all of them did this job
abbrev pub times_done : ℕ → List (Vec ℕ) → ℕ
times_done job [] = 0
times_done job (out ∷ outs) = count_by (nat_eq job) out.items + times_done job outs

-- Each job is done once, and nothing else is.
abbrev pub EachJobOnce : Type 0
EachJobOnce = (c : Config) (work : Farm) (order : List Record) (outs : List (Vec ℕ))
    → work.jobs < 2 ^ 32 → IsHeapWord c work.next → AreShared c (HasWorked work) order outs
    → ((job : ℕ) → job < work.jobs → times_done job outs ≡ 1)
    × All (λ out. All (λ job. job < work.jobs) out.items) outs
