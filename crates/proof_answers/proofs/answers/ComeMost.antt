-- How much work is left at most where a page that comes counts.
use Rattle.std.proofs.Common.{◌≡◌, ◌<◌, ◌≤◌, ◌+◌, ◌*◌, ℕ, zero, suc, List, length, slice_get, Option, Some, None, ap, arith}
use Rattle.ivy_model.specs.declared.Config.{Config}
use Rattle.ivy_model.specs.declared.Call.{Call}
use Rattle.ivy_model.specs.stated.Config.{IsConfig}
use Rattle.ivy_pagetable.specs.declared.Entry.{Entry}
use Rattle.ivy_pagetable.specs.declared.Entry.TheVariants as entry
use Rattle.ivy_pagetable.specs.stated.Tables.{entry_at}
use Rattle.ivy_program.specs.stated.Programs.{Program}
use Rattle.ivy_moves.specs.stated.FifoWorld.{FifoWorld}
use Rattle.ivy_host.specs.declared.opening.Opening.{Opening}
use Rattle.ivy_host.specs.stated.Hosts.{Host}
use Rattle.ivy_host.specs.stated.Managers.{Managed, managed_ops}
use Rattle.ivy_host.specs.stated.Openings.{managed_start}
use Rattle.proof_worlds.specs.progress.Ending.{sum_below}
use Rattle.proof_worlds.specs.stated.FifoRuns.{IsReachedInOrder}
use Rattle.proof_worlds.proofs.progress.Lowering.{entries}
use Rattle.proof_answers.specs.answers.Came.{come_work}
use Rattle.proof_answers.proofs.answers.Coming.{side_of, side_at, open_at, opens_at, total}
use Rattle.proof_answers.proofs.answers.Falling.{weight_of, weight_at}
use Rattle.proof_answers.proofs.answers.Weights.{lock_weight, join_weight, join_few, join_waits, open_weight}
use Rattle.proof_answers.proofs.answers.WorkMost.{sum_most, whole_few}

-- sums of what is no more than twice as much, and so much more
sum_twice : (n b : ℕ) (f g : ℕ → ℕ) → ((i : ℕ) → i < n → f i ≤ 2 * g i + b)
    → sum_below n f ≤ 2 * sum_below n g + n * b
sum_twice zero b f g few = omega arith
sum_twice (suc n) b f g few =
    let rest = sum_twice n b f g (λ i low. few i (omega (arith, low))) in
    let last = few n (omega arith) in
    let both : (n + 1) * b ≡ n * b + b = omega arith in
    let next : suc n ≡ n + 1 = omega arith in
    let same : suc n * b ≡ (n + 1) * b = ap (λ z. z * b) next in
    omega (arith, rest, last, both, same)

open_few : (e : Entry) → open_weight e ≤ 333
open_few (entry.Idle s) = omega arith
open_few (entry.AwaitRead s) = omega arith
open_few (entry.AwaitWrite s) = omega arith
open_few (entry.AwaitAcks s) = omega arith

-- a word waits, or an await may join
locks_few : (a : Option Call) (lock : Option ℕ) (e : Entry)
    → lock_weight lock + join_weight a lock e ≤ 333
locks_few a None e = (let x = join_few a None e in omega (arith, x))
locks_few a (Some page) e = (let x = join_waits a page e in omega (arith, x))

module _ (opened : Opening) (c : Config) (limits : IsConfig c) (programs : List Program)
    (many : length programs ≡ c.nodes) (o : FifoWorld (Host Managed))
    (reached : IsReachedInOrder managed_ops (managed_start opened) c programs o) where
  side_few : (a : Option (Host Managed)) → side_of a ≤ 2 * weight_of c o a + 333
  side_few None = omega arith
  side_few (Some h) =
      (let x = locks_few h.memory.asked h.memory.coherence.locked (entry_of_first h) in
      omega (arith, x))
    where
      entry_of_first : Host Managed → Entry
      entry_of_first n = entry_at n.memory.coherence.table 0

  pub total_few : total c o ≤ come_work c
  total_few =
      let a = whole_few opened c limits programs many o reached in
      let b = sum_twice c.nodes 333 (side_at c o) (weight_at c o)
      (λ i low. side_few (slice_get o.cores i)) in
      let d = sum_most c.nodes (c.pages * 333) (opens_at c o)
      (λ i low. sum_most c.pages 333 (open_at c o i) (λ p inside. open_few (entries c o i p))) in
      let e : c.nodes * ((c.pages + 1) * 333) ≡ c.nodes * (c.pages * 333) + c.nodes * 333 =
      omega arith in
      omega (arith, a, b, d, e)
