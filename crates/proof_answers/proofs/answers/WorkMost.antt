-- How much work is left at most in a world that moves lead to: it depends on the configuration, and
-- on how many pages are to be fetched yet.
use Rattle.std.proofs.Common.{◌≡◌, ◌<◌, ◌≤◌, ◌+◌, ◌*◌, ℕ, zero, suc, List, [], ◌∷◌, length, drop, slice_get, Option, Some, None, refl, ap, subst, arith, inl, inr}
use Rattle.std.specs.Prelude.{sum_by}
use Rattle.std.proofs.lemmas.Bool.{cases_eq}
use Rattle.std.proofs.lemmas.List.{length-drop}
use Rattle.std.proofs.lemmas.List.Sums.{sum_by-cons}
use Rattle.ivy_model.specs.declared.Config.{Config}
use Rattle.ivy_model.specs.declared.Call.{Call}
use Rattle.ivy_model.specs.stated.Config.{IsConfig}
use Rattle.ivy_wire.specs.declared.Content.TheVariants as content
use Rattle.ivy_wire.specs.stated.Data.{Content, Message}
use Rattle.ivy_pagetable.specs.declared.Entry.{Entry}
use Rattle.ivy_pagetable.specs.declared.Out.{Out}
use Rattle.ivy_pagetable.specs.declared.PutOff.{PutOff}
use Rattle.ivy_pagetable.specs.stated.Entries.{put_offs}
use Rattle.ivy_pagetable.specs.stated.EntryLimits.{most_put_off}
use Rattle.ivy_pagetable.specs.stated.Tables.{entry_at}
use Rattle.ivy_coherence.specs.stated.Fetching.{most_fetched}
use Rattle.ivy_program.specs.stated.Programs.{Program}
use Rattle.ivy_moves.specs.stated.FifoWorld.{FifoWorld}
use Rattle.ivy_host.specs.declared.opening.Opening.{Opening}
use Rattle.ivy_host.specs.stated.Hosts.{Host}
use Rattle.ivy_host.specs.stated.Managers.{Managed, managed_ops}
use Rattle.ivy_host.specs.stated.Openings.{managed_start}
use Rattle.proof_table.specs.stated.Letters.{content_of}
use Rattle.proof_worlds.specs.progress.Ending.{sum_below}
use Rattle.proof_worlds.specs.stated.FifoRuns.{IsReachedInOrder}
use Rattle.proof_worlds.specs.stated.Nets.{entry_of}
use Rattle.proof_worlds.proofs.progress.Delivered.{under_way}
use Rattle.proof_worlds.proofs.progress.EitherRoutes.{either_awaited}
use Rattle.proof_worlds.proofs.progress.Loads.{way_load, aside_load}
use Rattle.proof_worlds.proofs.progress.Lowering.{entries, work}
use Rattle.proof_worlds.proofs.progress.Reached.{IsToldBy}
use Rattle.proof_worlds.proofs.progress.Works.{heavy_of}
use Rattle.proof_answers.specs.answers.Answered.{most_work}
use Rattle.proof_answers.proofs.answers.Falling.{weight_of, weight_at, hosts, whole}
use Rattle.proof_answers.proofs.answers.Weights.{cost, fault_most, call_weight, call_few}
use Rattle.proof_answers.proofs.fairness.Leading.{told_of}
use Rattle.proof_answers.proofs.sweeps.Few.{few_under_way}
use Rattle.proof_answers.proofs.sweeps.FewWorlds.{page_code}

-- no message weighs more than a request to write
heavy_few : (b : Content) → heavy_of cost b ≤ fault_most
heavy_few (content.ReadReq page) = omega arith
heavy_few (content.ReadRep page bytes) = omega arith
heavy_few (content.WriteReq page) = omega arith
heavy_few (content.WriteRep page copies bytes) = omega arith
heavy_few (content.Inval page) = omega arith
heavy_few (content.InvalAck page) = omega arith
heavy_few (content.AllocReq size) = omega arith
heavy_few (content.AllocRep code addr) = omega arith
heavy_few (content.FreeReq addr) = omega arith
heavy_few (content.FreeRep code) = omega arith

none_left : (k : ℕ) (ms : List Message) → ms ≡ [] → length (drop k ms) ≤ 0
none_left k ms none =
    (let a = length-drop k ms in let b : length ms ≡ 0 = ap length none in omega (arith, a, b))

-- sums of what is no more than so much each
sum_few : {X : Type 0} (f : X → ℕ) → ((x : X) → f x ≤ fault_most) → (xs : List X)
    → sum_by f xs ≤ length xs * fault_most
sum_few f few [] = omega arith
sum_few f few (x ∷ xs) =
    let rest = sum_few f few xs in
    let first = few x in
    let sum : sum_by f (x ∷ xs) ≡ f x + sum_by f xs = sum_by-cons f x xs in
    omega (arith, rest, first, sum)

pub sum_most : (n b : ℕ) (f : ℕ → ℕ) → ((i : ℕ) → i < n → f i ≤ b) → sum_below n f ≤ n * b
sum_most zero b f few = omega arith
sum_most (suc n) b f few =
    let rest = sum_most n b f (λ i low. few i (omega (arith, low))) in
    let last = few n (omega arith) in
    let both : (n + 1) * b ≡ n * b + b = omega arith in
    let next : suc n ≡ n + 1 = omega arith in
    let same : suc n * b ≡ (n + 1) * b = ap (λ z. z * b) next in
    omega (arith, rest, last, both, same)

-- what a node's call weighs at most
calls_few : (a : Option Call) (e : Entry) (lock : Option ℕ) (answer : Option Out)
    → call_weight a e lock answer ≤ 2 * fault_most + 2 * cost + 3
calls_few None e lock answer = omega arith
calls_few (Some called) e lock answer = (let a = call_few called e lock answer in omega (arith, a))

module _ (opened : Opening) (c : Config) (limits : IsConfig c) (programs : List Program)
    (many : length programs ≡ c.nodes) (o : FifoWorld (Host Managed))
    (reached : IsReachedInOrder managed_ops (managed_start opened) c programs o) where
  told : IsToldBy (managed_start opened).sends_on managed_ops c o
  told = told_of opened c limits programs many o reached

  -- so many messages are under way from one node to another
  none_itself : (i : ℕ) (ms : List Message) → o.posted i i ≡ ms
      → length (drop (o.delivered i i) ms) ≤ 0
  none_itself i [] none = none_left (o.delivered i i) [] refl
  none_itself i (m ∷ ms) some =
      absurd ((told.faithful.sound.sent i i 0 m (ap (λ l. slice_get l 0) some)).apart refl)

  way_few : (i j : ℕ) → i < c.nodes → j < c.nodes
      → length (under_way o i j) ≤ (most_fetched + 1) * c.nodes
  way_few i j a b = elim (cases_eq i j) [
    | inl same ↦
        (let none = none_itself i (o.posted i i) refl in
        subst (λ k. length (under_way o i k) ≤ (most_fetched + 1) * c.nodes) same
        (omega (arith, none)))
    | inr apart ↦
        (let waits = either_awaited c limits opened programs many o reached in
        let count = told.faithful.sound.count in
        few_under_way managed_ops c o waits.0 told.faithful.sound.sound most_fetched
        ((most_fetched + 1) * c.nodes) (λ x s. (most_fetched + 1) * x + s) (page_code c.nodes)
        (λ x h there. (told.faithful.sound.sound x h there).memory.coherent.few) waits.2 i j apart a b
        (omega (arith, a, count)) (omega (arith, b, count)))
  ]

  -- and put off at a page of a node
  put_few : (i p : ℕ) (a : Option (Host Managed)) → slice_get o.cores i ≡ a
      → length (put_offs (entry_of a p)) ≤ most_put_off
  put_few i p None none = omega arith
  put_few i p (Some h) there =
      ((told.faithful.sound.sound i h there).memory.coherent.each p).few

  work_few : work c o cost
      ≤ c.nodes * (c.nodes * ((most_fetched + 1) * c.nodes * fault_most))
      + c.nodes * (c.pages * (most_put_off * fault_most))
  work_few =
      let ways = sum_most c.nodes (c.nodes * ((most_fetched + 1) * c.nodes * fault_most))
      (λ i. sum_below c.nodes (λ j. way_load (λ k. heavy_of cost) (under_way o) i j))
      (λ i a. sum_most c.nodes ((most_fetched + 1) * c.nodes * fault_most)
      (λ j. way_load (λ k. heavy_of cost) (under_way o) i j)
      (λ j b.
      let few = way_few i j a b in
      let sum = sum_few (λ (m : Message). heavy_of cost m.content) (λ m. heavy_few m.content)
      (under_way o i j) in
      omega (arith, few, sum))) in
      let asides = sum_most c.nodes (c.pages * (most_put_off * fault_most))
      (λ i. sum_below c.pages (λ p. aside_load (λ k. heavy_of cost) (entries c o) i p))
      (λ i a. sum_most c.pages (most_put_off * fault_most)
      (λ p. aside_load (λ k. heavy_of cost) (entries c o) i p)
      (λ p b.
      let few = put_few i p (slice_get o.cores i) refl in
      let sum = sum_few (λ (q : PutOff). heavy_of cost (content_of q.kind p))
      (λ q. heavy_few (content_of q.kind p)) (put_offs (entries c o i p)) in
      omega (arith, few, sum))) in
      omega (arith, ways, asides)

  -- what the nodes weigh
  host_few : (i : ℕ) (a : Option (Host Managed)) → slice_get o.cores i ≡ a → weight_of c o a ≤ 346
  host_few i None none = omega arith
  host_few i (Some h) there =
      (let a = calls_few h.memory.asked (entry_at h.memory.coherence.table 0)
      h.memory.coherence.locked h.memory.coherence.done in
      let b = (told.faithful.sound.sound i h there).memory.coherent.few in
      omega (arith, a, b))

  pub whole_few : whole c o ≤ most_work c
  whole_few =
      let a = work_few in
      let b : hosts c o ≤ c.nodes * 346 =
      sum_most c.nodes 346 (weight_at c o) (λ i low. host_few i (slice_get o.cores i) refl) in
      omega (arith, a, b)
