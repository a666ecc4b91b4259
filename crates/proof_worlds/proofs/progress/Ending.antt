-- Deliveries end: each lessens the work that is left, or lowers how far the messages have to go,
-- and that is bounded by the work.
use Rattle.std.proofs.Common.{◌≡◌, ◌≤◌, ◌<◌, ◌+◌, ◌*◌, ℕ, zero, suc, List, [], ◌∷◌, length, Option, Some, None, sym, ap, subst, inl, inr, arith, mul-le-mul_left}
use Rattle.std.proofs.lemmas.Bool.{cases_eq}
use Rattle.std.specs.Prelude.{sum_by}
use Rattle.std.proofs.lemmas.List.Sums.{sum_by-cons}
use Rattle.ivy_model.specs.declared.Config.{Config}
use Rattle.ivy_model.specs.stated.Config.{IsConfig}
use Rattle.ivy_wire.specs.stated.Data.{Content, Message}
use Rattle.ivy_pagetable.specs.declared.PutOff.{PutOff}
use Rattle.ivy_pagetable.specs.stated.Entries.{put_offs}
use Rattle.ivy_program.specs.stated.Programs.{Program}
use Rattle.ivy_moves.specs.stated.FifoWorld.{FifoWorld, Steps, delivers}
use Rattle.ivy_host.specs.stated.Hosts.{Host, host_rules}
use Rattle.ivy_host.specs.stated.Managers.{Managed, managed_ops}
use Rattle.ivy_host.specs.declared.opening.Opening.{Opening}
use Rattle.ivy_host.specs.stated.Openings.{managed_start}
use Rattle.proof_table.specs.stated.Letters.{content_of}
use Rattle.proof_worlds.specs.stated.FifoRuns.{IsReachedInOrder}
use Rattle.proof_worlds.specs.progress.Ending.{sum_below, work_left, AreDeliveries, DeliveriesEnd}
use Rattle.proof_worlds.proofs.progress.Hops.{hops_most}
use Rattle.proof_worlds.proofs.progress.Works.{heavy_of, heavy_work, work_some}
use Rattle.proof_worlds.proofs.progress.Loads.{way_loads, aside_loads, load}
use Rattle.proof_worlds.proofs.progress.Delivered.{under_way}
use Rattle.proof_worlds.proofs.progress.Lowering.{page_asked, hops_to, fewer_hops, entries, claiming, hop_at, hops_at, far, far_way, work, way, lowers}

-- each is at most so many times the other one
scaled_below : (k n : ℕ) (f g : ℕ → ℕ) → ((i : ℕ) → f i ≤ k * g i)
    → sum_below n f ≤ k * sum_below n g
scaled_below k zero f g le = omega arith
scaled_below k (suc n) f g le =
    let a : sum_below n f ≤ k * sum_below n g = scaled_below k n f g le in
    let b : f n ≤ k * g n = le n in
    omega (arith, a, b)

scaled_by : {X : Type 0} (k : ℕ) (f g : X → ℕ) → ((x : X) → f x ≤ k * g x) → (xs : List X)
    → sum_by f xs ≤ k * sum_by g xs
scaled_by k f g le [] = omega arith
scaled_by k f g le (x ∷ xs) =
    let a : sum_by f (x ∷ xs) ≡ f x + sum_by f xs = sum_by-cons f x xs in
    let b : k * sum_by g (x ∷ xs) ≡ k * (g x + sum_by g xs) =
    ap (λ v. k * v) (sum_by-cons g x xs) in
    let d : sum_by f xs ≤ k * sum_by g xs = scaled_by k f g le xs in
    let e : f x ≤ k * g x = le x in
    omega (arith, a, b, d, e)

hops_within : (most i : ℕ) (asked : Option ℕ) → hops_to (λ p j. most) i asked ≤ most
hops_within most i (Some page) = omega arith
hops_within most i None = omega arith

module _ (c : Config) (o : FifoWorld (Host Managed)) where
  -- one message
  one_way : (lost i : ℕ) (b : Content) → far_way c o i b ≤ (c.nodes + 1) * heavy_of lost b
  one_way lost i b =
      let a : far c o i b ≤ hops_to (λ p j. c.nodes) i (page_asked b) =
      fewer_hops (hops_at c o) (λ p j. c.nodes)
      (λ p j. hops_most (claiming c o p) (hop_at c o p) c.nodes j) i (page_asked b) in
      let e : hops_to (λ p j. c.nodes) i (page_asked b) ≤ c.nodes =
      hops_within c.nodes i (page_asked b) in
      let d : (c.nodes + 1) * 1 ≤ (c.nodes + 1) * heavy_of lost b =
      mul-le-mul_left (c.nodes + 1) (work_some lost b) in
      omega (arith, a, d, e)

  -- all of them
  pub way_most : (lost : ℕ) → way c o ≤ (c.nodes + 1) * work c o lost
  way_most lost =
      let a : way_loads c.nodes c.pages (far_way c o) (under_way o)
      ≤ (c.nodes + 1) * way_loads c.nodes c.pages (λ i. heavy_of lost) (under_way o) =
      scaled_below (c.nodes + 1) c.nodes _ _ (λ i.
      scaled_below (c.nodes + 1) c.nodes _ _ (λ j.
      scaled_by (c.nodes + 1) (λ (m : Message). far_way c o j m.content)
      (λ (m : Message). heavy_of lost m.content) (λ m. one_way lost j m.content) (under_way o i j))) in
      let b : aside_loads c.nodes c.pages (far c o) (entries c o)
      ≤ (c.nodes + 1) * aside_loads c.nodes c.pages (λ i. heavy_of lost) (entries c o) =
      scaled_below (c.nodes + 1) c.nodes _ _ (λ i.
      scaled_below (c.nodes + 1) c.pages _ _ (λ p.
      scaled_by (c.nodes + 1) (λ (q : PutOff). far c o i (content_of q.kind p))
      (λ (q : PutOff). heavy_of lost (content_of q.kind p))
      (λ q. (let e = one_way lost i (content_of q.kind p) in omega (arith, e)))
      (put_offs (entries c o i p)))) in
      omega (arith, a, b)

-- how many deliveries there may be yet once the work was lessened, where so many times the work is
-- the way then
abbrev rounds : ℕ → ℕ → ℕ
rounds k zero = 0
rounds k (suc a) = rounds k a + k * a + 1

rounds_rise : (k a b : ℕ) → a ≤ b → rounds k a ≤ rounds k b
rounds_rise k a zero le = (let e : a ≡ 0 = omega (arith, le) in
    subst (λ v. rounds k v ≤ 0) (sym e) (omega arith))
rounds_rise k a (suc b) le = elim (cases_eq a (suc b)) [
  | inl same ↦ subst (λ v. rounds k v ≤ rounds k (suc b)) (sym same) (omega arith)
  | inr ne ↦
      (let d : rounds k a ≤ rounds k b = rounds_rise k a b (omega (arith, le, ne)) in
      omega (arith, d))
]

rounds_fall : (k a b : ℕ) → a < b → rounds k a + k * a + 1 ≤ rounds k b
rounds_fall k a b lt = rounds_rise k (suc a) b (omega (arith, lt))

rounds_most : (k a : ℕ) → 1 ≤ k → rounds k a ≤ k * a * a
rounds_most k zero some = omega arith
rounds_most k (suc a) some =
    let d : rounds k a ≤ k * a * a = rounds_most k a some in
    omega (arith, d, some)

module _ (opened : Opening) (c : Config) (limits : IsConfig c) (programs : List Program)
    (many : length programs ≡ c.nodes) where
  ending : (after : List (FifoWorld (Host Managed))) (o : FifoWorld (Host Managed))
      → IsReachedInOrder managed_ops (managed_start opened) c programs o
      → AreDeliveries managed_ops o after
      → length after ≤ rounds (c.nodes + 1) (work c o 0) + way c o
  ending [] o reached are = omega arith
  ending (next ∷ rest) o reached are =
      let d = are.0.2 in
      let step : Steps (host_rules managed_ops) o next = delivers are.0.0 are.0.1 d in
      let more : length rest ≤ rounds (c.nodes + 1) (work c next 0) + way c next =
      ending rest next (o ∷ reached.0, (reached.1, step)) are.1 in
      elim (lowers 0 opened c limits programs many o next reached are.0.0 are.0.1 d) [
        | inl less ↦
            (let a : way c next ≤ (c.nodes + 1) * work c next 0 = way_most c next 0 in
            let b : rounds (c.nodes + 1) (work c next 0) + (c.nodes + 1) * work c next 0 + 1
            ≤ rounds (c.nodes + 1) (work c o 0) =
            rounds_fall (c.nodes + 1) (work c next 0) (work c o 0) less in
            omega (arith, more, a, b))
        | inr both ↦
            (let a : rounds (c.nodes + 1) (work c next 0) ≤ rounds (c.nodes + 1) (work c o 0) =
            rounds_rise (c.nodes + 1) (work c next 0) (work c o 0) both.0 in
            let b : way c next < way c o = both.1 in
            omega (arith, more, a, b))
      ]

pub deliveries_end : (opened : Opening) → DeliveriesEnd managed_ops (managed_start opened)
deliveries_end opened c programs limits many o reached after are =
    let a : length after ≤ rounds (c.nodes + 1) (work c o 0) + way c o =
    ending opened c limits programs many after o reached are in
    let b : way c o ≤ (c.nodes + 1) * work c o 0 = way_most c o 0 in
    let d : rounds (c.nodes + 1) (work c o 0) ≤ (c.nodes + 1) * work c o 0 * work c o 0 =
    rounds_most (c.nodes + 1) (work c o 0) (omega arith) in
    let e : work c o 0 ≡ work_left c o =
    ap (λ h. load c.nodes c.pages (λ i. h) (λ i. h) (under_way o) (entries c o)) heavy_work in
    omega (arith, a, b, d, e)
