-- Whatever the moves of a world: what each step of the FIFO world keeps holds of the ordered
-- world that it follows.
-- For every manager.
use Rattle.std.proofs.Common.{◌≡◌, ◌≢◌, ◌⊎◌, ◌+◌, ℕ, zero, suc, List, [], ◌∷◌, length, map, set, slice_get, Some, option_map, refl, sym, ap, ◌∙◌, subst, inl, inr, arith}
use Rattle.std.proofs.lemmas.Option.{same_Some, none-some, slice_get-map}
use Rattle.ivy_model.specs.declared.Config.{Config}
use Rattle.ivy_model.specs.stated.Config.{IsConfig}
use Rattle.ivy_wire.specs.stated.Data.{Message}
use Rattle.ivy_pagetable.specs.stated.Manager.{Ops}
use Rattle.std.proofs.lemmas.List.Elements.{All-head, All-tail}
use Rattle.ivy_program.specs.Programs.{FetchesNone, FetchNothing}
use Rattle.ivy_program.specs.stated.Programs.{Program, fetches_of}
use Rattle.ivy_moves.specs.declared.moves.Move.{Move}
use Rattle.ivy_moves.specs.stated.Nodes.{Node}
use Rattle.ivy_moves.specs.stated.FifoWorld.{FifoWorld, Steps}
use Rattle.ivy_moves.specs.stated.Worlds.{World, Leads}
use Rattle.ivy_moves.specs.Following.{IsWellBehaved}
use Rattle.ivy_moves.specs.stated.Following.{Follows, fifo_of}
use Rattle.ivy_moves.proofs.Kept.{moves-keep}
use Rattle.ivy_host.specs.stated.Hosts.{Host, host_rules}
use Rattle.ivy_host.specs.stated.Openings.{Start, first_host, first_nodes, opening}
use Rattle.ivy_host.specs.stated.Sound.{IsSoundHost}

-- what is at a place after a write
pub get_set : {X : Type 0} (xs : List X) (i : ℕ) (x y : X) (j : ℕ) → slice_get xs i ≡ Some x →
    ((j ≡ i) × (slice_get (set xs i y) j ≡ Some y))
    ⊎ ((j ≢ i) × (slice_get (set xs i y) j ≡ slice_get xs j))
get_set [] i x y j h = absurd (none-some x h)
get_set (z ∷ xs) zero x y zero h = inl (refl, refl)
get_set (z ∷ xs) zero x y (suc j) h = inr (omega arith, refl)
get_set (z ∷ xs) (suc i) x y zero h = inr (omega arith, refl)
get_set (z ∷ xs) (suc i) x y (suc j) h =
    elim (get_set xs i x y j h) [
      | inl e ↦ inl (ap suc e.0, e.1)
      | inr e ↦
          inr (λ k. e.0 (omega (arith, k)), e.1)
    ]

-- the soundness of all nodes
abbrev pub AllSound : {S : Type 0} → Ops S → Config → FifoWorld (Host S) → Type 0
AllSound ops c o = (i : ℕ) (n : Host _) → slice_get o.cores i ≡ Some n → IsSoundHost ops c i n

-- a world as it begins: what holds of its nodes
abbrev pub AreFirst : {S : Type 0} → Start S → Config → FifoWorld (Host S) → Type 0
AreFirst start c o =
    (i : ℕ) (k : Host _) → slice_get o.cores i ≡ Some k
    → (program : Program) × (k ≡ first_host start c i program)

abbrev core_of : {S : Type 0} → Node (Host S) → Host S
core_of n = n.core

module _ {S : Type 0} where
  pub core_there : (ns : List (Node (Host S))) (i : ℕ) (n : Node (Host S)) → slice_get ns i ≡ Some n
      → slice_get (map core_of ns) i ≡ Some n.core
  core_there ns i n is = slice_get-map core_of ns i ∙ ap (option_map core_of) is

  -- a core is that of a node
  node_there : (ns : List (Node (Host S))) (i : ℕ) (k : Host S)
      → slice_get (map core_of ns) i ≡ Some k
      → (n : Node (Host S)) × (slice_get ns i ≡ Some n) × (n.core ≡ k)
  node_there [] i k is = absurd (none-some k is)
  node_there (n ∷ ns) zero k is = (n, refl, same_Some n.core k is)
  node_there (n ∷ ns) (suc i) k is = node_there ns i k is

module _ {S : Type 0} (ops : Ops S) (c : Config) where
  sound_cores : (w : World (Host S)) (posted : ℕ → ℕ → List Message)
      → Follows c (IsSoundHost ops c) w posted → AllSound ops c (fifo_of w posted)
  sound_cores w posted h i k is =
      let n = node_there w.nodes i k is in subst (IsSoundHost ops c i) n.2 (h.sound i n.0 n.1)

  -- a world that follows an ordered one of which this holds
  pub record HasOrder (P : FifoWorld (Host S) → Type 0) (w : World (Host S)) : Type 0 where
    pub posted : ℕ → ℕ → List Message
    pub follows : Follows c (IsSoundHost ops c) w posted
    pub holds : P (fifo_of w posted)

  -- it holds after each move of a FIFO world of which it holds
  abbrev pub IsSteady : (FifoWorld (Host S) → Type 0) → Type 0
  IsSteady P =
      (o o' : FifoWorld (Host S)) → P o → AllSound ops c o → Steps (host_rules ops) o o' → P o'

module _ {S : Type 0} (ops : Ops S) (c : Config) (limits : IsConfig c)
    (well_behaved : IsWellBehaved (host_rules ops) c (IsSoundHost ops c)) where
  -- all moves keep it so
  pub order_led : (P : FifoWorld (Host S) → Type 0) → IsSteady ops c P
      → (w w' : World (Host S)) (moves : List Move) → HasOrder ops c P w
      → Leads (host_rules ops) c w moves w' → HasOrder ops c P w'
  order_led P kept w w' moves a lead =
      let f = moves-keep (host_rules ops) c (IsSoundHost ops c) limits well_behaved
      (λ v posted. P (fifo_of v posted))
      (λ v v' posted follows holds next. kept (fifo_of v posted) (fifo_of v' next.0) holds
      (sound_cores ops c v posted follows) next.2)
      w w' moves (a.posted, a.follows, a.holds) lead in
      record { posted = f.0; follows = f.1; holds = f.2 }

module _ {S : Type 0} (start : Start S) (c : Config) where
  first_cores : (me : ℕ) (ps : List Program) (i : ℕ) (k : Host S)
      → slice_get (map core_of (first_nodes start c me ps)) i ≡ Some k
      → (program : Program) × (k ≡ first_host start c (i + me) program)
  first_cores me [] i k is = absurd (none-some k is)
  first_cores me (p ∷ ps) zero k is = (
    p,
    sym (same_Some (first_host start c me p) k is)
        ∙ ap (λ n. first_host start c n p) (let f : me ≡ 0 + me = omega arith in f),
  )
  first_cores me (p ∷ ps) (suc i) k is =
      let f : (program : Program) × (k ≡ first_host start c (i + (me + 1)) program) =
      first_cores (me + 1) ps i k is in (
        f.0,
        f.1
            ∙ ap (λ n. first_host start c n f.0)
            (let g : i + (me + 1) ≡ suc i + me = omega arith in g),
      )

  pub first_count : (me : ℕ) (ps : List Program)
      → length (map core_of (first_nodes start c me ps)) ≡ length ps
  first_count me [] = refl
  first_count me (p ∷ ps) = ap suc (first_count (me + 1) ps)

  -- the world as it begins
  pub opening_first : (programs : List Program)
      → AreFirst start c (fifo_of (opening start c programs) (λ i j. []))
  opening_first programs i k is =
      let f = first_cores 0 programs i k is in
      (f.0, f.1 ∙ ap (λ n. first_host start c n f.0) (let g : i + 0 ≡ i = omega arith in g))

  first_unfetched : (me : ℕ) (ps : List Program) → FetchNothing ps → (i : ℕ) (k : Host S)
      → slice_get (map core_of (first_nodes start c me ps)) i ≡ Some k
      → fetches_of k.process.program ≡ []
  first_unfetched me [] none i k is = absurd (none-some k is)
  first_unfetched me (p ∷ ps) none zero k is =
      ap (λ (h : Host S). fetches_of h.process.program) (sym (same_Some (first_host start c me p) k is))
      ∙ All-head FetchesNone p ps none
  first_unfetched me (p ∷ ps) none (suc i) k is =
      first_unfetched (me + 1) ps (All-tail FetchesNone p ps none) i k is

  -- and whose programs fetch nothing
  pub opening_unfetched : (programs : List Program) → FetchNothing programs → (i : ℕ) (k : Host S)
      → slice_get (fifo_of (opening start c programs) (λ i j. [])).cores i ≡ Some k
      → fetches_of k.process.program ≡ []
  opening_unfetched programs none i k is = first_unfetched 0 programs none i k is
