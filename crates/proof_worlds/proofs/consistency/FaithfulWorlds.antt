-- The order explains each world of strings that is reached, and goes on from move to move. For
-- every manager that keeps the laws.
use Rattle.std.proofs.Common.{◌≡◌, ◌+◌, ℕ, zero, suc, Bool, List, [], ◌∷◌, ◌++◌, length, map, slice_get, Some, refl, ap, sym, subst, ◌∙◌, arith, append-nil, append_assoc}
use Rattle.std.specs.Prelude.{All}
use Rattle.std.proofs.lemmas.Simd.{map-map}
use Rattle.std.proofs.lemmas.List.Elements.{All-nil, All-cons}
use Rattle.std.proofs.lemmas.Option.{same_Some, none-some}
use Rattle.ivy_model.specs.declared.Config.{Config}
use Rattle.ivy_model.specs.declared.Record.{Record}
use Rattle.ivy_model.specs.stated.Config.{IsConfig}
use Rattle.ivy_model.specs.stated.Explains.{Answered, IsExplained}
use Rattle.ivy_wire.specs.stated.Data.{Message}
use Rattle.ivy_pagetable.specs.stated.Manager.{Ops}
use Rattle.ivy_pagetable.specs.Manager.{Laws}
use Rattle.ivy_program.specs.stated.Programs.{Program}
use Rattle.ivy_moves.specs.declared.moves.Move.{Move}
use Rattle.ivy_moves.specs.stated.Nodes.{Node}
use Rattle.ivy_moves.specs.stated.Worlds.{World, Leads}
use Rattle.ivy_moves.specs.stated.Explained.{IsExplainedBy, IsExplainedAfter, AreTogether}
use Rattle.ivy_moves.specs.stated.Explained as explained
use Rattle.ivy_moves.specs.stated.FifoWorld.{FifoWorld}
use Rattle.ivy_moves.specs.stated.Following.{fifo_of, Follows}
use Rattle.ivy_moves.proofs.Kept.{IsKeptBySteps, move-keeps, moves-keep}
use Rattle.ivy_host.specs.stated.Hosts.{Host, answered_by, host_rules}
use Rattle.ivy_host.specs.stated.Sound.{IsSoundHost}
use Rattle.ivy_host.specs.stated.Openings.{Start, first_host, first_node, first_nodes, opening}
use Rattle.ivy_host.specs.stated.Holding.{AreRuns}
use Rattle.ivy_host.proofs.Starts.{IsStart}
use Rattle.ivy_host.proofs.WellBehaved.{well_behaved}
use Rattle.proof_worlds.proofs.consistency.Faithful.{IsFaithful, HasPrograms, map-places, faithful_explained, faithful_together, faithful_runs}
use Rattle.proof_worlds.proofs.consistency.FaithfulSteps.{GoesOn, faithful_next}
use Rattle.proof_worlds.proofs.consistency.FaithfulOpening.{opening_faithful}
use Rattle.proof_worlds.proofs.consistency.Untorn.{Since, here, untorn, since-next}

-- what stands in a list that is mapped
mapped-place : {X Y : Type 0} (f : X → Y) (xs : List X) (i : ℕ) (x : X) → slice_get xs i ≡ Some x
    → slice_get (map f xs) i ≡ Some (f x)
mapped-place f [] i x e = absurd (none-some x e)
mapped-place f (y ∷ xs) zero x e = ap (λ z. Some (f z)) (same_Some y x e)
mapped-place f (y ∷ xs) (suc i) x e = mapped-place f xs i x e

module _ {S : Type 0} (sends : Bool) (ops : Ops S) (laws : Laws ops) (c : Config)
    (config : IsConfig c) where
  explains : (w : World (Host S)) (posted : ℕ → ℕ → List Message) (order : List Record)
      → IsFaithful sends ops c (fifo_of w posted) order
      → IsExplainedBy (host_rules ops) c answered_by w order
  explains w posted order f =
      let all = map-map (λ (n : Host S). answered_by n) (λ (n : Node (Host S)). n.core) w.nodes in
      record {
        explained = subst (IsExplained c order) all
            (faithful_explained ops c (fifo_of w posted) order f);
        together = subst (AreTogether order) all
            (faithful_together ops c (fifo_of w posted) order f);
      }

  abbrev pub answers : World (Host S) → List Answered
  answers w = map (λ (n : Node (Host S)). answered_by n.core) w.nodes

  -- of what a node had in progress in this world none has come into the order of a later one, or all
  abbrev pub IsSince : FifoWorld (Host S) → List Record → World (Host S) → Type 0
  IsSince o order w = (i : ℕ) (n : Answered) → slice_get (answers w) i ≡ Some n → Since i n o order

  pub since_here : (w : World (Host S)) (posted : ℕ → ℕ → List Message) (order : List Record)
      → IsFaithful sends ops c (fifo_of w posted) order → IsSince (fifo_of w posted) order w
  since_here w posted order f i n there =
      let at : (x : Node (Host S)) × (slice_get w.nodes i ≡ Some x) × (answered_by x.core ≡ n) =
      map-places (λ (x : Node (Host S)). answered_by x.core) w.nodes i n there in
      subst (λ a. Since i a (fifo_of w posted) order) at.2
      (here ops c (fifo_of w posted) order f i at.0.core
      (mapped-place (λ (x : Node (Host S)). x.core) w.nodes i at.0 at.1))

  -- after each step an order that goes on from this one is faithful, and the nodes have these
  -- programs; it tears nothing apart that was in progress in one of these worlds
  abbrev GoesOnFrom : List Program → List (World (Host S)) → List Record → World (Host S)
      → (ℕ → ℕ → List Message) → Type 0
  GoesOnFrom programs past order w posted =
      (more : List Record) × IsFaithful sends ops c (fifo_of w posted) (order ++ more)
      × HasPrograms programs (fifo_of w posted)
      × All (IsSince (fifo_of w posted) (order ++ more)) past

  steps_go_on : (programs : List Program) (past : List (World (Host S))) (order : List Record)
      → IsKeptBySteps (host_rules ops) c (IsSoundHost ops c) config (well_behaved laws c)
      (GoesOnFrom programs past order)
  steps_go_on programs past order w w' posted h f next =
      let on : GoesOn sends ops c (fifo_of w posted) (fifo_of w' next.0) (order ++ f.0) =
      faithful_next ops laws c config (fifo_of w posted) (fifo_of w' next.0)
      (order ++ f.0) f.1 next.2 in
      let same = append_assoc order f.0 on.more in (
        f.0 ++ on.more,
        subst (IsFaithful sends ops c (fifo_of w' next.0)) same on.faithful,
        on.programs programs f.2,
        λ k d below i n there.
            subst (λ all. Since i n (fifo_of w' next.0) all) same
            (since-next ops c (fifo_of w posted) (fifo_of w' next.0) (order ++ f.0) on.more f.1
            on.faithful i n (f.3 k d below i n there) next.2),
      )

  -- so it explains this world, and tears nothing apart
  pub explains_after : (past : List (World (Host S))) (w : World (Host S))
      (posted : ℕ → ℕ → List Message) (order : List Record)
      → IsFaithful sends ops c (fifo_of w posted) order
      → All (IsSince (fifo_of w posted) order) (w ∷ past)
      → IsExplainedAfter (host_rules ops) c answered_by past w order
  explains_after past w posted order f since = record {
    now = explains w posted order f;
    untorn = λ k d below i n there.
        untorn ops c (fifo_of w posted) order f i n (since k d below i n there);
  }

  -- the order explains the world, and goes on to explain each world after it
  pub goes_on : (programs : List Program) (past : List (World (Host S))) (w : World (Host S))
      (posted : ℕ → ℕ → List Message) (order : List Record) (moves : List Move)
      → Follows c (IsSoundHost ops c) w posted → IsFaithful sends ops c (fifo_of w posted) order
      → HasPrograms programs (fifo_of w posted) → All (IsSince (fifo_of w posted) order) past
      → explained.GoesOn (host_rules ops) c answered_by past w order moves
  goes_on programs past w posted order [] h f has since =
      explains_after past w posted order f
      (All-cons (IsSince (fifo_of w posted) order) w past (since_here w posted order f) since)
  goes_on programs past w posted order (move ∷ moves) h f has since =
      let all =
      All-cons (IsSince (fifo_of w posted) order) w past (since_here w posted order f) since in (
        explains_after past w posted order f all,
        λ mid made.
            (let same = sym (append-nil order) in
            let now : GoesOnFrom programs (w ∷ past) order w posted = (
              [],
              subst (IsFaithful sends ops c (fifo_of w posted)) same f,
              has,
              subst (λ os. All (IsSince (fifo_of w posted) os) (w ∷ past)) same all,
            ) in
            let next =
            move-keeps (host_rules ops) c (IsSoundHost ops c) config (well_behaved laws c)
            (GoesOnFrom programs (w ∷ past) order) (steps_go_on programs (w ∷ past) order) w mid
            move (posted, h, now) made in (
              next.2.0,
              goes_on programs (w ∷ past) mid next.0 (order ++ next.2.0) moves next.1 next.2.1
                  next.2.2 next.2.3,
            )),
      )

  runs : (programs : List Program) (w : World (Host S)) (posted : ℕ → ℕ → List Message)
      (order : List Record) → IsFaithful sends ops c (fifo_of w posted) order
      → HasPrograms programs (fifo_of w posted) → AreRuns programs w
  runs programs w posted order f has i n there =
      let core : slice_get (fifo_of w posted).cores i ≡ Some n.core =
      mapped-place (λ (m : Node (Host S)). m.core) w.nodes i n there in
      (has i n.core core, faithful_runs ops c (fifo_of w posted) order f i n.core core)

  -- in each world that is led to, the histories are runs of the programs
  pub runs_led : (programs : List Program) (w w' : World (Host S))
      (posted : ℕ → ℕ → List Message) (order : List Record) (moves : List Move)
      → Follows c (IsSoundHost ops c) w posted
      → IsFaithful sends ops c (fifo_of w posted) order → HasPrograms programs (fifo_of w posted)
      → Leads (host_rules ops) c w moves w' → AreRuns programs w'
  runs_led programs w w' posted order moves h f has lead =
      let now : GoesOnFrom programs [] order w posted = (
        [],
        subst (IsFaithful sends ops c (fifo_of w posted)) (sym (append-nil order)) f,
        has,
        All-nil (IsSince (fifo_of w posted) (order ++ [])),
      ) in
      let end =
      moves-keep (host_rules ops) c (IsSoundHost ops c) config (well_behaved laws c)
      (GoesOnFrom programs [] order) (steps_go_on programs [] order) w w' moves (posted, h, now)
      lead in
      runs programs w' end.0 (order ++ end.2.0) end.2.1 end.2.2

module _ {S : Type 0} (start : Start S) (c : Config) where
  -- the nodes of the opening world
  first_place : (me : ℕ) (ps : List Program) (i : ℕ) (n : Node (Host S))
      → slice_get (first_nodes start c me ps) i ≡ Some n
      → (program : Program) × (slice_get ps i ≡ Some program)
      × (n.core ≡ first_host start c (me + i) program)
  first_place me [] i n h = absurd (none-some n h)
  first_place me (p ∷ ps) zero n h = (
    p,
    refl,
    ap (λ (x : Node (Host S)). x.core) (sym (same_Some (first_node start c me p) n h))
        ∙ ap (λ k. first_host start c k p) (omega arith),
  )
  first_place me (p ∷ ps) (suc i) n h =
      let rest : (program : Program) × (slice_get ps i ≡ Some program)
      × (n.core ≡ first_host start c ((me + 1) + i) program) = first_place (me + 1) ps i n h in
      (rest.0, rest.1, rest.2 ∙ ap (λ k. first_host start c k rest.0) (omega arith))

  pub opening_programs : (programs : List Program)
      → HasPrograms programs (fifo_of (opening start c programs) (λ i j. []))
  opening_programs programs i n h =
      let found : (x : Node (Host S)) × (slice_get (first_nodes start c 0 programs) i ≡ Some x)
      × (x.core ≡ n) =
      map-places (λ (m : Node (Host S)). m.core) (first_nodes start c 0 programs) i n h in
      let first : (program : Program) × (slice_get programs i ≡ Some program)
      × (found.0.core ≡ first_host start c (0 + i) program) =
      first_place 0 programs i found.0 found.1 in
      first.1 ∙ ap (λ (x : Host S). Some x.process.program) (sym (sym found.2 ∙ first.2))

module _ {S : Type 0} (ops : Ops S) (laws : Laws ops) (start : Start S) (c : Config)
    (config : IsConfig c) (new : IsStart ops c start) (programs : List Program)
    (many : length programs ≡ c.nodes)
    (follow : Follows c (IsSoundHost ops c) (opening start c programs) (λ i j. [])) where
  -- an order explains the opening world, and goes on to explain each world that is led to
  pub opening_explained : (moves : List Move)
      → explained.GoesOn (host_rules ops) c answered_by [] (opening start c programs) [] moves
  opening_explained moves =
      goes_on start.sends_on ops laws c config programs [] (opening start c programs) (λ i j. []) []
      moves follow
      (opening_faithful ops start c config new programs many) (opening_programs start c programs)
      (All-nil (IsSince start.sends_on ops laws c config
      (fifo_of (opening start c programs) (λ i j. [])) []))

  -- in each world that is led to from there, the histories are runs of the programs
  pub opening_runs : (w : World (Host S)) (moves : List Move)
      → Leads (host_rules ops) c (opening start c programs) moves w → AreRuns programs w
  opening_runs w moves lead =
      runs_led start.sends_on ops laws c config programs (opening start c programs) w (λ i j. []) []
      moves follow
      (opening_faithful ops start c config new programs many) (opening_programs start c programs)
      lead
