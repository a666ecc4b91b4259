-- The order explains each FIFO world that is reached, and goes on from step to step. For every
-- manager that keeps the laws.
use Rattle.std.proofs.Common.{◌≡◌, ◌≢◌, ◌⊎◌, inl, inr, ◌<◌, ℕ, zero, suc, Bool, Option, List, [], ◌∷◌, ◌++◌, map, set, slice_get, Some, refl, ap, sym, subst, ◌∙◌, arith}
use Rattle.std.proofs.lemmas.List.{append-nil}
use Rattle.std.proofs.lemmas.Option.{same_Some, none-some}
use Rattle.ivy_model.specs.declared.Config.{Config}
use Rattle.ivy_model.specs.declared.Record.{Record}
use Rattle.ivy_model.specs.stated.Memory.{Blocks, first}
use Rattle.ivy_model.specs.Memory.{flat_page}
use Rattle.ivy_model.specs.stated.Memory as model
use Rattle.ivy_model.specs.stated.Legal.{ServesAll}
use Rattle.ivy_model.specs.stated.Explains.{part, Answered, IsOwed, IsExplained}
use Rattle.ivy_model.proofs.OrderParts.{part-append, leads-append}
use Rattle.ivy_pagetable.specs.declared.Entry.{Entry}
use Rattle.ivy_pagetable.specs.stated.Manager.{Ops}
use Rattle.ivy_alloc.specs.stated.Heap.{HeapState}
use Rattle.ivy_program.specs.stated.Programs.{Program}
use Rattle.ivy_program.specs.stated.ProgramRuns.{IsRunTo}
use Rattle.ivy_moves.specs.stated.Explained.{StandTogether, AreTogether}
use Rattle.ivy_moves.specs.stated.FifoWorld.{FifoWorld}
use Rattle.ivy_alloc.specs.stated.HeapCalls.{after_told}
use Rattle.ivy_host.specs.stated.Hosts.{Host, answered_by}
use Rattle.ivy_host.specs.stated.Sound.{IsSoundHost}
use Rattle.proof_table.specs.stated.Orderly.{IsOrderly}
use Rattle.proof_worlds.specs.stated.HeapRequests.{heap_way}
use Rattle.proof_table.proofs.transitions.Places.{get_map}
use Rattle.proof_worlds.proofs.refinement.LiftedWorlds.{net_of, IsSoundWorldBy}
use Rattle.proof_worlds.specs.consistency.Copied.{IsCopied}
use Rattle.proof_worlds.proofs.consistency.OwedCalls.{pending-calls}
use Rattle.proof_worlds.proofs.consistency.Owing.{pending, IsRunning, GoOn, blocks_stay, blocks_change, Adds}
use Rattle.proof_worlds.proofs.consistency.Adjacent.{grown_together}

-- The order is one that the flat memory leads through, all copies and the live blocks of the heap
-- are those of the memory then, and each node's part of the order is its history and what is owed
-- to it, which stands together there.
pub record IsFaithful {S : Type 0} (sends : Bool) (ops : Ops S) (c : Config)
    (o : FifoWorld (Host S)) (order : List Record) : Type 0 where
  pub memory : model.Memory
  pub legal : ServesAll c (first c) order memory
  pub pages : ℕ → List ℕ
  pub shows : (p : ℕ) → p < c.pages → pages p ≡ flat_page c memory p
  pub sound : IsSoundWorldBy sends ops c o
  pub orderly : IsOrderly c (net_of o)
  pub copied : IsCopied c (net_of o) pages
  pub running : (i : ℕ) (n : Host S) → slice_get o.cores i ≡ Some n → IsRunning c n
  pub parts : (i : ℕ) (n : Host S) → slice_get o.cores i ≡ Some n
      → part i order ≡ n.history ++ pending n (heap_way o 0 i)
  pub together : (i : ℕ) (n : Host S) → slice_get o.cores i ≡ Some n
      → StandTogether (pending n (heap_way o 0 i)) order
  pub blocks : (i : ℕ) (n : Host S) (h : HeapState) → slice_get o.cores i ≡ Some n
      → n.memory.side.heap ≡ Some h → h.blocks ≡ memory.blocks

-- each node runs the program of its number
abbrev pub HasPrograms : {S : Type 0} → List Program → FifoWorld (Host S) → Type 0
HasPrograms {S} programs o =
    (i : ℕ) (n : Host S) → slice_get o.cores i ≡ Some n
    → slice_get programs i ≡ Some n.process.program

-- what stands in a list one of whose elements was written
pub set-places : {X : Type 0} (xs : List X) (i j : ℕ) (y x : X) → slice_get (set xs i y) j ≡ Some x
    → ((j ≡ i) × (x ≡ y)) ⊎ ((j ≢ i) × (slice_get xs j ≡ Some x))
set-places [] i j y x e = absurd (none-some x e)
set-places (z ∷ xs) zero zero y x e = inl (refl, sym (same_Some y x e))
set-places (z ∷ xs) zero (suc j) y x e = inr ((λ f. absurd cc), e)
set-places (z ∷ xs) (suc i) zero y x e = inr ((λ f. absurd cc), e)
set-places (z ∷ xs) (suc i) (suc j) y x e =
    elim (set-places xs i j y x e) [
      | inl p ↦ inl (ap suc p.0, p.1)
      | inr p ↦
          inr ((λ f. p.0 (omega (arith, f))), p.1)
    ]

-- what stands in a list that was mapped
pub map-places : {X Y : Type 0} (f : X → Y) (xs : List X) (i : ℕ) (y : Y)
    → slice_get (map f xs) i ≡ Some y → (x : X) × (slice_get xs i ≡ Some x) × (f x ≡ y)
map-places {X = X} f xs i y e =
    let found : (x : X) × (slice_get xs i ≡ Some x) × (y ≡ f x) = get_map f xs y i e in
    (found.0, found.1, sym found.2)

module _ {S : Type 0} (ops : Ops S) (c : Config) where
  -- the order explains what the nodes were answered
  pub faithful_explained : {sends : Bool} (o : FifoWorld (Host S)) (order : List Record)
      → IsFaithful sends ops c o order
      → IsExplained c order (map (λ (n : Host S). answered_by n) o.cores)
  faithful_explained o order f = record {
    legal = (f.memory, f.legal);
    parts = λ i a h.
        (let found : (n : Host S) × (slice_get o.cores i ≡ Some n) × (answered_by n ≡ a) =
        map-places (λ (n : Host S). answered_by n) o.cores i a h in
        subst (λ (x : Answered). (rest : List Record) × (part i order ≡ x.history ++ rest)
        × IsOwed x.asked rest) found.2 (
          pending found.0 (heap_way o 0 i),
          f.parts i found.0 found.1,
          pending-calls ops c i found.0 (f.sound.sound i found.0 found.1) (f.running i found.0 found.1)
              (heap_way o 0 i),
        ));
  }

  -- and what it has of each past its history stands together in it
  pub faithful_together : {sends : Bool} (o : FifoWorld (Host S)) (order : List Record)
      → IsFaithful sends ops c o order
      → AreTogether order (map (λ (n : Host S). answered_by n) o.cores)
  faithful_together o order f i a h =
      let found : (n : Host S) × (slice_get o.cores i ≡ Some n) × (answered_by n ≡ a) =
      map-places (λ (n : Host S). answered_by n) o.cores i a h in
      subst (λ (x : Answered). (rest : List Record) × (part i order ≡ x.history ++ rest)
      × StandTogether rest order) found.2 (
        pending found.0 (heap_way o 0 i),
        f.parts i found.0 found.1,
        f.together i found.0 found.1,
      )

  -- each history is a run of its program
  pub faithful_runs : {sends : Bool} (o : FifoWorld (Host S)) (order : List Record)
      → IsFaithful sends ops c o order
      → (i : ℕ) (n : Host S) → slice_get o.cores i ≡ Some n
      → IsRunTo n.process.program n.history n.process.state
  faithful_runs o order f i n h = (f.running i n h).run

  -- the heap is at node 0
  pub at_home : {sends : Bool} (o : FifoWorld (Host S)) → IsSoundWorldBy sends ops c o
      → (i : ℕ) (n : Host S) (h : HeapState)
      → slice_get o.cores i ≡ Some n → n.memory.side.heap ≡ Some h → i ≡ 0
  at_home o sound i n h there has =
      let good : IsSoundHost ops c i n = sound.sound i n there in
      sym good.me ∙ (good.memory.side.home h has).1

  -- the live blocks after an event of a node, at that node and at others
  blocks_here : (b b' : Blocks) (heap heap' : Option HeapState) (h : HeapState)
      → ((g : HeapState) → heap ≡ Some g → g.blocks ≡ b) → heap' ≡ Some h → GoOn b heap heap' b'
      → h.blocks ≡ b'
  blocks_here b b' heap heap' h old has (blocks_stay same still) =
      old h (sym still ∙ has) ∙ sym same
  blocks_here b b' heap heap' h old has (blocks_change g t was now same) =
      ap (λ (x : HeapState). x.blocks) (same_Some h (after_told g t) (sym has ∙ now)) ∙ sym same

  blocks_there : (b b' : Blocks) (heap heap' : Option HeapState)
      → ((g : HeapState) → heap ≡ Some g → ⊥) → GoOn b heap heap' b' → b ≡ b'
  blocks_there b b' heap heap' none (blocks_stay same still) = sym same
  blocks_there b b' heap heap' none (blocks_change g t was now same) = absurd (none g was)

  -- an event of one node, in the world, which changes no message of the heap that comes from node 0
  pub faithful-on : {sends : Bool} {was : ℕ → ℕ → Entry} (o o' : FifoWorld (Host S))
      (order : List Record) (i : ℕ)
      (n n' : Host S) (pages : ℕ → List ℕ) → (f : IsFaithful sends ops c o order)
      → slice_get o.cores i ≡ Some n
      → (a : Adds c was f.memory i n n' (heap_way o 0 i) pages)
      → o'.cores ≡ set o.cores i n' → ((j : ℕ) → heap_way o' 0 j ≡ heap_way o 0 j)
      → IsSoundWorldBy sends ops c o' → IsOrderly c (net_of o') → IsCopied c (net_of o') pages
      → IsFaithful sends ops c o' (order ++ a.more)
  faithful-on o o' order i n n' pages f there a cores ways sound orderly copied = record {
    memory = a.new;
    legal = leads-append c (first c) f.memory a.new order a.more f.legal a.legal;
    pages = pages;
    shows = a.shows;
    sound = sound;
    orderly = orderly;
    copied = copied;
    running =
        λ j m h.
        elim (set-places o.cores i j n' m (ap (λ ns. slice_get ns j) (sym cores) ∙ h)) [
          | inl x ↦
              subst (IsRunning c) (sym x.1) a.running
          | inr x ↦ f.running j m x.1
        ];
    parts = λ j m h. part-append j order a.more
        ∙ elim (set-places o.cores i j n' m (ap (λ ns. slice_get ns j) (sym cores) ∙ h)) [
          | inl x ↦
              (let was : part j order ≡ n.history ++ pending n (heap_way o 0 i) =
              ap (λ k. part k order) x.0 ∙ f.parts i n there in
              let now : part j a.more ≡ a.more = ap (λ k. part k a.more) x.0 ∙ a.own in
              ap (λ xs. part j order ++ xs) now ∙ ap (λ xs. xs ++ a.more) was ∙ sym a.history
              ∙ ap (λ (y : Host S). y.history ++ pending y (heap_way o 0 i)) (sym x.1)
              ∙ ap (λ ms. m.history ++ pending m ms) (ap (heap_way o 0) (sym x.0) ∙ sym (ways j)))
          | inr x ↦
              ap (λ xs. part j order ++ xs) (a.other j x.0) ∙ append-nil (part j order)
              ∙ f.parts j m x.1 ∙ ap (λ ms. m.history ++ pending m ms) (sym (ways j))
        ];
    together = λ j m h. subst (λ ms. StandTogether (pending m ms) (order ++ a.more)) (sym (ways j))
        (elim (set-places o.cores i j n' m (ap (λ ns. slice_get ns j) (sym cores) ∙ h)) [
          | inl x ↦
              subst (λ k. StandTogether (pending m (heap_way o 0 k)) (order ++ a.more)) (sym x.0)
              (subst (λ (y : Host S). StandTogether (pending y (heap_way o 0 i)) (order ++ a.more))
              (sym x.1) (a.together order (f.together i n there)))
          | inr x ↦
              grown_together (pending m (heap_way o 0 j)) order a.more (f.together j m x.1)
        ]);
    blocks =
        λ j m h at has.
        elim (set-places o.cores i j n' m (ap (λ ns. slice_get ns j) (sym cores) ∙ at)) [
          | inl x ↦
              blocks_here f.memory.blocks a.new.blocks n.memory.side.heap n'.memory.side.heap h
              (λ g. f.blocks i n g there) (ap (λ (y : Host S). y.memory.side.heap) (sym x.1) ∙ has)
              a.blocks
          | inr x ↦ f.blocks j m h x.1 has
              ∙ blocks_there f.memory.blocks a.new.blocks n.memory.side.heap n'.memory.side.heap
              (λ g is. x.0
              (at_home o f.sound j m h x.1 has ∙ sym (at_home o f.sound i n g there is))) a.blocks
        ];
  }

  pub programs-on : (programs : List Program) (o o' : FifoWorld (Host S)) (i : ℕ)
      (n n' : Host S) → slice_get o.cores i ≡ Some n → n'.process.program ≡ n.process.program
      → o'.cores ≡ set o.cores i n'
      → HasPrograms programs o → HasPrograms programs o'
  programs-on programs o o' i n n' there same cores has j m h =
      elim (set-places o.cores i j n' m (ap (λ ns. slice_get ns j) (sym cores) ∙ h)) [
        | inl x ↦
            ap (slice_get programs) x.0 ∙ has i n there ∙ ap Some (sym same)
            ∙ ap (λ (y : Host S). Some y.process.program) (sym x.1)
        | inr x ↦ has j m x.1
      ]

-- after a step: more stands in the order, and each node keeps its program
pub record GoesOn {S : Type 0} (sends : Bool) (ops : Ops S) (c : Config)
    (o o' : FifoWorld (Host S))
    (order : List Record) : Type 0 where
  pub more : List Record
  pub faithful : IsFaithful sends ops c o' (order ++ more)
  pub programs : (programs : List Program) → HasPrograms programs o
      → HasPrograms programs o'
