-- The walk goes on behind a block that ends a gap too early, and ends in the first gap that is wide
-- enough.
use Rattle.std.proofs.Common.{◌≡◌, ℕ, ◌+◌, ◌<◌, ◌≤◌, [], ◌∷◌, nat_le, Bool, true, false, Option, IfSome, IfNone, refl, sym, subst, arith}
use Rattle.std.specs.Bool.{then_some}
use Rattle.std.specs.FinMap.{from_entries}
use Rattle.std.proofs.lemmas.Bool.Decides.{nat_tests}
use Rattle.std.proofs.lemmas.List.Elements.{All-nil}
use Rattle.ivy_model.specs.declared.config.Config.{Config}
use Rattle.ivy_model.specs.stated.Serves.{IsLeast, IsRoom}
use Rattle.ivy_model.proofs.Blocks.{Misses}
use Rattle.ivy_model.proofs.Walk.{IsWalkedTo, gap_misses, is_least, next_block, none_lower, walk_begins, walks_on}
use Rattle.ivy_model.proofs.flat.first_room.Goals as goal

pub loop-start-init : goal.loop-start-init
loop-start-init g c =
    let blocks = c.args.blocks.now in
    let start = c.into_iter-start-iterator.ensures.into_iter_gives in
    let begun : IsWalkedTo c.args.config.now blocks.entries c.args.size c.args.config.now.page_size
    blocks.entries =
    walk_begins c.args.config.now blocks start.5 c.requires.sound c.args.size c.requires.limits in
    subst (λ a. IsWalkedTo c.args.config.now blocks.entries c.args.size a
    c.into_iter-start-iterator.result) (sym c.from-addr.ensures)
    (subst (IsWalkedTo c.args.config.now blocks.entries c.args.size c.args.config.now.page_size)
    (sym start.0) begun)

pub returns-then-addr-size-clause-found : goal.returns-then-addr-size-clause-found
returns-then-addr-size-clause-found g c =
    let blocks = c.args.blocks.now in
    let w : IsWalkedTo c.args.config.now blocks.entries c.args.size c.loop-start.addr
    ((c.in-Some.start.now, c.in-Some.len.now) ∷ c.next.new.self) =
    subst (IsWalkedTo c.args.config.now blocks.entries c.args.size c.loop-start.addr)
    c.in-Some.ensures.steps c.loop-start.invariant in
    let block = next_block c.args.config.now blocks.entries c.args.size c.loop-start.addr _ _ w in
    is_least c.args.config.now blocks c.into_iter-start-iterator.ensures.into_iter_gives.5
    c.args.size c.loop-start.addr _ w
    (omega (arith, block.below, c.if-addr-size.true))
    (gap_misses c.args.config.now blocks.entries c.args.size c.loop-start.addr _ _ w
    c.if-addr-size.true)

pub overflow_add-start : goal.overflow_add-start
overflow_add-start g c =
    let blocks = c.args.blocks.now in
    let w : IsWalkedTo c.args.config.now blocks.entries c.args.size c.loop-start.addr
    ((c.in-Some.start.now, c.in-Some.len.now) ∷ c.next.new.self) =
    subst (IsWalkedTo c.args.config.now blocks.entries c.args.size c.loop-start.addr)
    c.in-Some.ensures.steps c.loop-start.invariant in
    omega (
      arith,
      (next_block c.args.config.now blocks.entries c.args.size c.loop-start.addr _ _ w).below,
      c.heap_end-end.ensures,
    )

pub loop-start-preserved : goal.loop-start-preserved
loop-start-preserved g c =
    let blocks = c.args.blocks.now in
    let w : IsWalkedTo c.args.config.now blocks.entries c.args.size c.loop-start.addr
    ((c.in-Some.start.now, c.in-Some.len.now) ∷ c.next.new.self) =
    subst (IsWalkedTo c.args.config.now blocks.entries c.args.size c.loop-start.addr)
    c.in-Some.ensures.steps c.loop-start.invariant in
    subst (λ a. IsWalkedTo c.args.config.now blocks.entries c.args.size a c.next.new.self)
    (sym c.max-addr.ensures)
    (walks_on c.args.config.now blocks.entries c.args.size c.loop-start.addr _ _ w
    c.if-addr-size.false)

some_if : (P : ℕ → Type 0) (b : Bool) (x : ℕ) (o : Option ℕ) → o ≡ then_some b x → (b ≡ true → P x)
    → IfSome o P
some_if P true x o e h = subst (λ p. IfSome p P) (sym e) (h refl)
some_if P false x o e h = subst (λ p. IfSome p P) (sym e) tt

none_if : (P : Type 0) (b : Bool) (x : ℕ) (o : Option ℕ) → o ≡ then_some b x → (b ≡ false → P)
    → IfNone o P
none_if P true x o e h = subst (λ p. IfNone p P) (sym e) tt
none_if P false x o e h = subst (λ p. IfNone p P) (sym e) (h refl)

le : (m n : ℕ) → nat_le m n ≡ true → m ≤ n
le m n h = grind (arith, nat_tests)

gt : (m n : ℕ) → nat_le m n ≡ false → n < m
gt m n h = grind (arith, nat_tests)

pub returns-clause-found : goal.returns-clause-found
returns-clause-found g c =
    let config : Config = c.args.config.now in
    let blocks = c.args.blocks.now in
    let addr : ℕ = c.loop-start.addr in
    let w : IsWalkedTo config blocks.entries c.args.size addr [] =
    subst (IsWalkedTo config blocks.entries c.args.size addr) c.in-None.ensures.steps.0
    c.loop-start.invariant in
    some_if (IsLeast (IsRoom config (from_entries blocks.entries) c.args.size))
    (nat_le (addr + c.args.size) c.heap_end-end.result) addr c.then_some.result
    c.then_some.ensures
    (λ t. is_least config blocks c.into_iter-start-iterator.ensures.into_iter_gives.5 c.args.size
    addr [] w
    (omega (arith, le (addr + c.args.size) c.heap_end-end.result t, c.heap_end-end.ensures))
    ((w.same addr (omega arith)).0 (All-nil (Misses c.args.size addr))))

pub returns-clause-none : goal.returns-clause-none
returns-clause-none g c =
    let config : Config = c.args.config.now in
    let blocks = c.args.blocks.now in
    let addr : ℕ = c.loop-start.addr in
    none_if ((a : ℕ) → IsRoom config (from_entries blocks.entries) c.args.size a → ⊥)
    (nat_le (addr + c.args.size) c.heap_end-end.result) addr c.then_some.result
    c.then_some.ensures
    (λ t a room. omega (
      arith,
      gt (addr + c.args.size) c.heap_end-end.result t,
      c.heap_end-end.ensures,
      room.below,
      none_lower config blocks c.into_iter-start-iterator.ensures.into_iter_gives.5 c.args.size addr
          c.loop-start.start-iterator c.loop-start.invariant a room,
    ))
