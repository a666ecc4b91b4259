use Rattle.std.proofs.Common.{ap, sym, refl, ◌∙◌, arith}
use Rattle.ivy_model.proofs.Blocks.{get_block, block_removed}
use Rattle.ivy_model.specs.declared.call.Reply.TheVariants.{Done, Refused}
use Rattle.std.specs.FinMap.{from_entries}
use Rattle.ivy_alloc.specs.stated.HeapAnswers.{gives}
use Rattle.ivy_alloc.proofs.Answered.{told_freed, told_not_freed}
use Rattle.ivy_alloc.proofs.Changed.{not_added, added_back}
use Rattle.ivy_alloc.proofs.HeapBounds.{heap_small}
use Rattle.ivy_alloc.proofs.Tied.{block_extent, block_not_free, tied_given}
use Rattle.ivy_alloc.proofs.heap.Heap.free.Goals as goal

pub returns-in_default-clause-refused : goal.returns-in_default-clause-refused
returns-in_default-clause-refused g c =
    rw (← c.self.view_is)
    (get_block c.self.inside.blocks.entries c.args.addr ∙ sym c.in_default.ensures.value)

pub give_back-requires-clause-given : goal.give_back-requires-clause-given
give_back-requires-clause-given g c =
    let s = c.self.inside in
    let tied = c.self.invariant.0 in
    block_extent s.config _ c.args.addr c.in-Some.len (heap_small s.config tied.limits) tied.apart
    (get_block s.blocks.entries c.args.addr ∙ sym c.in-Some.ensures.value)

pub give_back-requires-clause-taken : goal.give_back-requires-clause-taken
give_back-requires-clause-taken g c =
    let s = c.self.inside in
    block_not_free s.config s.extents.items _ c.args.addr c.in-Some.len c.self.invariant.0
    (get_block s.blocks.entries c.args.addr ∙ sym c.in-Some.ensures.value)

pub invariant_of-self-2 : goal.invariant_of-self-2
invariant_of-self-2 g c =
    let s = c.self.inside in
    let e = c.give_back.ensures in (
      rw (block_removed s.blocks.entries c.remove.new.self.entries c.args.addr
          c.remove.ensures.updates.0)
          (tied_given s.config s.extents.items c.give_back.new.extents.items _ c.args.addr
          c.in-Some.len c.self.invariant.0
          (get_block s.blocks.entries c.args.addr ∙ sym c.in-Some.ensures.value) e.given),
      omega (arith, e.one_more, e.room, c.in-Some.ensures.len, c.self.invariant.1),
    )

pub returns-clause-live : goal.returns-clause-live
returns-clause-live g c =
    rw (
      ← c.self.view_is,
      get_block c.self.inside.blocks.entries c.args.addr ∙ sym c.in-Some.ensures.value,
    ) refl

pub returns-clause-ended : goal.returns-clause-ended
returns-clause-ended g c =
    let s = c.self.inside in
    rw (← c.self.view_is)
    (ap (λ b. record { config = s.config; blocks = b })
    (block_removed s.blocks.entries c.remove.new.self.entries c.args.addr
    c.remove.ensures.updates.0))

pub returns-in_default-clause-told : goal.returns-in_default-clause-told
returns-in_default-clause-told g c =
    let s = c.self.inside in
    let none = get_block s.blocks.entries c.args.addr ∙ sym c.in_default.ensures.value in
    let same = sym c.in_default.ensures.unchanged in
    rw (← c.self.view_is)
    (told_not_freed _ c.args.addr none ∙ ap (λ es. gives (Refused 10) (from_entries es)) same)

pub returns-in_default-clause-taken_back : goal.returns-in_default-clause-taken_back
returns-in_default-clause-taken_back g c =
    let s = c.self.inside in
    let none = get_block s.blocks.entries c.args.addr ∙ sym c.in_default.ensures.value in
    rw (← c.self.view_is)
    (λ before size adds. absurd (not_added before _ c.args.addr size none adds))

pub returns-clause-told : goal.returns-clause-told
returns-clause-told g c =
    let s = c.self.inside in
    let live = get_block s.blocks.entries c.args.addr ∙ sym c.in-Some.ensures.value in
    let after =
    block_removed s.blocks.entries c.remove.new.self.entries c.args.addr
    c.remove.ensures.updates.0 in
    rw (← c.self.view_is) (told_freed _ c.args.addr _ live ∙ ap (gives Done) (sym after))

pub returns-clause-taken_back : goal.returns-clause-taken_back
returns-clause-taken_back g c =
    let s = c.self.inside in
    let after =
    block_removed s.blocks.entries c.remove.new.self.entries c.args.addr
    c.remove.ensures.updates.0 in
    let ended = ap (λ b. record { config = s.config; blocks = b }) after in
    rw (← c.self.view_is)
    (λ before size adds. (refl, added_back before _ _ c.args.addr size ended adds))
