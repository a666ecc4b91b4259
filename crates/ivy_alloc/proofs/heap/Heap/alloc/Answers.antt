use Rattle.std.proofs.Common.{ap, refl, sym, inr, ◌∙◌, arith}
use Rattle.std.proofs.lemmas.Result.{err_from_is_err_and}
use Rattle.ivy_model.specs.stated.Serves.{rounded}
use Rattle.ivy_model.proofs.Blocks.{block_added}
use Rattle.std.specs.FinMap.{insert, from_entries}
use Rattle.ivy_model.specs.declared.call.Reply.TheVariants.{Value}
use Rattle.ivy_alloc.specs.stated.HeapAnswers.{gives}
use Rattle.ivy_alloc.proofs.Answered.{told_empty, told_full, told_found}
use Rattle.ivy_alloc.proofs.HeapBounds.{grown, rounded_some}
use Rattle.ivy_alloc.proofs.Room.{least_room, no_room}
use Rattle.ivy_alloc.proofs.Tied.{fresh_room, tied_taken}
use Rattle.ivy_alloc.proofs.heap.Heap.alloc.Goals as goal

pub returns-in_default-clause-full : goal.returns-in_default-clause-full
returns-in_default-clause-full g c =
    let s = c.self.inside in
    let some = rounded_some c.args.size c.if-size-eq0.false in
    rw (← c.self.view_is) (
      λ _. (
        omega arith,
        no_room s.config s.extents.items _ (rounded c.args.size) (record { start = 0; len = 0 })
            c.self.invariant.0 some (rw c.deref.ensures.value at c.in_default.ensures.none),
      ),
      λ _. refl,
    )

pub returns-in_err-reserve-clause-full : goal.returns-in_err-reserve-clause-full
returns-in_err-reserve-clause-full g c =
    let s = c.self.inside in
    let some = rounded_some c.args.size c.if-size-eq0.false in
    let found =
    least_room s.config s.extents.items _ (rounded c.args.size) c.in-Some.place
    c.index.result.now c.self.invariant.0 some
    (rw c.deref.ensures.value at c.in-Some.ensures.found) in
    let p = err_from_is_err_and c.from_residual.result c.from_residual.ensures.1 in
    rw (p.1, p.2, ← c.self.view_is) (λ e. absurd (cc e), λ none. absurd (none.1 _ found.holds))

pub returns-in_err-insert-clause-full : goal.returns-in_err-insert-clause-full
returns-in_err-insert-clause-full g c =
    let s = c.self.inside in
    let some = rounded_some c.args.size c.if-size-eq0.false in
    let found =
    least_room s.config s.extents.items _ (rounded c.args.size) c.in-Some.place
    c.index.result.now c.self.invariant.0 some
    (rw c.deref.ensures.value at c.in-Some.ensures.found) in
    let p = err_from_is_err_and c.from_residual-in_err-insert.result
    c.from_residual-in_err-insert.ensures.1 in
    rw (p.1, p.2, ← c.self.view_is) (λ e. absurd (cc e), λ none. absurd (none.1 _ found.holds))

pub invariant_of-self-2 : goal.invariant_of-self-2
invariant_of-self-2 g c =
    let s = c.self.inside in
    let x = c.index.result.now in
    let n = rounded c.args.size in
    let some = rounded_some c.args.size c.if-size-eq0.false in
    let found =
    least_room s.config s.extents.items _ n c.in-Some.place x c.self.invariant.0 some
    (rw c.deref.ensures.value at c.in-Some.ensures.found) in
    let e = c.take_front.ensures in
    let r = c.in_ok-reserve.ensures in
    let start = ap (λ z. z.start) c.index.ensures in (
      rw (
        block_added s.blocks.entries c.insert.new.self.entries x.start n
            c.in_ok-insert.ensures.updates.0,
        start,
      )
          (tied_taken s.config s.extents.items c.take_front.new.extents.items _ n _
          c.self.invariant.0 some found.holds (rw r.items at (e.taken x))),
      omega (
        arith,
        e.room,
        e.fewer,
        r.ok,
        r.len,
        grown c.in_ok-insert.field-0 _ _ c.in_ok-insert.ensures.len,
        c.len.ensures.len,
      ),
    )

pub returns-clause-found : goal.returns-clause-found
returns-clause-found g c =
    let s = c.self.inside in
    let x = c.index.result.now in
    let n = rounded c.args.size in
    let some = rounded_some c.args.size c.if-size-eq0.false in
    let found =
    least_room s.config s.extents.items _ n c.in-Some.place x c.self.invariant.0 some
    (rw c.deref.ensures.value at c.in-Some.ensures.found) in
    rw (← c.self.view_is, ap (λ z. z.start) c.index.ensures) found

pub returns-clause-full : goal.returns-clause-full
returns-clause-full g c =
    let s = c.self.inside in
    let x = c.index.result.now in
    let some = rounded_some c.args.size c.if-size-eq0.false in
    let found =
    least_room s.config s.extents.items _ (rounded c.args.size) c.in-Some.place x
    c.self.invariant.0 some (rw c.deref.ensures.value at c.in-Some.ensures.found) in
    rw (← c.self.view_is) (λ e. absurd (cc e), λ none. absurd (none.1 _ found.holds))

pub returns-clause-added : goal.returns-clause-added
returns-clause-added g c =
    let s = c.self.inside in
    let x = c.index.result.now in
    let n = rounded c.args.size in
    let some = rounded_some c.args.size c.if-size-eq0.false in
    let found =
    least_room s.config s.extents.items _ n c.in-Some.place x c.self.invariant.0 some
    (rw c.deref.ensures.value at c.in-Some.ensures.found) in
    let after =
    block_added s.blocks.entries c.insert.new.self.entries x.start n
    c.in_ok-insert.ensures.updates.0 in
    let fresh = fresh_room s.config _ n _ c.self.invariant.0.apart some found.holds in
    rw (← c.self.view_is) (record {
      fresh = rw (ap (λ z. z.start) c.index.ensures) fresh;
      added = ap (λ b. record { config = s.config; blocks = b }) after;
    })

pub returns-then-size-eq0-clause-told : goal.returns-then-size-eq0-clause-told
returns-then-size-eq0-clause-told g c =
    inr (told_empty c.args.self.now.config c.args.self.now.blocks c.args.size c.if-size-eq0.true)

pub returns-then-size-heap_end-clause-told : goal.returns-then-size-heap_end-clause-told
returns-then-size-heap_end-clause-told g c =
    rw (← c.self.view_is) (inr (told_full c.self.inside.config _ c.args.size c.if-size-eq0.false
    (λ addr room. let below = room.below in
    omega (arith, c.heap_end.ensures, c.if-size-heap_end.true))))

pub returns-in_default-clause-told : goal.returns-in_default-clause-told
returns-in_default-clause-told g c =
    let s = c.self.inside in
    let some = rounded_some c.args.size c.if-size-eq0.false in
    let none =
    no_room s.config s.extents.items _ (rounded c.args.size) (record { start = 0; len = 0 })
    c.self.invariant.0 some (rw c.deref.ensures.value at c.in_default.ensures.none) in
    rw (← c.self.view_is) (inr (told_full s.config _ c.args.size c.if-size-eq0.false none))

pub returns-clause-told : goal.returns-clause-told
returns-clause-told g c =
    let s = c.self.inside in
    let x = c.index.result.now in
    let n = rounded c.args.size in
    let some = rounded_some c.args.size c.if-size-eq0.false in
    let found =
    least_room s.config s.extents.items _ n c.in-Some.place x c.self.invariant.0 some
    (rw c.deref.ensures.value at c.in-Some.ensures.found) in
    let after =
    block_added s.blocks.entries c.insert.new.self.entries x.start n
    c.in_ok-insert.ensures.updates.0 in
    let told = told_found s.config _ c.args.size _ c.if-size-eq0.false found in
    rw (← c.self.view_is) (inr (told
    ∙ ap (λ a. gives (Value a) (insert (from_entries s.blocks.entries) a n))
    (ap (λ z. z.start) (sym c.index.ensures))
    ∙ ap (gives (Value x.start)) (sym after)))
