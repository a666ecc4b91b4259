use Rattle.std.proofs.Common.{◌≡◌, true, false, is_some, ◌∙◌, sym, ap}
use Rattle.ivy_pagetable.specs.declared.Entry.{Entry}
use Rattle.ivy_pagetable.specs.stated.Tables.{entry_at}
use Rattle.ivy_pagetable.specs.stated.Words.{needs_write}
use Rattle.ivy_coherence.specs.stated.Fetching.{suits, joined_by}
use Rattle.ivy_coherence.specs.stated.PageFaults.{Begun}
use Rattle.ivy_coherence.proofs.keeping.Opened.{room_locked}
use Rattle.ivy_coherence.proofs.keeping.OpenedFetches.{join_sound, join_then, join_starts, join_not, join_quiet}
use Rattle.ivy_coherence.proofs.coherence.Coherence.join.Goals as goal

pub set_entry-requires-clause-room : goal.set_entry-requires-clause-room
set_entry-requires-clause-room g c = λ locked.
    room_locked _ _ c.self.view_is c.self.invariant.0 c.args.page c.requires.fetched

pub invariant_of-self : goal.invariant_of-self
invariant_of-self g c =
    let fits : suits (entry_at c.self.inside.table c.args.page) (needs_write c.args.word) ≡ true =
    ap (λ (e : Entry). suits e (needs_write c.args.word)) (sym c.entry.ensures)
    ∙ (sym c.joined_by.ensures.suits ∙ ap is_some c.in-Some.is) in
    let entry_is : c.in-Some.entry ≡ joined_by (entry_at c.self.inside.table c.args.page) c.args.word =
    c.in-Some.ensures.entry ∙ ap (λ (e : Entry). joined_by e c.args.word) c.entry.ensures in (
      join_sound g.met.M.Manager.laws _ _ c.self.view_is c.self.invariant.0 c.args.page c.args.word _
          _ _ c.requires.page c.requires.word c.requires.free fits entry_is c.set_entry.ensures
          c.leave_out.ensures,
      c.self.invariant.1,
      c.self.invariant.2,
    )

pub returns-in-Some-clause-need : goal.returns-in-Some-clause-need
returns-in-Some-clause-need g c =
    let fits : suits (entry_at c.self.inside.table c.args.page) (needs_write c.args.word) ≡ true =
    ap (λ (e : Entry). suits e (needs_write c.args.word)) (sym c.entry.ensures)
    ∙ (sym c.joined_by.ensures.suits ∙ ap is_some c.in-Some.is) in
    sym (join_starts g.met.M.Manager.laws _ _ c.self.view_is c.self.invariant.0 c.args.page c.args.word
    fits)

pub returns-in-Some-clause-after : goal.returns-in-Some-clause-after
returns-in-Some-clause-after g c =
    let fits : suits (entry_at c.self.inside.table c.args.page) (needs_write c.args.word) ≡ true =
    ap (λ (e : Entry). suits e (needs_write c.args.word)) (sym c.entry.ensures)
    ∙ (sym c.joined_by.ensures.suits ∙ ap is_some c.in-Some.is) in
    let entry_is : c.in-Some.entry ≡ joined_by (entry_at c.self.inside.table c.args.page) c.args.word =
    c.in-Some.ensures.entry ∙ ap (λ (e : Entry). joined_by e c.args.word) c.entry.ensures in
    join_then g.met.M.Manager.laws _ _ c.self.view_is c.self.invariant.0 c.args.page c.args.word _ _ _
    fits entry_is c.set_entry.ensures c.leave_out.ensures

pub returns-in-None-clause-need : goal.returns-in-None-clause-need
returns-in-None-clause-need g c =
    let unfit : suits (entry_at c.self.inside.table c.args.page) (needs_write c.args.word) ≡ false =
    ap (λ (e : Entry). suits e (needs_write c.args.word)) (sym c.entry.ensures)
    ∙ (sym c.joined_by.ensures.suits ∙ ap is_some c.in-None.is) in
    sym (ap (λ (b : Begun _). b.need)
    (join_not g.met.M.Manager.laws _ _ c.self.view_is c.self.invariant.0 c.args.page c.args.word
    unfit))

pub returns-in-None-clause-after : goal.returns-in-None-clause-after
returns-in-None-clause-after g c =
    let unfit : suits (entry_at c.self.inside.table c.args.page) (needs_write c.args.word) ≡ false =
    ap (λ (e : Entry). suits e (needs_write c.args.word)) (sym c.entry.ensures)
    ∙ (sym c.joined_by.ensures.suits ∙ ap is_some c.in-None.is) in
    sym (ap (λ (b : Begun _). b.after)
    (join_not g.met.M.Manager.laws _ _ c.self.view_is c.self.invariant.0 c.args.page c.args.word
    unfit))

pub returns-in-Some-clause-quiet : goal.returns-in-Some-clause-quiet
returns-in-Some-clause-quiet g c =
    join_quiet g.M.Manager.ops c.args.self.now c.args.page c.args.word
    (entry_at c.args.self.now.table c.args.page)

pub returns-in-None-clause-quiet : goal.returns-in-None-clause-quiet
returns-in-None-clause-quiet g c =
    join_quiet g.M.Manager.ops c.args.self.now c.args.page c.args.word
    (entry_at c.args.self.now.table c.args.page)
