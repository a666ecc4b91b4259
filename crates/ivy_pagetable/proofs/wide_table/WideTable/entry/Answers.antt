use Rattle.std.proofs.Common.{◌≡◌, ◌≢◌, ◌<◌, true, false, length, get_or, ap, sym, ◌∙◌, subst, arith}
use Rattle.std.proofs.lemmas.List.{get_or_default}
use Rattle.ivy_pagetable.specs.stated.Accesses.{reads}
use Rattle.ivy_pagetable.specs.stated.Entries.{without}
use Rattle.ivy_pagetable.specs.stated.TableState.{Table}
use Rattle.ivy_pagetable.specs.WideTables.{StandsNowhere, StandsAt}
use Rattle.ivy_pagetable.proofs.WideTables.{idle_placed, open_nowhere, placed}
use Rattle.ivy_pagetable.proofs.wide_table.WideTable.entry.Goals as goal

pub returns-then-reads : goal.returns-then-reads
returns-then-reads g c =
    let i = c.self.inside in
    let within : c.args.page < length i.idle.items =
    let long = c.self.invariant.long in let inside = c.requires in
    omega (arith, inside, long, ap (λ (x : Table). length x.entries) c.self.view_is) in
    let some : get_or i.idle.items c.args.page without ≢ without =
    λ e. let s : c.index-idle.result.now ≡ without =
    c.index-idle.ensures
    ∙ get_or_default i.idle.items c.args.page c.index-idle.result.now without within ∙ e in
    let f : true ≡ false =
    sym c.if-reads.true ∙ c.reads.ensures ∙ ap reads (c.access.ensures.access ∙ ap (λ x. x.access) s) in
    cc in
    idle_placed c.args.self.now i.page_size i.idle.items i.locked.items i.pages.items
    c.self.view_is c.args.page within
    (open_nowhere i.idle.items c.args.page some i.locked.items c.self.invariant.aside)
    c.index-idle.result.now c.index-idle.ensures

pub returns-in-Some : goal.returns-in-Some
returns-in-Some g c =
    let i = c.self.inside in
    let at : StandsAt c.args.page i.locked.items c.in-Some.place =
    subst (λ xs. StandsAt c.args.page xs c.in-Some.place) c.deref.ensures.0 c.in-Some.ensures.found in
    c.lent.ensures
    ∙ ap (λ xs. (get_or xs c.in-Some.place c.index-deref-place.result).entry)
    c.deref-in-Some.ensures.0
    ∙ placed c.args.self.now i.page_size i.idle.items i.locked.items i.pages.items i.zeros
    c.self.view_is c.self.invariant c.args.page c.in-Some.place at c.index-deref-place.result

pub returns-in-None : goal.returns-in-None
returns-in-None g c =
    let i = c.self.inside in
    let within : c.args.page < length i.idle.items =
    let long = c.self.invariant.long in let inside = c.requires in
    omega (arith, inside, long, ap (λ (x : Table). length x.entries) c.self.view_is) in
    idle_placed c.args.self.now i.page_size i.idle.items i.locked.items i.pages.items
    c.self.view_is c.args.page within
    (subst (λ xs. StandsNowhere c.args.page xs) c.deref.ensures.0 c.in-None.ensures.missing)
    c.index-idle.result.now c.index-idle.ensures
