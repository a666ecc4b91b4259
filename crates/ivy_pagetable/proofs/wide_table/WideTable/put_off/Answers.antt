use Rattle.std.proofs.Common.{◌≡◌, ◌<◌, Bool, false, length, get_or, set, ap, sym, ◌∙◌, subst, arith, if◌then◌else◌}
use Rattle.std.proofs.lemmas.List.{get_or_default}
use Rattle.std.specs.List.{refill}
use Rattle.ivy_pagetable.specs.stated.Entries.{without, can_put_off, with_put_off}
use Rattle.ivy_pagetable.specs.stated.TableState.{Table}
use Rattle.ivy_pagetable.specs.stated.Tables.{entry_at, with_entry}
use Rattle.ivy_pagetable.specs.WideTables.{StandsNowhere, StandsAt, IsWideTable}
use Rattle.ivy_pagetable.proofs.WideTables.{idle_placed, placed, put_off_at, put_off_kept, put_off_sound, seen_as, written}
use Rattle.ivy_pagetable.proofs.wide_table.WideTable.put_off.Given as given
use Rattle.ivy_pagetable.proofs.wide_table.WideTable.put_off.Goals as goal

-- at an idle entry nothing can be put off
cannot : (g : given.Over) (c : goal.In_default g)
    → false ≡ can_put_off (entry_at c.args.self.now c.args.page)
cannot g c =
    let i = c.self.inside in
    let within : c.args.page < length i.idle.items =
    let long = c.self.invariant.long in let inside = c.requires in
    omega (arith, inside, long, ap (λ (x : Table). length x.entries) c.self.view_is) in
    ap can_put_off
    (idle_placed c.args.self.now i.page_size i.idle.items i.locked.items i.pages.items
    c.self.view_is c.args.page within
    (subst (λ xs. StandsNowhere c.args.page xs) c.deref.ensures.0 c.in_default.ensures.missing)
    (get_or i.idle.items c.args.page without)
    (get_or_default i.idle.items c.args.page without
    (get_or i.idle.items c.args.page without) within))

pub returns-in_default-clause-done : goal.returns-in_default-clause-done
returns-in_default-clause-done g c = cannot g c

pub returns-in_default-clause-kept : goal.returns-in_default-clause-kept
returns-in_default-clause-kept g c =
    ap (λ (b : Bool). if b then with_entry c.args.self.now c.args.page
    (with_put_off (entry_at c.args.self.now c.args.page) c.args.message) else c.args.self.now)
    (cannot g c)

module _ (g : given.Over) (c : goal.After-self-1 g) where
  at : StandsAt c.args.page c.self.inside.locked.items c.in-Some.place
  at = subst (λ xs. StandsAt c.args.page xs c.in-Some.place) c.deref.ensures.0 c.in-Some.ensures.found

  -- the entry that was found is the page's
  found : (get_or c.deref_mut.result.now c.in-Some.place c.index-deref_mut-place.result).entry
      ≡ entry_at c.args.self.now c.args.page
  found =
      let i = c.self.inside in
      ap (λ xs. (get_or xs c.in-Some.place c.index-deref_mut-place.result).entry) c.deref_mut.ensures.value
      ∙ placed c.args.self.now i.page_size i.idle.items i.locked.items i.pages.items i.zeros
      c.self.view_is c.self.invariant c.args.page c.in-Some.place at c.index-deref_mut-place.result

  -- what stands aside then
  aside : refill (length c.self.inside.locked.items) c.self.inside.locked.items
      (set c.deref_mut.result.now c.in-Some.place
      (record {
        page = (get_or c.deref_mut.result.now c.in-Some.place c.index-deref_mut-place.result).page;
        entry = c.put_off.new.self;
      }))
      ≡ set c.self.inside.locked.items c.in-Some.place
      (record {
        page = c.args.page;
        entry = put_off_at (entry_at c.args.self.now c.args.page) c.args.message;
      })
  aside =
      let page = ap (λ xs. (get_or xs c.in-Some.place c.index-deref_mut-place.result).page)
      c.deref_mut.ensures.value ∙ at.is c.index-deref_mut-place.result in
      let entry = c.put_off.ensures.kept ∙ ap (λ e. put_off_at e c.args.message) found in
      written c.self.inside.locked.items c.deref_mut.result.now c.in-Some.place
      (record {
        page = (get_or c.deref_mut.result.now c.in-Some.place c.index-deref_mut-place.result).page;
        entry = c.put_off.new.self;
      })
      (record {
        page = c.args.page;
        entry = put_off_at (entry_at c.args.self.now c.args.page) c.args.message;
      })
      c.deref_mut.ensures.value (λ j. record { page = page j; entry = entry j })

pub invariant_of-self : goal.invariant_of-self
invariant_of-self g c =
    let i = c.self.inside in
    subst (λ xs. IsWideTable i.page_size i.idle.items xs i.pages.items i.zeros) (sym (aside g c))
    (put_off_sound c.args.self.now i.page_size i.idle.items i.locked.items i.pages.items i.zeros
    c.self.view_is c.self.invariant c.args.page c.in-Some.place (at g c) c.args.message)

pub returns-clause-done : goal.returns-clause-done
returns-clause-done g c = c.put_off.ensures.done ∙ ap can_put_off (found g c)

pub returns-clause-kept : goal.returns-clause-kept
returns-clause-kept g c =
    let i = c.self.inside in
    ap (λ xs. seen_as i.page_size i.idle.items xs i.pages.items) (aside g c)
    ∙ put_off_kept c.args.self.now i.page_size i.idle.items i.locked.items i.pages.items i.zeros
    c.self.view_is c.self.invariant c.args.page c.in-Some.place (at g c) c.args.message
