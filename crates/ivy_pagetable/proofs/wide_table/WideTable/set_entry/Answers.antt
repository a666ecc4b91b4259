use Rattle.std.proofs.Common.{◌≡◌, ℕ, ◌<◌, ◌++◌, [], ◌∷◌, length, set, ap, sym, ◌∙◌, subst, arith, rules, tests}
use Rattle.ivy_pagetable.specs.stated.Entries.{without}
use Rattle.ivy_pagetable.specs.stated.States.{IdleState}
use Rattle.ivy_pagetable.specs.stated.TableState.{Table}
use Rattle.ivy_pagetable.specs.stated.Tables.{with_entry}
use Rattle.ivy_pagetable.specs.WideTables.{IsWideTable, without_page}
use Rattle.ivy_pagetable.proofs.WideTables.{kept_by, idle_sound, locked_sound, set_idle, set_locked, room, locked_entry, seen_as}
use Rattle.ivy_pagetable.proofs.wide_table.WideTable.set_entry.Goals as goal

pub invariant_of-self : goal.invariant_of-self
invariant_of-self g c =
    let i = c.self.inside in
    let kept : c.retain.new.self.items ≡ without_page c.args.page i.locked.items =
    kept_by _ c.args.page _ (λ x b q y k. search (rules, tests)) i.locked.items
    c.retain.new.self.items c.retain.ensures.filtered in
    subst (λ xs. IsWideTable i.page_size (set i.idle.items c.args.page c.in-Idle.idle) xs
    i.pages.items i.zeros) (sym kept)
    (idle_sound i.page_size i.idle.items i.locked.items i.pages.items i.zeros c.self.invariant
    c.args.page c.in-Idle.idle)

pub push-requires : goal.push-requires
push-requires g c =
    let i = c.self.inside in
    let kept : c.retain.new.self.items ≡ without_page c.args.page i.locked.items =
    kept_by _ c.args.page _ (λ x b q y k. search (rules, tests)) i.locked.items
    c.retain.new.self.items c.retain.ensures.filtered in
    let few : length c.retain.new.self.items < 8 =
    subst (λ (n : ℕ). n < 8)
    (sym (ap length kept
    ∙ room c.args.self.now i.page_size i.idle.items i.locked.items i.pages.items i.zeros
    c.self.view_is c.self.invariant c.args.page))
    (c.requires.room (locked_entry c.args.entry c.in_default.not-Idle)) in
    (omega arith, few)

pub invariant_of-self-in_default : goal.invariant_of-self-in_default
invariant_of-self-in_default g c =
    let i = c.self.inside in
    let kept : c.retain.new.self.items ≡ without_page c.args.page i.locked.items =
    kept_by _ c.args.page _ (λ x b q y k. search (rules, tests)) i.locked.items
    c.retain.new.self.items c.retain.ensures.filtered in
    let within : c.args.page < length i.idle.items =
    let long = c.self.invariant.long in let inside = c.requires.page in
    omega (arith, inside, long, ap (λ (x : Table). length x.entries) c.self.view_is) in
    let pushed : c.push.new.self.items
    ≡ without_page c.args.page i.locked.items
    ++ record { page = c.args.page; entry = c.args.entry } ∷ [] =
    c.push.ensures.items
    ∙ ap (λ xs. xs ++ record { page = c.args.page; entry = c.args.entry } ∷ []) kept in
    subst (λ (s : IdleState). IsWideTable i.page_size (set i.idle.items c.args.page s)
    c.push.new.self.items i.pages.items i.zeros) (sym c.plain.ensures)
    (subst (λ xs. IsWideTable i.page_size (set i.idle.items c.args.page without) xs
    i.pages.items i.zeros) (sym pushed)
    (locked_sound i.page_size i.idle.items i.locked.items i.pages.items i.zeros c.self.invariant
    c.args.page c.args.entry within (locked_entry c.args.entry c.in_default.not-Idle)))

pub returns-in-Idle : goal.returns-in-Idle
returns-in-Idle g c =
    let i = c.self.inside in
    let kept : c.retain.new.self.items ≡ without_page c.args.page i.locked.items =
    kept_by _ c.args.page _ (λ x b q y k. search (rules, tests)) i.locked.items
    c.retain.new.self.items c.retain.ensures.filtered in
    ap (λ xs. seen_as i.page_size (set i.idle.items c.args.page c.in-Idle.idle) xs i.pages.items)
    kept
    ∙ set_idle c.args.self.now i.page_size i.idle.items i.locked.items i.pages.items
    c.self.view_is c.args.page c.in-Idle.idle
    ∙ ap (with_entry c.args.self.now c.args.page) (sym c.in-Idle.is)

pub returns-in_default : goal.returns-in_default
returns-in_default g c =
    let i = c.self.inside in
    let kept : c.retain.new.self.items ≡ without_page c.args.page i.locked.items =
    kept_by _ c.args.page _ (λ x b q y k. search (rules, tests)) i.locked.items
    c.retain.new.self.items c.retain.ensures.filtered in
    let pushed : c.push.new.self.items
    ≡ without_page c.args.page i.locked.items
    ++ record { page = c.args.page; entry = c.args.entry } ∷ [] =
    c.push.ensures.items
    ∙ ap (λ xs. xs ++ record { page = c.args.page; entry = c.args.entry } ∷ []) kept in
    ap (λ (s : IdleState). seen_as i.page_size (set i.idle.items c.args.page s)
    c.push.new.self.items i.pages.items) c.plain.ensures
    ∙ ap (λ xs. seen_as i.page_size (set i.idle.items c.args.page without) xs i.pages.items) pushed
    ∙ set_locked c.args.self.now i.page_size i.idle.items i.locked.items i.pages.items
    c.self.view_is c.args.page c.args.entry
