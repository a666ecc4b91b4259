use Rattle.std.proofs.Common.{rules, arith, ◌≡◌, ◌≢◌, ◌≤◌, ◌<◌, ◌-◌, ◌*◌, ◌+◌, ◌%◌, ℕ, min, take, length, true, All, refl, ap, sym, subst, ◌∙◌}
use Rattle.std.proofs.lemmas.List.{length-take}
use Rattle.std.proofs.lemmas.List.Elements.{All-from_get_or}
use Rattle.ivy_model.specs.declared.Call.TheVariants.{Load}
use Rattle.ivy_model.specs.declared.Row.TheVariants.{Stores}
use Rattle.ivy_model.specs.Rows.{numbers_in, row}
use Rattle.ivy_memory.specs.stated.Asking.{asked_of}
use Rattle.ivy_site.specs.Calls.{AreAnswered}
use Rattle.ivy_embedded.specs.declared.lending.Lending.TheVariants.{ToRead}
use Rattle.ivy_embedded.specs.Lending.{lending_asked, row_lending}
use Rattle.ivy_embedded.specs.Nodes.{Embedded}
use Rattle.ivy_embedded.proofs.Counting.{counted_row}
use Rattle.ivy_embedded.proofs.Kept.{none_asked}
use Rattle.ivy_embedded.proofs.Lenders.{known, answered_lender, settled}
use Rattle.ivy_embedded.proofs.RowBytes.{stores_have}
use Rattle.ivy_embedded.proofs.Stored.{not_read, numbers_inside, read_permits, unlent_unread}
use Rattle.ivy_embedded.proofs.embedded.Embedded.store_row.Goals as goal
use Rattle.ivy_embedded.proofs.embedded.Embedded.store_row.Goals.{else-not-is_none-via-then-not-is_none+else-not-permits_row, else-not-is_none-via-else-not-is_none}

pub invariant_of-self : goal.invariant_of-self
invariant_of-self c = (
  counted_row Stores _ c.args.addr c.store_row-words.result c.inside_page-inside.result.now
      c.self.inside.site c.store_row-words.new.self c.store_row-words.ensures.stores
      c.self.inside.turns _ c.self.invariant.0 refl,
  answered_lender c.self.inside.site c.self.inside.lendings c.self.inside.waits_at c.self.invariant.1
      (known _ c.sound.ensures.site c.sound.ensures.memory) _ c.store_row-words.new.self
      (c.is_free.ensures.0 (search rules))
      c.store_row-words.ensures.stores,
)

pub returns-clause-stores : goal.returns-clause-stores
returns-clause-stores c =
    let old = c.self.inside.site in
    let words = c.store_row-words.result in
    let room = old.config.page_size - c.args.addr % old.config.page_size in
    let cut : c.inside_page-inside.result.now ≡ take room c.args.from.now =
    c.inside_page-inside.ensures
    ∙ ap (λ (e : Embedded). take (e.site.config.page_size - c.args.addr % e.site.config.page_size)
    c.args.from.now) (sym c.self.view_is) in
    let same : numbers_in words c.inside_page-inside.result.now ≡ numbers_in words c.args.from.now =
    ap (numbers_in words) cut
    ∙ numbers_inside words room c.args.from.now
    (subst (λ l. 8 * words ≤ length l) cut c.store_row-words.ensures.fits) in
    subst (λ (e : Embedded). (c.self.inside.first ≡ e.first)
    × AreAnswered (row Stores e.site.me c.args.addr (numbers_in words c.args.from.now)) e.site
    c.store_row-words.new.self × (c.self.inside.lendings ≡ e.lent)) c.self.view_is (
      refl,
      subst (λ ns. AreAnswered (row Stores old.me c.args.addr ns) old c.store_row-words.new.self) same
          c.store_row-words.ensures.stores,
      refl,
    )

pub returns-clause-unread : goal.returns-clause-unread
returns-clause-unread c =
    let old = c.self.inside.site in
    let words = c.store_row-words.result in
    let room = old.config.page_size - c.args.addr % old.config.page_size in
    let cut : c.inside_page-inside.result.now ≡ take room c.args.from.now =
    c.inside_page-inside.ensures
    ∙ ap (λ (e : Embedded). take (e.site.config.page_size - c.args.addr % e.site.config.page_size)
    c.args.from.now) (sym c.self.view_is) in
    let long = ap length cut ∙ length-take room c.args.from.now in
    let fits = c.store_row-words.ensures.fits in
    let k = known old c.sound.ensures.site c.sound.ensures.memory in
    let first : lending_asked c.self.inside.lendings (asked_of old.config (Load 8 c.args.addr)) ≢ ToRead =
    elim c.else-not-is_none.branch [
      | else-not-is_none-via-then-not-is_none+else-not-permits_row w ↦
          let may : w.permits_row.result ≡ true = search rules in
          λ read. read_permits w.row_lending.result (sym w.permits_row.ensures ∙ may)
          (w.row_lending.ensures
          ∙ (sym (ap (λ (e : Embedded). row_lending e c.args.addr) c.self.view_is) ∙ read))
      | else-not-is_none-via-else-not-is_none w ↦
          unlent_unread _ (none_asked c.self.inside.lendings (asked_of old.config (Load 8 c.args.addr))
          (c.is_none.ensures (search rules)))
    ] in
    subst (λ (e : Embedded). (j : ℕ) → j < words → row_lending e (c.args.addr + 8 * j) ≢ ToRead)
    c.self.view_is
    (λ j low. not_read old.config c.self.inside.lendings k.limits c.args.addr j
    (omega (arith, low, fits, long)) first)

pub returns-clause-words : goal.returns-clause-words
returns-clause-words c =
    let old = c.self.inside.site in
    let words = c.store_row-words.result in
    let room = old.config.page_size - c.args.addr % old.config.page_size in
    let cut : c.inside_page-inside.result.now ≡ take room c.args.from.now =
    c.inside_page-inside.ensures
    ∙ ap (λ (e : Embedded). take (e.site.config.page_size - c.args.addr % e.site.config.page_size)
    c.args.from.now) (sym c.self.view_is) in
    let long = ap length cut ∙ length-take room c.args.from.now in
    let fits = c.store_row-words.ensures.fits in
    let same : numbers_in words c.inside_page-inside.result.now ≡ numbers_in words c.args.from.now =
    ap (numbers_in words) cut
    ∙ numbers_inside words room c.args.from.now (subst (λ l. 8 * words ≤ length l) cut fits) in
    let k = known old c.sound.ensures.site c.sound.ensures.memory in
    let low : All (λ b. b < 256) c.args.from.now =
    All-from_get_or (λ b. b < 256) c.args.from.now 0 (λ i lt. omega (arith, c.type_inv.from i)) in
    stores_have c.self.inside.lendings old c.store_row-words.new.self c.args.addr words c.args.from.now
    (settled old c.self.inside.lendings c.self.inside.waits_at c.self.invariant.1 k
    (c.is_free.ensures.0 (search rules))) c.sound.ensures.memory k.config
    (omega (arith, fits, long)) low
    (subst (λ ns. AreAnswered (row Stores old.me c.args.addr ns) old c.store_row-words.new.self) same
    c.store_row-words.ensures.stores)
