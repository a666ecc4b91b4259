-- What the calls of a node leave of what it lends, by what they come to.
use Rattle.std.proofs.Common.{◌≡◌, ◌≢◌, ◌⊎◌, inl, inr, ℕ, zero, suc, ◌+◌, ◌-◌, ◌*◌, ◌/◌, ◌%◌, ◌<◌, ◌≤◌, min, Bool, true, false, ◌&&◌, List, [], ◌∷◌, length, slice_get, Option, Some, None, refl, sym, ap, ◌∙◌, subst, if◌then◌else◌, arith}
use Rattle.std.specs.Prelude.{Result, Ok, Err, MatchResult, is_none}
use Rattle.std.proofs.lemmas.Bool.{and_parts, cases_Bool}
use Rattle.std.proofs.lemmas.Bool.Decides.{eqb_tells}
use Rattle.std.proofs.lemmas.Option.{none-some, same_Some, slice_get_past}
use Rattle.ivy_model.specs.declared.Act.TheVariants as act
use Rattle.ivy_model.specs.declared.Call.{Call}
use Rattle.ivy_model.specs.declared.Call.TheVariants.{Load}
use Rattle.ivy_model.specs.declared.Config.{Config}
use Rattle.ivy_model.specs.declared.Fault.{Fault}
use Rattle.ivy_model.specs.declared.Reply.{Reply}
use Rattle.ivy_model.specs.declared.Row.{Row}
use Rattle.ivy_model.specs.declared.Row.TheVariants.{Loads, Stores}
use Rattle.ivy_model.specs.stated.Legal.{HasWidth}
use Rattle.ivy_model.specs.stated.Serves.{access_refusal}
use Rattle.ivy_model.specs.Rows.{calls_of, numbers_in, record_in, row}
use Rattle.ivy_model.proofs.Rows.{length-numbers_in}
use Rattle.ivy_pagetable.specs.stated.Words.{word_with}
use Rattle.ivy_pagetable.specs.WordRows.{row_len}
use Rattle.ivy_coherence.specs.Hits.{has_to_wait}
use Rattle.ivy_memory.specs.AtOnce.{IsRowAt}
use Rattle.ivy_memory.specs.BatchedCalls.{row_has_to_wait}
use Rattle.ivy_memory.specs.declared.memory.Asked.{Asked}
use Rattle.ivy_memory.specs.declared.memory.Asked.TheVariants as asked
use Rattle.ivy_memory.specs.stated.Asking.{asked_of, word_unless}
use Rattle.ivy_memory.proofs.batches.AtOnce.{row_begins}
use Rattle.ivy_memory.proofs.serving.Asking.{width_of_count}
use Rattle.ivy_program.specs.OwnCode.{IsFree}
use Rattle.ivy_site.specs.Calls.{BeginsRow, MayCallTogether, row_together}
use Rattle.ivy_site.specs.SiteView.{SiteView}
use Rattle.ivy_embedded.specs.declared.lending.Lending.{Lending}
use Rattle.ivy_embedded.specs.declared.lending.Lending.TheVariants.{Unlent}
use Rattle.ivy_embedded.specs.Calls.{IsLender}
use Rattle.ivy_embedded.specs.Exports.{AfterCall}
use Rattle.ivy_embedded.specs.Lending.{lending_asked, lending_in, may_ask, may_call, page_asked}
use Rattle.ivy_embedded.specs.Nodes.{Embedded}
use Rattle.ivy_embedded.proofs.Going.{core_of}
use Rattle.ivy_embedded.proofs.Lenders.{IsKnown, polled_lender, together_lender}
use Rattle.ivy_embedded.proofs.RowCalls.{row_words}

-- a call in progress was asked for its reply
pub polled_kept : (r : Result (Option Reply) Fault) (old new : SiteView) (lent : List Lending)
    (page : ℕ) → IsLender old lent page → IsKnown old
    → MatchResult r (λ progress. AfterCall progress old new) (λ _. new ≡ old)
    → IsLender new lent page
polled_kept (Ok progress) old new lent page l k done =
    polled_lender old lent page l k progress new done
polled_kept (Err fault) old new lent page l k same = rw same l

record_width : (kind : Row) (node addr number : ℕ) → HasWidth (record_in kind node addr number).call
record_width Loads node addr number = width_of_count
record_width Stores node addr number = width_of_count

-- the calls of a row have words of 8 bytes
row_widths : (kind : Row) (node addr : ℕ) (numbers : List ℕ) (k : ℕ) (call : Call)
    → slice_get (calls_of (row kind node addr numbers)) k ≡ Some call → HasWidth call
row_widths kind node addr [] k call is =
    absurd (none-some call (sym (slice_get_past List.[] k (omega arith)) ∙ is))
row_widths kind node addr (number ∷ more) zero call is =
    subst HasWidth (same_Some (record_in kind node addr number).call call is)
    (record_width kind node addr number)
row_widths kind node addr (number ∷ more) (suc k) call is =
    row_widths kind node (addr + 8) more k call is

refused_none : (o : Option ℕ) → is_none o ≡ true → o ≡ None
refused_none None h = refl
refused_none (Some code) h = absurd cc

-- the row lies in the page of its address
pub record IsInPage (c : Config) (addr words : ℕ) : Type 0 where
  pub permitted : access_refusal c 8 addr ≡ None
  pub fits : addr % c.page_size + 8 * words ≤ c.page_size

module _ (s : SiteView) (k : IsKnown s) (kind : Row) (addr words len : ℕ) where
  waits_permitted : row_has_to_wait (core_of s).memory kind addr ≡ true
      → access_refusal s.config 8 addr ≡ None
  waits_permitted waits =
      let m = (core_of s).memory in
      let c = m.coherence.config in
      let parts = and_parts (is_none m.asked && is_none (access_refusal c 8 addr)) (has_to_wait m.coherence (addr / c.page_size) kind) waits in
      let none = and_parts (is_none m.asked) (is_none (access_refusal c 8 addr)) parts.0 in
      ap (λ (x : Config). access_refusal x 8 addr) (sym k.config)
      ∙ refused_none (access_refusal c 8 addr) none.1

  in_page : (n : ℕ) (b : Bool) → row_has_to_wait (core_of s).memory kind addr ≡ b
      → n ≡ (if b then min words (row_len s.config.page_size (addr % s.config.page_size) len) else 0)
      → 0 < n → IsInPage s.config addr n
  in_page n true waits is some =
      let permitted = waits_permitted waits in
      let at : IsRowAt s.config addr (record {
        page = addr / s.config.page_size;
        offset = addr % s.config.page_size;
      }) = record { permitted = permitted; page = refl; offset = refl } in
      let found = row_begins s.config addr _ k.limits at in
      let within : addr % s.config.page_size ≤ s.config.page_size = found.within in
      record { permitted = permitted; fits = omega (arith, is, within) }
  in_page n false waits is some = absurd (omega (arith, is, some))

  -- so do as many calls as can be made together
  pub together_in_page : (n : ℕ) → n ≡ row_together s kind addr words len → 0 < n
      → IsInPage s.config addr n
  together_in_page n is some = in_page n (row_has_to_wait (core_of s).memory kind addr) refl is some

  -- where some are made, so many are
  pub row_many : (n : ℕ)
      → (MayCallTogether (core_of s).process (core_of s).history addr len
      → n ≡ row_together s kind addr words len)
      → ((MayCallTogether (core_of s).process (core_of s).history addr len → ⊥) → n ≡ 0) → 0 < n
      → n ≡ row_together s kind addr words len
  row_many n many busy some = elim (eqb_tells n (row_together s kind addr words len)) [
    | inl y ↦ y.1
    | inr y ↦ let none = busy (λ may. y.1 (many may)) in absurd (omega (arith, none, some))
  ]

-- calls of a row are made together, at a page that is not lent
pub row_kept : (kind : Row) (addr words : ℕ) (bytes : List ℕ) (old new : SiteView)
    (lent : List Lending) (page : ℕ) → IsLender old lent page → IsKnown old
    → IsFree (core_of old).process → IsInPage old.config addr words → 0 < words
    → lending_asked lent (asked_of old.config (Load 8 addr)) ≡ Unlent
    → BeginsRow (calls_of (row kind 0 addr (numbers_in words bytes))) old new → (at : ℕ)
    → at ≡ page_asked (asked_of old.config (Load 8 addr)) → IsLender new lent at
row_kept kind addr zero bytes old new lent page l k free within some unlent b at is =
    absurd (omega (arith, some))
row_kept kind addr (suc words) bytes old new lent page l k free within some unlent b at is =
    let c = old.config in
    let there : asked_of c (Load 8 addr)
    ≡ asked.Word (addr / c.page_size) (word_with 8 (addr % c.page_size) act.Load) =
    ap (λ r. word_unless r (addr / c.page_size) (word_with 8 (addr % c.page_size) act.Load))
    within.permitted in
    let numbers = numbers_in (suc words) bytes in
    let fits : addr % c.page_size + 8 * length numbers ≤ c.page_size =
    subst (λ n. addr % c.page_size + 8 * n ≤ c.page_size)
    (sym (length-numbers_in (suc words) bytes)) within.fits in
    subst (IsLender new lent) (sym (is ∙ ap page_asked there))
    (together_lender old lent page l k (calls_of (row kind 0 addr numbers)) (addr / c.page_size) new
    free (sym (ap (lending_asked lent) there) ∙ unlent)
    (λ j call at. (
      row_words c k.limits kind addr numbers within.permitted fits j call at,
      row_widths kind 0 addr numbers j call at,
    )) b)

-- what is so inside a node is so of it
pub free_inside : (e s : Embedded) → e ≡ s → IsFree e.site.node.core.process
    → IsFree s.site.node.core.process
free_inside e s same free = rw (← same) free

pub inside_free : (e s : Embedded) → e ≡ s → IsFree s.site.node.core.process
    → IsFree e.site.node.core.process
inside_free e s same free = rw same free

pub may_inside : (e s : Embedded) → e ≡ s → (call : Call) → may_call s call ≡ true
    → may_ask e.lent (asked_of e.site.config call) ≡ true
may_inside e s same call may = rw same may

-- where no page is lent, none is that a call asks for
pub none_asked : (lent : List Lending) (a : Asked) → ((page : ℕ) → lending_in lent page ≡ Unlent)
    → lending_asked lent a ≡ Unlent
none_asked lent (asked.Refused code) none = refl
none_asked lent (asked.Word page w) none = none page
none_asked lent (asked.Heap h) none = refl

pub ok_count : (r : Result ℕ Fault) (n m : ℕ) → r ≡ Ok n → r ≡ Ok m → n ≡ m
ok_count r n m a b =
    let f : Ok n ≡ Ok m = sym a ∙ b in cc

-- no call of a row is made
pub row_none : (kind : Row) (addr words : ℕ) (bytes : List ℕ) (old new : SiteView)
    (lent : List Lending) (page : ℕ) → words ≡ 0
    → BeginsRow (calls_of (row kind 0 addr (numbers_in words bytes))) old new
    → IsLender old lent page → IsLender new lent page
row_none kind addr zero bytes old new lent page none same l = rw same l
row_none kind addr (suc words) bytes old new lent page none b l = absurd (omega (arith, none))
