-- Words that are stored in the page of their address, and none of a page that is lent to be read.
use Rattle.std.proofs.Common.{◌≡◌, ◌≢◌, ℕ, ◌+◌, ◌-◌, ◌*◌, ◌/◌, ◌%◌, ◌≤◌, min, true, List, length, take, bit_and, Option, Some, None, inl, inr, refl, sym, ap, ◌∙◌, subst, if◌then◌else◌, arith}
use Rattle.std.proofs.Math.Nat.{div-add-mod}
use Rattle.std.proofs.lemmas.List.{length-take}
use Rattle.std.proofs.lemmas.Nat.{div-mul-add, mod-mul-add}
use Rattle.ivy_model.specs.declared.Act.TheVariants as act
use Rattle.ivy_model.specs.declared.Call.TheVariants.{Load}
use Rattle.ivy_model.specs.declared.Config.{Config}
use Rattle.ivy_model.specs.declared.Row.TheVariants.{Stores}
use Rattle.ivy_model.specs.stated.Config.{IsConfig}
use Rattle.ivy_model.specs.stated.Serves.{access_refusal}
use Rattle.ivy_model.specs.Rows.{numbers_in}
use Rattle.ivy_model.proofs.Rows.{numbers_in-take}
use Rattle.ivy_pagetable.specs.stated.Words.{word_with}
use Rattle.ivy_pagetable.specs.WordRows.{row_len}
use Rattle.ivy_host.specs.stated.Managers.{Managed}
use Rattle.ivy_memory.specs.AtOnce.{IsRowAt, IsStored, is_row_at_hand}
use Rattle.ivy_memory.specs.stated.Asking.{asked_of, word_unless}
use Rattle.ivy_memory.specs.stated.Memories.{NodeMemory}
use Rattle.ivy_memory.proofs.batches.AtOnce.{permitted, row_begins}
use Rattle.ivy_memory.proofs.serving.Placing as placing
use Rattle.ivy_embedded.specs.declared.lending.Lending.{Lending}
use Rattle.ivy_embedded.specs.declared.lending.Lending.TheVariants.{Unlent, ToRead, ToWrite}
use Rattle.ivy_embedded.specs.Lending.{lending_asked, permits_row}

-- the place of an address in its page
pub room_by_mask : (c : Config) (addr : ℕ) → IsConfig c
    → bit_and addr (c.page_size - 1) ≡ addr % c.page_size
room_by_mask c addr limits = placing.place_by_mask c.page_size addr limits.page_size

-- as many words fit into what lies in the page
len_inside : (room len : ℕ) → min (room / 8) (min room len / 8) ≡ min (room / 8) (len / 8)
len_inside room len = omega arith

-- so as many are stored
pub stored_inside : (m : NodeMemory Managed) (addr room many : ℕ) (bytes : List ℕ)
    → room ≡ m.coherence.config.page_size - addr % m.coherence.config.page_size
    → IsStored m addr (length (take room bytes)) many → IsStored m addr (length bytes) many
stored_inside m addr room many bytes is stored =
    let size = m.coherence.config.page_size in
    let same : row_len size (addr % size) (length (take room bytes))
    ≡ row_len size (addr % size) (length bytes) =
    ap (row_len size (addr % size)) (length-take room bytes)
    ∙ ap (λ r. min (r / 8) (min room (length bytes) / 8)) (sym is)
    ∙ len_inside room (length bytes)
    ∙ ap (λ r. min (r / 8) (length bytes / 8)) is in
    elim stored [
      | inl all ↦ inl (all ∙ ap (λ n. if is_row_at_hand m Stores addr then n else 0) same)
      | inr none ↦ inr none
    ]

-- and the same numbers
pub numbers_inside : (n room : ℕ) (bytes : List ℕ) → 8 * n ≤ length (take room bytes)
    → numbers_in n (take room bytes) ≡ numbers_in n bytes
numbers_inside n room bytes fits =
    let long = length-take room bytes in
    numbers_in-take n room bytes (omega (arith, fits, long))

-- a page where words may be stored is not lent to be read
pub read_permits : (l : Lending) → permits_row l Stores ≡ true → l ≢ ToRead
read_permits Unlent may read = absurd cc
read_permits ToRead may read = absurd cc
read_permits ToWrite may read = absurd cc

pub unlent_unread : (l : Lending) → l ≡ Unlent → l ≢ ToRead
unlent_unread Unlent none read = absurd cc
unlent_unread ToRead none read = absurd cc
unlent_unread ToWrite none read = absurd cc

-- words in the page of an address, of which none at all is in a page that is lent to be read
module _ (c : Config) (lent : List Lending) (limits : IsConfig c) (addr k : ℕ)
    (within : addr % c.page_size + 8 * k + 8 ≤ c.page_size) where
  abbrev there : ℕ
  there = addr + 8 * k

  abbrev page : ℕ
  page = addr / c.page_size

  split : there ≡ page * c.page_size + (addr % c.page_size + 8 * k)
  split =
      let whole = div-add-mod addr c.page_size in
      let turned : page * c.page_size ≡ c.page_size * page = grind arith in
      omega (arith, whole, turned)

  of_page : there / c.page_size ≡ page
  of_page = ap (λ a. a / c.page_size) split
      ∙ div-mul-add page c.page_size (addr % c.page_size + 8 * k) (omega (arith, within))

  at_place : there % c.page_size ≡ addr % c.page_size + 8 * k
  at_place = ap (λ a. a % c.page_size) split
      ∙ mod-mul-add page c.page_size (addr % c.page_size + 8 * k) (omega (arith, within))

  -- the first word is permitted where one is
  first_permitted : access_refusal c 8 there ≡ None → access_refusal c 8 addr ≡ None
  first_permitted none =
      let at : IsRowAt c there (record { page = page; offset = addr % c.page_size + 8 * k }) =
      record { permitted = none; page = sym of_page; offset = sym at_place } in
      let found = row_begins c there _ limits at in
      let aligned = found.aligned in
      let whole = div-add-mod addr c.page_size in
      let turned : page * c.page_size ≡ c.page_size * page = grind arith in
      let is : page * c.page_size + addr % c.page_size ≡ addr = omega (arith, whole, turned) in
      subst (λ a. access_refusal c 8 a ≡ None) is
      (permitted c limits page (addr % c.page_size) found.from found.to
      (omega (arith, aligned)) (omega (arith, within)))

  pub not_read : lending_asked lent (asked_of c (Load 8 addr)) ≢ ToRead
      → lending_asked lent (asked_of c (Load 8 there)) ≢ ToRead
  not_read first = by (access_refusal c 8 there) refl
    where
      by : (o : Option ℕ) → access_refusal c 8 there ≡ o
          → lending_asked lent (asked_of c (Load 8 there)) ≢ ToRead
      by (Some code) is read =
          let none = sym (ap (λ r. lending_asked lent (word_unless r (there / c.page_size)
          (word_with 8 (there % c.page_size) act.Load))) is) ∙ read in absurd cc
      by None is read =
          first (ap (λ r. lending_asked lent (word_unless r page (word_with 8 (addr % c.page_size) act.Load)))
          (first_permitted is)
          ∙ (sym (ap (λ p. lending_asked lent (word_unless None p (word_with 8 (there % c.page_size) act.Load)))
          of_page)
          ∙ (sym (ap (λ r. lending_asked lent (word_unless r (there / c.page_size)
          (word_with 8 (there % c.page_size) act.Load))) is) ∙ read)))
