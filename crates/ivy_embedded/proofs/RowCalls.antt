-- The calls of a row are words of one page.
use Rattle.std.proofs.Common.{◌≡◌, ℕ, zero, suc, ◌+◌, ◌*◌, ◌%◌, ◌/◌, ◌<◌, ◌≤◌, List, [], ◌∷◌, length, slice_get, Option, Some, None, refl, sym, ap, ◌∙◌, subst, arith}
use Rattle.std.proofs.lemmas.Option.{none-some, same_Some, slice_get_past}
use Rattle.ivy_model.specs.declared.Call.{Call}
use Rattle.ivy_model.specs.declared.Config.{Config}
use Rattle.ivy_model.specs.declared.Row.{Row}
use Rattle.ivy_model.specs.stated.Config.{IsConfig}
use Rattle.ivy_model.specs.stated.Serves.{access_refusal}
use Rattle.ivy_model.specs.Rows.{calls_of, record_in, row}
use Rattle.ivy_pagetable.specs.declared.Word.{Word}
use Rattle.ivy_memory.specs.declared.memory.Asked.TheVariants as asked
use Rattle.ivy_memory.specs.stated.Asking.{asked_of}
use Rattle.ivy_memory.specs.AtOnce.{IsRowAt}
use Rattle.ivy_memory.proofs.batches.AtOnce.{asks, row_begins}

-- a word of the page
abbrev pub IsWordOf : Config → ℕ → Call → Type 0
IsWordOf c page call = (w : Word) × (asked_of c call ≡ asked.Word page w)

module _ (c : Config) (config : IsConfig c) (kind : Row) (page : ℕ) (from : 1 ≤ page)
    (to : page < c.pages) where
  each_word : (numbers : List ℕ) (offset : ℕ) → offset % 8 ≡ 0
      → offset + 8 * length numbers ≤ c.page_size → (k : ℕ) (call : Call)
      → slice_get (calls_of (row kind 0 (page * c.page_size + offset) numbers)) k ≡ Some call
      → IsWordOf c page call
  each_word [] offset aligned fits k call is =
      absurd (none-some call (sym (slice_get_past List.[] k (omega arith)) ∙ is))
  each_word (number ∷ more) offset aligned fits zero call is = (
    _,
    ap (asked_of c)
        (sym (same_Some (record_in kind 0 (page * c.page_size + offset) number).call call is))
        ∙ asks c config page offset from to aligned (omega (arith, fits)) kind 0 number,
  )
  each_word (number ∷ more) offset aligned fits (suc k) call is =
      let on : page * c.page_size + (offset + 8) ≡ page * c.page_size + offset + 8 = omega arith in
      each_word more (offset + 8) (omega (arith, aligned)) (omega (arith, fits)) k call
      (subst (λ a. slice_get (calls_of (row kind 0 a more)) k ≡ Some call) (sym on) is)

-- the calls of a row that lies in the page of its address
pub row_words : (c : Config) → IsConfig c → (kind : Row) (addr : ℕ) (numbers : List ℕ)
    → access_refusal c 8 addr ≡ None
    → addr % c.page_size + 8 * length numbers ≤ c.page_size → (k : ℕ) (call : Call)
    → slice_get (calls_of (row kind 0 addr numbers)) k ≡ Some call
    → IsWordOf c (addr / c.page_size) call
row_words c config kind addr numbers permitted fits k call is =
    let place : IsRowAt c addr (record { page = addr / c.page_size; offset = addr % c.page_size }) =
    record { permitted = permitted; page = refl; offset = refl } in
    let found = row_begins c addr _ config place in
    each_word c config kind (addr / c.page_size) found.from found.to numbers (addr % c.page_size)
    found.aligned fits k call
    (subst (λ a. slice_get (calls_of (row kind 0 a numbers)) k ≡ Some call) found.split is)
