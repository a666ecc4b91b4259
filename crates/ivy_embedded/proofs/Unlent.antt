-- A call whose number is no address in a page that is lent may be made.
use Rattle.std.proofs.Common.{◌≡◌, ◌<◌, ℕ, ◌/◌, ◌^◌, true, List, length, Option, Some, None, refl, sym, ap, subst, ◌∙◌}
use Rattle.std.specs.Prelude.{Result, Ok, Err}
use Rattle.std.specs.Int.Count.{count_trailing_zeros}
use Rattle.ivy_model.specs.declared.Call.{Call}
use Rattle.ivy_model.specs.declared.Call.TheVariants.{Load, Store, Swap, Cas, FetchAdd, Count, Advance, Await, Alloc, Free}
use Rattle.ivy_model.specs.declared.Config.{Config}
use Rattle.ivy_model.specs.declared.Fault.{Fault}
use Rattle.ivy_model.specs.stated.Config.{IsConfig}
use Rattle.ivy_model.specs.stated.Serves.{access_refusal}
use Rattle.ivy_event.specs.stated.Counts.{word_of_count}
use Rattle.ivy_pagetable.specs.declared.Word.{Word}
use Rattle.ivy_pagetable.specs.declared.Word.TheVariants as word
use Rattle.ivy_model.specs.stated.Legal.{HasWidth}
use Rattle.ivy_memory.specs.Asking.{CanAsk}
use Rattle.ivy_memory.specs.declared.memory.Asked.TheVariants as asked
use Rattle.ivy_memory.specs.stated.Asking.{asked_of, count_asked, word_unless}
use Rattle.ivy_memory.proofs.serving.Asking.{can_ask}
use Rattle.ivy_memory.proofs.serving.Placing as placing
use Rattle.ivy_embedded.specs.declared.lending.Lending.{Lending}
use Rattle.ivy_embedded.specs.declared.lending.Lending.TheVariants.{Unlent}
use Rattle.ivy_embedded.specs.Calls.{IsLender}
use Rattle.ivy_embedded.specs.Exports.{IsRequest, MayBegin}
use Rattle.ivy_embedded.specs.Lending.{lending_at, lending_in, may_ask, permits}
use Rattle.ivy_embedded.specs.Nodes.{Embedded}
use Rattle.ivy_site.specs.SiteView.{SiteView}

-- the page of an address
pub page_by_shift : (c : Config) (addr : ℕ) → IsConfig c
    → addr / 2 ^ count_trailing_zeros 32 c.page_size ≡ addr / c.page_size
page_by_shift c addr limits = placing.page_by_shift c.page_size addr limits.page_size

module _ (c : Config) (lent : List Lending) where
  by_word : (refusal : Option ℕ) (page : ℕ) (w : Word) → lending_in lent page ≡ Unlent
      → may_ask lent (word_unless refusal page w) ≡ true
  by_word (Some code) page w unlent = refl
  by_word None page w unlent = ap (λ l. permits l w) unlent

  by_count : (r : Result Word Fault) → lending_in lent 0 ≡ Unlent
      → may_ask lent (count_asked r) ≡ true
  by_count (Ok w) unlent = ap (λ l. permits l w) unlent
  by_count (Err fault) unlent = refl

  by_place : (place addr : ℕ) → addr ≡ place → lending_in lent (place / c.page_size) ≡ Unlent
      → lending_in lent (addr / c.page_size) ≡ Unlent
  by_place place addr is unlent = ap (λ a. lending_in lent (a / c.page_size)) is ∙ unlent

  by_request : (place : ℕ) → lending_in lent 0 ≡ Unlent
      → lending_in lent (place / c.page_size) ≡ Unlent
      → (kind width operand expected : ℕ) (call : Call)
      → IsRequest kind width place operand expected call → may_ask lent (asked_of c call) ≡ true
  by_request place first unlent kind width operand expected (Load w addr) is =
      by_word (access_refusal c w addr) _ _ (by_place place addr is.2 unlent)
  by_request place first unlent kind width operand expected (Store w addr value) is =
      by_word (access_refusal c w addr) _ _ (by_place place addr is.2 unlent)
  by_request place first unlent kind width operand expected (Swap w addr value) is =
      by_word (access_refusal c w addr) _ _ (by_place place addr is.2 unlent)
  by_request place first unlent kind width operand expected (Cas w addr old value) is =
      by_word (access_refusal c w addr) _ _ (by_place place addr is.2 unlent)
  by_request place first unlent kind width operand expected (FetchAdd w addr value) is =
      by_word (access_refusal c w addr) _ _ (by_place place addr is.2 unlent)
  by_request place first unlent kind width operand expected (Count k) is =
      by_count (word_of_count c k word.Count) first
  by_request place first unlent kind width operand expected (Advance k) is =
      by_count (word_of_count c k word.Advance) first
  by_request place first unlent kind width operand expected (Await k least) is =
      by_count (word_of_count c k (λ offset. word.Await offset least)) first
  by_request place first unlent kind width operand expected (Alloc size) is = refl
  by_request place first unlent kind width operand expected (Free addr) is = refl

-- the page of the address is not lent
pub begins : (e : Embedded) (place page : ℕ) → IsLender e.site e.lent page
    → lending_at e (place / e.site.config.page_size) ≡ Unlent → MayBegin place e
begins e place page l unlent = by_request e.site.config e.lent place l.first unlent

-- the page of a word that is asked for has its mark
pub has_mark : (s : SiteView) (lent : List Lending) (at : ℕ) (c : Config) (call : Call) (page : ℕ)
    (w : Word) → IsLender s lent at → c ≡ s.config → IsConfig c → HasWidth call
    → asked_of c call ≡ asked.Word page w → page < length lent
has_mark s lent at c call page w l same config width is =
    let asks : CanAsk c (asked.Word page w) =
    subst (CanAsk c) is (can_ask c call config width) in
    subst (λ n. page < n) (ap (λ (k : Config). k.pages) same ∙ sym l.each) asks.0
