-- A word that a call asks for can be asked for: its page is there, and it lies in the page.
use Rattle.std.proofs.Common.{◌≡◌, ℕ, ◌+◌, ◌*◌, ◌/◌, ◌%◌, ◌<◌, ◌≤◌, Bool, true, false, [], ◌∷◌, Option, Some, None, Ok, Err, nat_lt, refl, sym, ap, lit<, ◌∙◌, arith, if◌then◌else◌, ◌==◌}
use Rattle.std.proofs.lemmas.Bool.{eqb-true, ltb-true}
use Rattle.std.proofs.lemmas.List.Elements.{All-contains, All-from_recursion}
use Rattle.std.proofs.lemmas.Option.{none-some}
use Rattle.ivy_model.specs.declared.Config.{Config}
use Rattle.ivy_model.specs.declared.Call.{Call}
use Rattle.ivy_model.specs.declared.CallKind.{CallKind}
use Rattle.ivy_model.specs.declared.CallKind.TheVariants as kind
use Rattle.ivy_model.specs.declared.Fault.TheVariants.{NoSuchCount}
use Rattle.ivy_model.specs.stated.Accesses.{kind_of_call}
use Rattle.ivy_model.specs.stated.Config.{IsConfig, count_len}
use Rattle.ivy_model.specs.stated.Legal.{IsWidth, HasKindWidth, HasWidth}
use Rattle.ivy_model.specs.stated.Serves.{access_refusal}
use Rattle.ivy_model.proofs.Limits.{page_has_words}
use Rattle.ivy_model.proofs.Sizes.{access_placed}
use Rattle.ivy_model.proofs.PageWords.{IsPlaced}
use Rattle.ivy_pagetable.specs.declared.Word.{Word}
use Rattle.ivy_pagetable.specs.declared.Word.TheVariants as word
use Rattle.ivy_pagetable.specs.stated.Words.{IsWord, width_of, offset_of, word_with}
use Rattle.ivy_pagetable.proofs.Words.{width-word_with, offset-word_with}
use Rattle.ivy_memory.specs.Asking.{CanAsk}
use Rattle.ivy_memory.specs.stated.Asking.{asked_kind, asked_of, count_asked, word_unless}

offset_aligned : (width m o : ℕ) → IsWidth width → (8 * m + o) % width ≡ 0 → o % width ≡ 0
offset_aligned width m o h =
    All-contains (λ w. (8 * m + o) % w ≡ 0 → o % w ≡ 0) (1 ∷ 2 ∷ 4 ∷ 8 ∷ []) width
    (All-from_recursion (λ w. (8 * m + o) % w ≡ 0 → o % w ≡ 0) (1 ∷ 2 ∷ 4 ∷ 8 ∷ [])
    (λ e. omega arith, (λ e. omega arith, (λ e. omega arith, (λ e. omega arith, tt))))) h

aligned_of : (b : Bool) (o : Option ℕ) → (if b then o else Some 3) ≡ None → b ≡ true
aligned_of true o h = refl
aligned_of false o h = absurd (none-some 3 (sym h))

-- an access that is not refused is that of an aligned word of a page
pub access_word : (c : Config) (width addr : ℕ) → IsConfig c → IsWidth width
    → access_refusal c width addr ≡ None
    → (addr / c.page_size < c.pages) × (addr % c.page_size % width ≡ 0)
    × (addr % c.page_size + width ≤ c.page_size)
access_word c width addr config w none =
    let placed : IsPlaced c width addr = access_placed c width addr config w none in
    let s = page_has_words c.page_size config.page_size in
    let page : ℕ = addr / c.page_size in
    let offset : ℕ = addr % c.page_size in
    let words : page * c.page_size ≡ 8 * (page * (c.page_size / 8)) =
    ap (λ z. page * z) s.words ∙ grind arith in
    let aligned : addr % width ≡ 0 =
    eqb-true (addr % width) 0 (aligned_of (addr % width == 0) _ none) in
    let split : 8 * (page * (c.page_size / 8)) + offset ≡ addr =
    omega (arith, placed.split, words) in (
      placed.page_to,
      offset_aligned width (page * (c.page_size / 8)) offset w
          (ap (λ a. a % width) split ∙ aligned),
      placed.within,
    )

-- a count that is there is an aligned word of page 0
count_word : (c : Config) (k : ℕ) → IsConfig c → nat_lt k (count_len c) ≡ true
    → (0 < c.pages) × (8 * k % 8 ≡ 0) × (8 * k + 8 ≤ c.page_size)
count_word c k config there =
    let s = page_has_words c.page_size config.page_size in
    let below : k < count_len c = ltb-true k (count_len c) there in
    let words = s.words in
    let pages = config.pages_from in
    (omega (arith, pages), omega arith, omega (arith, below, words))

pub width_of_count : IsWidth 8
width_of_count = (3, lit< tt, refl)

unless : (c : Config) (o : Option ℕ) (page : ℕ) (w : Word)
    → (o ≡ None → (page < c.pages) × IsWord c.page_size w) → CanAsk c (word_unless o page w)
unless c None page w h = h refl
unless c (Some code) page w h = tt

there : (c : Config) (b : Bool) (w : Word) → (b ≡ true → (0 < c.pages) × IsWord c.page_size w)
    → CanAsk c (count_asked (if b then Ok w else Err NoSuchCount))
there c true w h = h refl
there c false w h = tt

counted : (c : Config) (k : ℕ) (w : Word) → IsConfig c → width_of w ≡ 8 → offset_of w ≡ 8 * k
    → CanAsk c (count_asked (if nat_lt k (count_len c) then Ok w else Err NoSuchCount))
counted c k w config eight at =
    there c (nat_lt k (count_len c)) w
    (λ below. (let placed = count_word c k config below in (
      placed.0,
      record {
        width = rw eight width_of_count;
        aligned = rw (eight, at) placed.1;
        within = rw (eight, at) placed.2;
      },
    )))

accessed : (c : Config) (width addr : ℕ) (w : Word) → IsConfig c → IsWidth width
    → width_of w ≡ width → offset_of w ≡ addr % c.page_size
    → CanAsk c (word_unless (access_refusal c width addr) (addr / c.page_size) w)
accessed c width addr w config legal wide at =
    unless c (access_refusal c width addr) (addr / c.page_size) w
    (λ none. (let there = access_word c width addr config legal none in (
      there.0,
      record {
        width = rw wide legal;
        aligned = rw (wide, at) there.1;
        within = rw (wide, at) there.2;
      },
    )))

can_ask_kind : (c : Config) (k : CallKind) → IsConfig c → HasKindWidth k → CanAsk c (asked_kind c k)
can_ask_kind c (kind.Word width addr act) config legal =
    accessed c width addr (word_with width (addr % c.page_size) act) config legal
    (width-word_with width (addr % c.page_size) act) (offset-word_with width (addr % c.page_size) act)
can_ask_kind c (kind.Count k) config legal = counted c k (word.Count (8 * k)) config refl refl
can_ask_kind c (kind.Advance k) config legal = counted c k (word.Advance (8 * k)) config refl refl
can_ask_kind c (kind.Await k least) config legal =
    counted c k (word.Await (8 * k) least) config refl refl
can_ask_kind c (kind.Alloc size) config legal = tt
can_ask_kind c (kind.Free addr) config legal = tt

pub can_ask : (c : Config) (k : Call) → IsConfig c → HasWidth k → CanAsk c (asked_of c k)
can_ask c k config legal = can_ask_kind c (kind_of_call k) config legal
