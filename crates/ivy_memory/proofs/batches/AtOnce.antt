-- A row of words that hit is a row of calls that are answered as they begin.
use Rattle.std.proofs.Common.{◌≡◌, ℕ, ◌+◌, ◌*◌, ◌/◌, ◌%◌, ◌<◌, ◌≤◌, Bool, true, false, List, [], ◌∷◌}
use Rattle.std.proofs.Common.{length, Option, Some, None, refl, sym, ap, ◌∙◌, subst, arith}
use Rattle.std.proofs.Common.{cond, ◌==◌, nat_lt}
use Rattle.std.proofs.lemmas.Bool.{eq-eqb, lt-ltb, le-ltb}
use Rattle.std.proofs.lemmas.Nat.{div-mul-add, mod-mul-add, mul-le}
use Rattle.ivy_model.specs.declared.Config.{Config}
use Rattle.ivy_model.specs.declared.Row.{Row}
use Rattle.ivy_model.specs.declared.Row.TheVariants.{Loads, Stores}
use Rattle.ivy_model.specs.stated.Config.{IsConfig, heap_end}
use Rattle.ivy_model.specs.Rows.{record_in, row, numbers_in}
use Rattle.ivy_model.specs.stated.Serves.{access_refusal}
use Rattle.ivy_model.proofs.Limits.{page_has_words}
use Rattle.ivy_model.proofs.Rows.{length-numbers_in}
use Rattle.ivy_model.proofs.Sizes.{access_placed}
use Rattle.ivy_model.proofs.PageWords.{IsPlaced}
use Rattle.ivy_pagetable.specs.declared.Word.{Word}
use Rattle.ivy_pagetable.specs.declared.Word.TheVariants as word
use Rattle.ivy_pagetable.specs.stated.Manager.{Ops}
use Rattle.ivy_pagetable.specs.WordRows.{word_in, out_in}
use Rattle.ivy_coherence.specs.declared.Need.TheVariants as need
use Rattle.ivy_coherence.specs.stated.Coherent.{Coherent}
use Rattle.ivy_coherence.specs.stated.PageFaults.{Begun, begun}
use Rattle.ivy_coherence.specs.Hits.{AreHits}
use Rattle.ivy_coherence.proofs.keeping.Same.{begun-same}
use Rattle.ivy_alloc.specs.stated.HeapCalls.{HeapSide}
use Rattle.ivy_alloc.specs.declared.CallProgress.TheVariants.{Given}
use Rattle.ivy_memory.specs.declared.memory.Asked.TheVariants as asked
use Rattle.ivy_memory.specs.declared.memory.RowPlace.{RowPlace}
use Rattle.ivy_memory.specs.stated.Asking.{asked_of, word_unless}
use Rattle.ivy_memory.specs.AtOnce.{AnswerAtOnce, IsRowAt}
use Rattle.ivy_memory.specs.stated.Beside.{nothing_beside}
use Rattle.ivy_memory.specs.stated.Memories.{NodeMemory, begun_as, call_begun, needed}
use Rattle.ivy_memory.specs.stated.Sound.{IsSoundMemory}
use Rattle.ivy_memory.proofs.serving.Asking.{access_word, width_of_count}

refused_none : (aligned below reserved : Bool) → aligned ≡ true → below ≡ true → reserved ≡ false
    → cond {A = Option ℕ} aligned (cond below (cond reserved (Some 5) None) (Some 4)) (Some 3)
    ≡ None
refused_none true true false a b r = refl
refused_none true true true a b r = absurd cc
refused_none true false reserved a b r = absurd cc
refused_none false below reserved a b r = absurd cc

-- an aligned word of a page of the heap is not refused
module _ (c : Config) (config : IsConfig c) (page offset : ℕ) (from : 1 ≤ page)
    (to : page < c.pages) (aligned : offset % 8 ≡ 0) (within : offset + 8 ≤ c.page_size) where
  abbrev there : ℕ
  there = page * c.page_size + offset

  pub permitted : access_refusal c 8 there ≡ None
  permitted =
      let s = page_has_words c.page_size config.page_size in
      let whole : page * c.page_size ≡ 8 * (page * (c.page_size / 8)) =
      ap (λ z. page * z) s.words ∙ grind arith in
      let start : there % 8 ≡ 0 = omega (arith, aligned, whole) in
      let least : 1 * c.page_size ≤ page * c.page_size =
      mul-le 1 c.page_size page c.page_size from (omega arith) in
      let most : page * c.page_size + c.page_size ≤ c.pages * c.page_size = grind (arith) in
      refused_none (there % 8 == 0) (nat_lt there (heap_end c)) (nat_lt there c.page_size)
      (eq-eqb (there % 8) 0 start) (lt-ltb there (heap_end c) (omega (arith, most, within)))
      (le-ltb there c.page_size (omega (arith, least)))

  -- the call for it is the word of that page
  placed_as : (w : ℕ → Word)
      → word_unless (access_refusal c 8 there) (there / c.page_size) (w (there % c.page_size))
      ≡ asked.Word page (w offset)
  placed_as w =
      let inside : offset < c.page_size = omega (arith, within) in
      let page_is : there / c.page_size ≡ page = div-mul-add page c.page_size offset inside in
      let rest : there % c.page_size ≡ offset = mod-mul-add page c.page_size offset inside in
      ap (λ o. word_unless o (there / c.page_size) (w (there % c.page_size))) permitted
      ∙ (λ j. asked.Word (page_is j) (w (rest j)))

  pub asks : (kind : Row) (node number : ℕ)
      → asked_of c (record_in kind node there number).call
      ≡ asked.Word page (word_in kind offset number)
  asks Loads node number = placed_as (λ o. word.Load 8 o)
  asks Stores node number = placed_as (λ o. word.Store 8 o number)

module _ {S : Type 0} (ops : Ops S) where
  -- a memory without a call in progress
  abbrev pub idle_memory : Coherent S → ℕ → HeapSide → NodeMemory S
  idle_memory c number side =
      record { coherence = c; asked = None; along = []; number = number; side = side }

  -- the word is carried out at once
  abbrev had : Row → ℕ → Coherent S → Begun S
  had kind number mid =
      record { need = need.Have (out_in kind number); after = mid; posted = [] }

  given : (kind : Row) (node addr number call k : ℕ) (old mid : Coherent S) (side : HeapSide)
      → needed (idle_memory old k side) (record_in kind node addr number).call nothing_beside call
      (had kind number mid) (need.Have (out_in kind number))
      ≡ record {
        answer = Given (record_in kind node addr number).reply;
        after = idle_memory mid k side;
        posted = [];
      }
  given Loads node addr number call k old mid side = refl
  given Stores node addr number call k old mid side = refl

  answered_once : (kind : Row) (node addr page offset number call k : ℕ) (old mid : Coherent S)
      (side : HeapSide)
      → asked_of old.config (record_in kind node addr number).call
      ≡ asked.Word page (word_in kind offset number)
      → begun ops old page (word_in kind offset number) call ≡ had kind number mid
      → call_begun ops (idle_memory old k side) (record_in kind node addr number).call [] call
      ≡ record {
        answer = Given (record_in kind node addr number).reply;
        after = idle_memory mid k side;
        posted = [];
      }
  unfolding call_begun
  answered_once kind node addr page offset number call k old mid side is hit =
      let m : NodeMemory S = idle_memory old k side in
      ap (begun_as ops m (record_in kind node addr number).call [] call) is
      ∙ ap (λ (b : Begun S). needed m (record_in kind node addr number).call nothing_beside call b
      b.need) hit
      ∙ given kind node addr number call k old mid side

  module _ (c : Config) (config : IsConfig c) (kind : Row) (node page : ℕ) (from : 1 ≤ page)
      (to : page < c.pages) where
    pub answered_row : (numbers : List ℕ) (offset : ℕ) (old new : Coherent S) (k : ℕ)
        (side : HeapSide) → old.config ≡ c → offset % 8 ≡ 0
        → offset + 8 * length numbers ≤ c.page_size
        → AreHits ops kind page offset numbers old new
        → AnswerAtOnce ops (row kind node (page * c.page_size + offset) numbers)
        (idle_memory old k side) (idle_memory new k side)
    answered_row [] offset old new k side is aligned fits same =
        ap (λ x. idle_memory x k side) same
    answered_row (number ∷ more) offset old new k side is aligned fits h =
        let addr : ℕ = page * c.page_size + offset in
        let mid : Coherent S = h.0 in
        let stays : mid.config ≡ c =
        sym (ap (λ (b : Begun S). b.after.config) (h.1 0))
        ∙ (begun-same ops old page (word_in kind offset number) 0).config ∙ is in
        let here : asked_of old.config (record_in kind node addr number).call
        ≡ asked.Word page (word_in kind offset number) =
        ap (λ x. asked_of x (record_in kind node addr number).call) is
        ∙ asks c config page offset from to aligned (omega (arith, fits)) kind node number in
        let on : page * c.page_size + (offset + 8) ≡ addr + 8 = omega arith in
        let rest : AnswerAtOnce ops (row kind node (page * c.page_size + (offset + 8)) more)
        (idle_memory mid k side) (idle_memory new k side) =
        answered_row more (offset + 8) mid new k side stays (omega (arith, aligned))
        (omega (arith, fits)) h.2 in (
          idle_memory mid k side,
          λ call. answered_once kind node addr page offset number call k old mid side here (h.1 call),
          refl,
          subst (λ a. AnswerAtOnce ops (row kind node a more) (idle_memory mid k side)
              (idle_memory new k side)) on rest,
        )

-- where a row that the code found begins
pub record Begins (c : Config) (addr : ℕ) (at : RowPlace) : Type 0 where
  pub from : 1 ≤ at.page
  pub to : at.page < c.pages
  pub aligned : at.offset % 8 ≡ 0
  pub within : at.offset ≤ c.page_size
  pub split : addr ≡ at.page * c.page_size + at.offset

pub row_begins : (c : Config) (addr : ℕ) (at : RowPlace) → IsConfig c → IsRowAt c addr at
    → Begins c addr at
row_begins c addr at config is =
    let placed : IsPlaced c 8 addr =
    access_placed c 8 addr config width_of_count is.permitted in
    let there = access_word c 8 addr config width_of_count is.permitted in
    record {
      from = subst (λ p. 1 ≤ p) (sym is.page) placed.page_from;
      to = subst (λ p. p < c.pages) (sym is.page) placed.page_to;
      aligned = subst (λ o. o % 8 ≡ 0) (sym is.offset) there.1;
      within = subst (λ o. o ≤ c.page_size) (sym is.offset) (omega (arith, there.2));
      split =
          placed.split ∙ ap (λ p. p * c.page_size + addr % c.page_size) (sym is.page)
          ∙ ap (λ o. at.page * c.page_size + o) (sym is.offset);
    }

-- The same for a value whose fields the code works on: `v` is what the fields are seen as, `n` the
-- value, without a call in progress.
module _ {S : Type 0} {ops : Ops S} (n v : NodeMemory S) (same : v ≡ n) (s : IsSoundMemory ops v)
    (idle : n.asked ≡ None) (addr : ℕ) (at : RowPlace)
    (there : IsRowAt n.coherence.config addr at) where
  pub found : Begins v.coherence.config addr at
  found =
      row_begins v.coherence.config addr at s.coherent.limits
      (subst (λ (m : NodeMemory S). IsRowAt m.coherence.config addr at) (sym same) there)

  resting : v.asked ≡ None
  resting = ap (λ (m : NodeMemory S). m.asked) same ∙ idle

  -- the memory with this coherence
  abbrev after : Coherent S → NodeMemory S
  after new =
      record {
        coherence = new;
        asked = v.asked;
        along = v.along;
        number = v.number;
        side = v.side;
      }

  after_is : (new : Coherent S) → after new ≡ idle_memory ops new v.number v.side
  after_is new =
      ap (λ a. record (after new) { asked = a }) resting
      ∙ ap (λ calls. record (idle_memory ops new v.number v.side) { along = calls })
      (s.alone resting)

  pub row_answered : (kind : Row) (new : Coherent S) (numbers : List ℕ) (node : ℕ)
      → at.offset + 8 * length numbers ≤ v.coherence.config.page_size
      → AreHits ops kind at.page at.offset numbers v.coherence new
      → AnswerAtOnce ops (row kind node addr numbers) n (after new)
  row_answered kind new numbers node fits h =
      let b : Begins v.coherence.config addr at = found in
      subst (λ a. AnswerAtOnce ops (row kind node a numbers) n (after new)) (sym b.split)
      (subst (λ m. AnswerAtOnce ops
      (row kind node (at.page * v.coherence.config.page_size + at.offset) numbers) m (after new))
      (sym (after_is v.coherence) ∙ same)
      (subst (λ m. AnswerAtOnce ops
      (row kind node (at.page * v.coherence.config.page_size + at.offset) numbers)
      (idle_memory ops v.coherence v.number v.side) m)
      (sym (after_is new))
      (answered_row ops v.coherence.config s.coherent.limits kind node at.page b.from b.to numbers
      at.offset v.coherence new v.number v.side refl b.aligned fits h)))

  -- of so many words
  pub words_answered : (kind : Row) (new : Coherent S) (words : ℕ) (bytes : List ℕ)
      → at.offset + 8 * words ≤ v.coherence.config.page_size
      → AreHits ops kind at.page at.offset (numbers_in words bytes) v.coherence new
      → (node : ℕ) → AnswerAtOnce ops (row kind node addr (numbers_in words bytes)) n (after new)
  words_answered kind new words bytes fits h node =
      let many = length-numbers_in words bytes in
      row_answered kind new (numbers_in words bytes) node (omega (arith, fits, many)) h

  -- loads leave the memory as it is
  pub loads_answered : (words : ℕ) (bytes : List ℕ)
      → at.offset + 8 * words ≤ v.coherence.config.page_size
      → AreHits ops Loads at.page at.offset (numbers_in words bytes) v.coherence v.coherence
      → (node : ℕ) → AnswerAtOnce ops (row Loads node addr (numbers_in words bytes)) n n
  loads_answered words bytes fits h node =
      subst (AnswerAtOnce ops (row Loads node addr (numbers_in words bytes)) n) same
      (words_answered Loads v.coherence words bytes fits h node)
