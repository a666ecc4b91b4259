-- Calls that are words of pages, by what they are to a node and by what they are of.
use Rattle.std.proofs.Common.{◌≡◌, ◌≢◌, ℕ, ◌≤◌, ◌*◌, ◌/◌, ◌%◌, Bool, true, false, Option, Some, None, Ok, Err, refl, sym, ap, ◌∙◌, arith, nat_lt, if◌then◌else◌}
use Rattle.ivy_model.specs.declared.Act.{Act}
use Rattle.ivy_model.specs.declared.Act.TheVariants as act
use Rattle.ivy_model.specs.declared.Call.{Call}
use Rattle.ivy_model.specs.declared.CallKind.{CallKind}
use Rattle.ivy_model.specs.declared.CallKind.TheVariants as kind
use Rattle.ivy_model.specs.declared.Config.{Config}
use Rattle.ivy_model.specs.declared.Fault.TheVariants.{NoSuchCount}
use Rattle.ivy_model.specs.stated.Accesses.{kind_of_call}
use Rattle.ivy_model.specs.stated.Config.{count_len}
use Rattle.ivy_model.specs.stated.Serves.{access_refusal}
use Rattle.ivy_pagetable.specs.declared.Word.{Word}
use Rattle.ivy_pagetable.specs.declared.Word.TheVariants as word
use Rattle.ivy_pagetable.specs.stated.Words.{needs_write, word_with}
use Rattle.ivy_alloc.specs.declared.HeapCall.{HeapCall}
use Rattle.ivy_memory.specs.declared.Asked.TheVariants as asked
use Rattle.ivy_memory.specs.stated.Asking.{asked_of, asked_kind, word_unless, count_asked}
use Rattle.proof_lent.specs.Lent.{IsWordOf}
pub use Rattle.proof_lent.proofs.Serving.{is_load}

pub writes_needs : (width offset : ℕ) (a : Act) → a ≢ act.Load
    → needs_write (word_with width offset a) ≡ true
writes_needs width offset act.Load other = absurd (other refl)
writes_needs width offset (act.Store value) other = refl
writes_needs width offset (act.Swap value) other = refl
writes_needs width offset (act.Cas expected value) other = refl
writes_needs width offset (act.FetchAdd value) other = refl

pub refused_apart : (code p : ℕ) (w : Word) → asked.Refused code ≡ asked.Word p w → ⊥
refused_apart code p w e = cc

pub heap_apart : (k : HeapCall) (p : ℕ) (w : Word) → asked.Heap k ≡ asked.Word p w → ⊥
heap_apart k p w e = cc

-- the word that an access is, and that it writes where the access may
pub word_asked : (c : Config) (call : Call) (p : ℕ) (a : Act) → IsWordOf c call p a
    → (w : Word) × (asked_of c call ≡ asked.Word p w) × (a ≢ act.Load → needs_write w ≡ true)
word_asked c call p a of = (
  word_with of.width (of.addr % c.page_size) a,
  ap (asked_kind c) of.is
      ∙ ap (λ o. word_unless o (of.addr / c.page_size) (word_with of.width (of.addr % c.page_size) a))
      of.allowed
      ∙ ap (λ q. asked.Word q (word_with of.width (of.addr % c.page_size) a)) (sym of.there),
  writes_needs of.width (of.addr % c.page_size) a,
)

count_page : (b : Bool) (v : Word) (p : ℕ) (w : Word)
    → count_asked (if b then Ok v else Err NoSuchCount) ≡ asked.Word p w → 0 ≡ p
count_page true v p w e = cc
count_page false v p w e = absurd cc

-- and the access that a word of a page of the heap is
pub asked_word : (c : Config) (call : Call) (p : ℕ) (w : Word) → asked_of c call ≡ asked.Word p w
    → 1 ≤ p → (a : Act) × IsWordOf c call p a
asked_word c call p w is from = by_kind (kind_of_call call) refl is
  where
    none : {G : Type 0} → 0 ≡ p → G
    none e = absurd (omega (arith, e))

    word_at : (width addr : ℕ) (a : Act) (o : Option ℕ) → access_refusal c width addr ≡ o
        → kind_of_call call ≡ kind.Word width addr a
        → word_unless o (addr / c.page_size) (word_with width (addr % c.page_size) a) ≡ asked.Word p w
        → (b : Act) × IsWordOf c call p b
    word_at width addr a None allowed known e = (
      a,
      record {
        width = width;
        addr = addr;
        is = known;
        allowed = allowed;
        there = (let g : p ≡ addr / c.page_size = cc in g);
      },
    )
    word_at width addr a (Some code) refused known e = absurd (refused_apart code p w e)

    by_kind : (k : CallKind) → kind_of_call call ≡ k → asked_kind c k ≡ asked.Word p w
        → (a : Act) × IsWordOf c call p a
    by_kind (kind.Word width addr a) known e =
        word_at width addr a (access_refusal c width addr) refl known e
    by_kind (kind.Count k) known e =
        none (count_page (nat_lt k (count_len c)) (word.Count (8 * k)) p w e)
    by_kind (kind.Advance k) known e =
        none (count_page (nat_lt k (count_len c)) (word.Advance (8 * k)) p w e)
    by_kind (kind.Await k least) known e =
        none (count_page (nat_lt k (count_len c)) (word.Await (8 * k) least) p w e)
    by_kind (kind.Alloc size) known e = absurd cc
    by_kind (kind.Free addr) known e = absurd cc
