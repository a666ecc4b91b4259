-- What a call is to the memory of a node: refused at once, a word of a page, or a call of the heap.
use Rattle.std.specs.Prelude.{ℕ, ◌/◌, ◌%◌, Option, Some, None, Result, Ok, Err}
use Rattle.ivy_model.specs.declared.Config.{Config}
use Rattle.ivy_model.specs.declared.Call.{Call}
use Rattle.ivy_model.specs.declared.CallKind.{CallKind}
use Rattle.ivy_model.specs.declared.CallKind.TheVariants as kind
use Rattle.ivy_model.specs.declared.Fault.{Fault}
use Rattle.ivy_model.specs.stated.Accesses.{kind_of_call}
use Rattle.ivy_model.specs.stated.Numbers.{fault_number}
use Rattle.ivy_model.specs.stated.Serves.{access_refusal}
use Rattle.ivy_event.specs.stated.Counts.{word_of_count}
use Rattle.ivy_pagetable.specs.declared.Word.{Word}
use Rattle.ivy_pagetable.specs.declared.Word.TheVariants as word
use Rattle.ivy_pagetable.specs.stated.Words.{word_with}
use Rattle.ivy_memory.specs.declared.memory.Asked.{Asked}
use Rattle.ivy_memory.specs.declared.memory.Asked.TheVariants as asked
use Rattle.ivy_alloc.specs.declared.HeapCall.TheVariants as heap

-- the word of a page, unless it is refused
abbrev pub word_unless : Option ℕ → ℕ → Word → Asked
word_unless (Some code) page w = asked.Refused code
word_unless None page w = asked.Word page w

-- a count is a word of page 0, and is refused where there is no such count
abbrev pub count_asked : Result Word Fault → Asked
count_asked (Ok w) = asked.Word 0 w
count_asked (Err fault) = asked.Refused (fault_number fault)

-- a call of this kind: an access is the word at its place in its page
abbrev pub asked_kind : Config → CallKind → Asked
asked_kind c (kind.Word width addr act) =
    word_unless (access_refusal c width addr) (addr / c.page_size)
    (word_with width (addr % c.page_size) act)
asked_kind c (kind.Count k) = count_asked (word_of_count c k word.Count)
asked_kind c (kind.Advance k) = count_asked (word_of_count c k word.Advance)
asked_kind c (kind.Await k least) = count_asked (word_of_count c k (λ offset. word.Await offset least))
asked_kind c (kind.Alloc size) = asked.Heap (heap.Alloc size)
asked_kind c (kind.Free addr) = asked.Heap (heap.Free addr)

abbrev pub asked_of : Config → Call → Asked
asked_of c call = asked_kind c (kind_of_call call)
