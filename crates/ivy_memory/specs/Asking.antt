-- What a call is to the memory of a node: refused at once, a word of a page, or a call of the heap.
use Rattle.std.specs.Prelude.{◌≡◌, ◌⊎◌, ◌<◌, List}
use Rattle.ivy_model.specs.declared.Config.{Config}
use Rattle.ivy_model.specs.declared.Call.{Call}
use Rattle.ivy_model.specs.declared.Fault.{Fault}
use Rattle.ivy_model.specs.declared.Fault.TheVariants.{Memory}
use Rattle.ivy_model.specs.stated.Limits.{most_pages}
use Rattle.ivy_wire.specs.stated.Data.{Parcel}
use Rattle.ivy_pagetable.specs.stated.Words.{IsWord}
use Rattle.ivy_coherence.specs.stated.Coherent.{Coherent}
use Rattle.ivy_coherence.specs.PageFaults.{HasToAsk, MayMakePage}
use Rattle.ivy_memory.specs.declared.memory.Asked.{Asked}
use Rattle.ivy_memory.specs.declared.memory.Asked.TheVariants as asked
use Rattle.ivy_alloc.specs.declared.CallProgress.{CallProgress}
use Rattle.ivy_alloc.specs.declared.CallProgress.TheVariants.{Awaited}
use Rattle.ivy_alloc.specs.HeapCalls.{IsAddress, IsAddressPosted}
use Rattle.ivy_memory.specs.stated.Asking.{asked_of}

-- other nodes have to be asked: it is a word of a page, and not at hand
abbrev pub HasToAskFor : {S : Type 0} → Coherent S → Asked → Type 0
HasToAskFor c (asked.Refused code) = ⊥
HasToAskFor c (asked.Word page w) = HasToAsk c page w
HasToAskFor c (asked.Heap k) = ⊥

-- it is a call of the heap
abbrev pub IsOfHeap : Asked → Type 0
IsOfHeap (asked.Refused code) = ⊥
IsOfHeap (asked.Word page w) = ⊥
IsOfHeap (asked.Heap k) = Unit {0}

-- a call of the heap, so answered, that may be refused by a fault: it gives a block, or node 0 has
-- to be asked
abbrev pub MayBeRefused : Asked → CallProgress → Type 0
MayBeRefused a answer = IsOfHeap a × (IsAddress answer ⊎ (answer ≡ Awaited))

abbrev pub CallHasToAsk : {S : Type 0} → Coherent S → Call → Type 0
CallHasToAsk c call = HasToAskFor c (asked_of c.config call)

-- it is a word that may be the first that is written to its page, of many
abbrev pub MayMakePageFor : {S : Type 0} → Coherent S → Asked → Type 0
MayMakePageFor c (asked.Refused code) = ⊥
MayMakePageFor c (asked.Word page w) = MayMakePage c page w
MayMakePageFor c (asked.Heap k) = ⊥

abbrev pub CallMayMakePage : {S : Type 0} → Coherent S → Call → Type 0
CallMayMakePage c call = MayMakePageFor c (asked_of c.config call)

-- pages are made one by one: there are more than a narrow configuration has
abbrev pub MakesPages : {S : Type 0} → Coherent S → Type 0
MakesPages c = most_pages < c.config.pages

-- want of memory, as a call so answered may meet it: the heap gives a block, or a page is made
abbrev pub IsCallWant : {S : Type 0} → Coherent S → Asked → CallProgress → Fault → Type 0
IsCallWant c a answer fault = ((IsOfHeap a × IsAddress answer) ⊎ MakesPages c) × (fault ≡ Memory)

-- and as a message may, that has these posted
abbrev pub IsMessageWant : {S : Type 0} → Coherent S → List Parcel → Fault → Type 0
IsMessageWant c posted fault = (IsAddressPosted posted ⊎ MakesPages c) × (fault ≡ Memory)

-- a word can be asked for: the page is there, and the word lies in it
abbrev pub CanAsk : Config → Asked → Type 0
CanAsk c (asked.Refused code) = Unit {0}
CanAsk c (asked.Word page w) = (page < c.pages) × IsWord c.page_size w
CanAsk c (asked.Heap k) = Unit {0}
