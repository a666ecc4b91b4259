-- Calls that are made along with one, as far as their words can be carried out with its word.
use Rattle.std.specs.Prelude.{ℕ, ◌+◌, ◌^◌, nat_lt, Bool, true, false, not, ◌&&◌, ◌||◌, ◌==◌, List, [], ◌∷◌, length, Option, Some, None, if◌then◌else◌}
use Rattle.ivy_model.specs.declared.Config.{Config}
use Rattle.ivy_model.specs.declared.Call.{Call}
use Rattle.ivy_pagetable.specs.declared.Word.{Word}
use Rattle.ivy_pagetable.specs.declared.Word.TheVariants as word
use Rattle.ivy_pagetable.specs.stated.Words.{needs_write}
use Rattle.ivy_memory.specs.declared.memory.Asked.{Asked}
use Rattle.ivy_memory.specs.declared.memory.Asked.TheVariants as asked
use Rattle.ivy_memory.specs.stated.Asking.{asked_of}

-- some of the calls, in order, and the word of each
pub record Beside : Type 0 where
  pub calls : List Call
  pub words : List Word

abbrev pub nothing_beside : Beside
nothing_beside = record { calls = []; words = [] }

-- a word has its reply as soon as it is carried out: only one that awaits a count may have none yet
abbrev pub gives_reply : Word → Bool
gives_reply (word.Await offset least) = false
gives_reply _ = true

-- a word of this page goes along with the first one: it has its reply then, and it does not need to
-- write where the first one only reads
abbrev pub goes_along : ℕ → Word → ℕ → Word → Bool
goes_along page first p w = (p == page) && gives_reply w && (needs_write first || not (needs_write w))

abbrev pub word_along : ℕ → Word → Asked → Option Word
word_along page first (asked.Refused code) = None
word_along page first (asked.Word p w) = if goes_along page first p w then Some w else None
word_along page first (asked.Heap k) = None

-- with this call before the others, if its word goes along
abbrev pub beside_with : Call → Option Word → Beside → Beside
beside_with call None more = nothing_beside
beside_with call (Some w) more = record { calls = call ∷ more.calls; words = w ∷ more.words }

-- of these calls those up to the first whose word does not go along with this one of the page
abbrev pub all_beside : Config → ℕ → Word → List Call → Beside
all_beside c page first [] = nothing_beside
all_beside c page first (call ∷ calls) =
    beside_with call (word_along page first (asked_of c call)) (all_beside c page first calls)

-- none, where the first word may have no reply yet, or there are not numbers for so many calls from
-- this one on
abbrev pub beside : Config → ℕ → Word → List Call → ℕ → Beside
beside c page first [] number = nothing_beside
beside c page first calls number =
    if gives_reply first && nat_lt (number + length calls) (2 ^ 64)
    then all_beside c page first calls else nothing_beside
