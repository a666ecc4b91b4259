-- A word carried out on the bytes of its page. Numbers stand with their highest byte first.
use Rattle.std.specs.Prelude.{◌≡◌, ℕ, ◌+◌, ◌-◌, ◌%◌, ◌^◌, ◌≤◌, Bool, true, false, List, Option, Some, None, drop, if◌then◌else◌, ◌==◌, nat_le}
use Rattle.byteorder.specs.Endian.{big_number, big_bytes}
use Rattle.ivy_model.specs.declared.Act.{Act}
use Rattle.ivy_model.specs.declared.Act.TheVariants as act
use Rattle.ivy_model.specs.stated.Accesses.{gives_number, next_number}
use Rattle.ivy_model.specs.stated.Legal.{IsWidth}
use Rattle.ivy_model.specs.stated.Serves.{overwrite}
use Rattle.ivy_pagetable.specs.declared.word.Word.{Word}
use Rattle.ivy_pagetable.specs.declared.word.Word.TheVariants.{Load, Store, Swap, Cas, FetchAdd, Count, Advance, Await}
use Rattle.ivy_pagetable.specs.declared.word.Outcome.{Outcome}
use Rattle.ivy_pagetable.specs.declared.word.Out.{Out}
use Rattle.ivy_pagetable.specs.declared.word.Out.TheVariants.{Value, Done, Full, NotYet}

-- how many bytes a word has, and where they begin in the page
abbrev pub width_of : Word → ℕ
width_of (Load width offset) = width
width_of (Store width offset value) = width
width_of (Swap width offset value) = width
width_of (Cas width offset expected value) = width
width_of (FetchAdd width offset value) = width
width_of (Count offset) = 8
width_of (Advance offset) = 8
width_of (Await offset least) = 8

abbrev pub offset_of : Word → ℕ
offset_of (Load width offset) = offset
offset_of (Store width offset value) = offset
offset_of (Swap width offset value) = offset
offset_of (Cas width offset expected value) = offset
offset_of (FetchAdd width offset value) = offset
offset_of (Count offset) = offset
offset_of (Advance offset) = offset
offset_of (Await offset least) = offset

-- the word of this width at this place, with which an access does this
abbrev pub word_with : ℕ → ℕ → Act → Word
word_with width offset act.Load = Load width offset
word_with width offset (act.Store value) = Store width offset value
word_with width offset (act.Swap value) = Swap width offset value
word_with width offset (act.Cas expected value) = Cas width offset expected value
word_with width offset (act.FetchAdd value) = FetchAdd width offset value

-- the word is aligned, and lies within a page of this size
pub record IsWord (page_size : ℕ) (word : Word) : Type 0 where
  pub width : IsWidth (width_of word)
  pub aligned : offset_of word % width_of word ≡ 0
  pub within : offset_of word + width_of word ≤ page_size

-- whether the word may change its page, so that a copy is not enough for it
abbrev pub needs_write : Word → Bool
needs_write (Load width offset) = false
needs_write (Store width offset value) = true
needs_write (Swap width offset value) = true
needs_write (Cas width offset expected value) = true
needs_write (FetchAdd width offset value) = true
needs_write (Count offset) = false
needs_write (Advance offset) = true
needs_write (Await offset least) = false

-- the number of this many bytes at a place
abbrev pub number_at : ℕ → ℕ → List ℕ → ℕ
number_at width offset bytes = big_number width (drop offset bytes)

-- what an access gives, and the number that it puts in its word, if it writes it, from the number
-- that stands there
abbrev pub access_outcome : ℕ → Act → ℕ → Outcome
access_outcome width a number =
    record {
      out = if gives_number a then Value number else Done;
      next = next_number width a number;
    }

-- an eventcount goes up by one, if it can
abbrev pub advanced : ℕ → Outcome
advanced count =
    if count == 2 ^ 64 - 1 then record { out = Full; next = None }
    else record { out = Done; next = Some (count + 1) }

-- the count, where it is high enough
abbrev pub awaited : ℕ → ℕ → Out
awaited count least = if nat_le least count then Value count else NotYet

-- what a word gives, and the number that it puts in its place, if it does, from the number that
-- stands there
abbrev pub outcome_of : Word → ℕ → Outcome
outcome_of (Load width offset) n = access_outcome width act.Load n
outcome_of (Store width offset value) n = access_outcome width (act.Store value) n
outcome_of (Swap width offset value) n = access_outcome width (act.Swap value) n
outcome_of (Cas width offset expected value) n = access_outcome width (act.Cas expected value) n
outcome_of (FetchAdd width offset value) n = access_outcome width (act.FetchAdd value) n
outcome_of (Count offset) n = record { out = Value n; next = None }
outcome_of (Advance offset) n = advanced n
outcome_of (Await offset least) n = record { out = awaited n least; next = None }

-- the bytes of a page with the low bytes of this number at a place, if there is one
abbrev pub with_number : ℕ → ℕ → Option ℕ → List ℕ → List ℕ
with_number width offset None bytes = bytes
with_number width offset (Some value) bytes = overwrite bytes offset (big_bytes width value)

-- what a word gives, and the bytes of its page then
pub record Carried : Type 0 where
  pub out : Out
  pub bytes : List ℕ

-- an outcome on the bytes of its page, of a word of this width at this place
abbrev pub carried : ℕ → ℕ → Outcome → List ℕ → Carried
carried width offset came bytes =
    record { out = came.out; bytes = with_number width offset came.next bytes }

-- the word carried out on the bytes of its page
abbrev pub carried_out : Word → List ℕ → Carried
carried_out word bytes =
    carried (width_of word) (offset_of word)
    (outcome_of word (number_at (width_of word) (offset_of word) bytes)) bytes

-- the word of a fetch, which asks for a page to read or to write: one of its kind that changes nothing
abbrev pub fetch_word : Bool → Word
fetch_word write = if write then FetchAdd 1 0 0 else Load 1 0
