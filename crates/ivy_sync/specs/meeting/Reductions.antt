-- A reduction: each node stores a number in a word of its own, and after a barrier finds those of
-- all.
use Rattle.std.specs.Prelude.{◌≡◌, ℕ, ◌+◌, ◌*◌, ◌%◌, ◌^◌, ◌<◌, List, [], ◌∷◌, ◌++◌}
use Rattle.std.specs.Prelude.{length, slice_get, Some}
use Rattle.ivy_model.specs.declared.config.Config.{Config}
use Rattle.ivy_model.specs.declared.call.Record.{Record}
use Rattle.ivy_model.specs.stated.Memory.{Memory}
use Rattle.ivy_calls.specs.declared.answer.Answer.{Answer}
use Rattle.ivy_calls.specs.Answers.{answers_of}
use Rattle.ivy_sync.specs.meeting.Counts.{NoAdvance}
use Rattle.ivy_sync.specs.Doing.{arrives, passes, loads, stores}
use Rattle.ivy_sync.specs.HeapWords.{IsHeapWord, NoWrite, LeadsThrough}

-- these numbers were found in the words from the n-th on
abbrev pub finds : ℕ → ℕ → List ℕ → List Answer
finds at n [] = []
finds at n (v ∷ vs) = loads (at + 8 * n) v ∷ finds at (n + 1) vs

-- node i stored its number, waited for the others, and found these
abbrev pub gathered : ℕ → ℕ → ℕ → ℕ → ℕ → ℕ → List ℕ → List Answer → List Answer
gathered at k least value i found values old =
    ((old ++ stores (at + 8 * i) value ∷ []) ++ arrives k ∷ [])
    ++ (passes k least found ∷ finds at 0 values)

pub record Gathers (at k least nodes value i : ℕ) (values : List ℕ) (old new : List Answer) : Type 0
  where
    pub found : ℕ
    pub long : length values ≡ nodes
    pub whole : new ≡ gathered at k least value i found values old

-- a history of node i with such a reduction: what was before it, and after it
pub record Reduces (at k least nodes value i : ℕ) (values : List ℕ) (history : List Answer) : Type 0
  where
    pub before : List Answer
    pub after : List Answer
    pub gathered : List Answer
    pub gathers : Gathers at k least nodes value i values before gathered
    pub whole : history ≡ gathered ++ after
    pub fits : value < 2 ^ 64
    pub alone : NoAdvance k before
    pub unwritten : (n : ℕ) → NoWrite (at + 8 * n) before
    pub left : (n : ℕ) → NoWrite (at + 8 * n) after

-- In every order of records that a flat memory makes, each node finds what each other one stored.
abbrev pub ReductionsAgree : Type 0
ReductionsAgree = (c : Config) (old new : Memory) (order : List Record) (at k count : ℕ)
    (value : ℕ → ℕ) (values : ℕ → List ℕ) → LeadsThrough c old order new
    → slice_get old.counts k ≡ Some count → at % 8 ≡ 0
    → ((n : ℕ) → n < c.nodes → IsHeapWord c (at + 8 * n))
    → ((i : ℕ) → i < c.nodes
    → Reduces at k (count + c.nodes) c.nodes (value i) i (values i) (answers_of i order))
    → (i n : ℕ) → i < c.nodes → n < c.nodes
    → slice_get (values i) n ≡ Some (value n)
