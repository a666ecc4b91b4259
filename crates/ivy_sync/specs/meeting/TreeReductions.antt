-- A reduction of all nodes by a tree: node i puts the parts of its children, 4i+1 to 4i+4, to its own number, and
-- leaves what that comes to, its part, for its parent. On the way down all get node 0's part.
use Rattle.std.specs.Prelude.{◌≡◌, ◌≢◌, ℕ, zero, suc, ◌+◌, ◌-◌, ◌*◌, ◌/◌, ◌^◌, ◌<◌, ◌≤◌, ◌⊎◌, List, [], ◌∷◌, ◌++◌}
use Rattle.std.specs.Prelude.{length, slice_get, Some}
use Rattle.std.specs.List.{FoldsTo}
use Rattle.ivy_model.specs.declared.config.Config.{Config}
use Rattle.ivy_model.specs.declared.call.Record.{Record}
use Rattle.ivy_model.specs.stated.Memory.{Memory}
use Rattle.ivy_calls.specs.declared.answer.Answer.{Answer}
use Rattle.ivy_calls.specs.Answers.{answers_of}
use Rattle.ivy_sync.specs.Doing.{loads, stores}
use Rattle.ivy_sync.specs.HeapWords.{word, IsHeapWord, KeepsBelow, NoWrite, LeadsThrough}
use Rattle.ivy_sync.specs.meeting.TreeBarriers.{Awaits, Gathered, children}

-- what a node has a word for: its part, that it is there, what all get, and that this is there
pub data Role : Type 0 where
  Part : Role
  Raised : Role
  Given : Role
  Opened : Role

-- these were found at the nodes from the n-th on
abbrev pub finds_from : (ℕ → ℕ) → ℕ → List ℕ → List Answer
finds_from at n [] = []
finds_from at n (v ∷ vs) = loads (at n) v ∷ finds_from at (n + 1) vs

-- Node i, whose children's parts are these, leaves its own: each child's word was seen raised before
pub record Rises (at : Role → ℕ → ℕ) (nodes phase i part : ℕ) (values : List ℕ)
    (rise : List Answer) : Type 0 where
  pub gathered : List Answer
  pub gathers : Gathered (at Raised) phase (4 * i + 1) (children nodes i) gathered
  pub long : length values ≡ children nodes i
  pub fits : part < 2 ^ 64
  pub whole : rise
      ≡ (gathered ++ finds_from (at Part) (4 * i + 1) values)
      ++ (stores (at Part i) part ∷ stores (at Raised i) phase ∷ [])

-- what node 0 gets is its part, and every other node finds it at its parent
abbrev pub Fetched : (ℕ → ℕ) → ℕ → ℕ → ℕ → List Answer → Type 0
Fetched given zero part all fetched = (all ≡ part) × (fetched ≡ [])
Fetched given (suc i) part all fetched = fetched ≡ loads (given (i / 4)) all ∷ []

-- node i, whose part is this, gets what all get, and leaves it for its children
pub record Descends (at : Role → ℕ → ℕ) (phase i part all : ℕ) (descent : List Answer) : Type 0 where
  pub waited : List Answer
  pub awaits : Awaits (at Opened) phase i waited
  pub fetched : List Answer
  pub fetches : Fetched (at Given) i part all fetched
  pub whole : descent
      ≡ (waited ++ fetched) ++ (stores (at Given i) all ∷ stores (at Opened i) phase ∷ [])

-- Node i writes in its own words no more, or not before it has seen its children come to the next phase.
pub record GoesOn (at : Role → ℕ → ℕ) (nodes phase i : ℕ) (after : List Answer) : Type 0 where
  pub quiet : List Answer
  pub later : List Answer
  pub whole : after ≡ quiet ++ later
  pub still : (role : Role) → NoWrite (at role i) quiet
  pub next : (later ≡ [])
      ⊎ ((gathered : List Answer) × (rest : List Answer)
      × Gathered (at Raised) (phase + 1) (4 * i + 1) (children nodes i) gathered
      × (later ≡ gathered ++ rest))

-- A history of node i with such a reduction: what was before it, and after it. It writes in no other one's words, and
-- before it leaves its own two that are raised or opened below the phase.
pub record ReducesByTree (at : Role → ℕ → ℕ) (nodes phase i part all : ℕ) (values : List ℕ)
    (history : List Answer) : Type 0 where
  pub before : List Answer
  pub rise : List Answer
  pub descent : List Answer
  pub after : List Answer
  pub rises : Rises at nodes phase i part values rise
  pub descends : Descends at phase i part all descent
  pub whole : history ≡ (before ++ rise) ++ (descent ++ after)
  pub low : (least : ℕ) → phase ≤ least
      → KeepsBelow (at Raised i) least before × KeepsBelow (at Opened i) least before
  pub others : (role : Role) (n : ℕ) → n < nodes → n ≢ i
      → NoWrite (at role n) before × NoWrite (at role n) after
  pub goes_on : GoesOn at nodes phase i after

-- words of the heap, each another one; those that are raised or opened are below the phase
pub record IsFoldPlace (c : Config) (m : Memory) (at : Role → ℕ → ℕ) (phase : ℕ) : Type 0 where
  pub words : (role : Role) (n : ℕ) → n < c.nodes → IsHeapWord c (at role n)
  pub apart : (role other : Role) (n k : ℕ) → n < c.nodes → k < c.nodes
      → (role ≡ other → n ≢ k) → at role n / 8 ≢ at other k / 8
  pub raised_low : (n : ℕ) → n < c.nodes → word c m (at Raised n) < phase
  pub open_low : (n : ℕ) → n < c.nodes → word c m (at Opened n) < phase

-- In every order of records that a flat memory makes, each node finds the parts of its children, and all get node 0's.
abbrev pub TreeReductionsAgree : Type 0
TreeReductionsAgree = (c : Config) (old new : Memory) (order : List Record) (at : Role → ℕ → ℕ)
    (phase : ℕ) (part all : ℕ → ℕ) (values : ℕ → List ℕ) → LeadsThrough c old order new
    → IsFoldPlace c old at phase
    → ((i : ℕ) → i < c.nodes
    → ReducesByTree at c.nodes phase i (part i) (all i) (values i) (answers_of i order))
    → (i : ℕ) → i < c.nodes
    → (all i ≡ part 0)
    × ((k : ℕ) → k < children c.nodes i → slice_get (values i) k ≡ Some (part (4 * i + 1 + k)))

-- neither order nor grouping matters to an operation
pub record IsFree (op : ℕ → ℕ → ℕ) : Type 0 where
  pub grouped : (x y z : ℕ) → op (op x y) z ≡ op x (op y z)
  pub turned : (x y : ℕ) → op x y ≡ op y x

-- what an operation makes of the numbers of the nodes up to the n-th
abbrev pub fold_to : (ℕ → ℕ → ℕ) → (ℕ → ℕ) → ℕ → ℕ
fold_to op value zero = value zero
fold_to op value (suc n) = op (fold_to op value n) (value (suc n))

-- So where each node makes its part by such an operation from its number and from what it found,
-- all get what that makes of all numbers.
abbrev pub TreeFoldsAreWhole : Type 0
TreeFoldsAreWhole = (c : Config) (old new : Memory) (order : List Record) (at : Role → ℕ → ℕ)
    (phase : ℕ) (op : ℕ → ℕ → ℕ) (value part all : ℕ → ℕ) (values : ℕ → List ℕ) → IsFree op
    → LeadsThrough c old order new → IsFoldPlace c old at phase
    → ((i : ℕ) → i < c.nodes
    → ReducesByTree at c.nodes phase i (part i) (all i) (values i) (answers_of i order))
    → ((i : ℕ) → i < c.nodes → FoldsTo (λ x y z. z ≡ op x y) (value i) (values i) (part i))
    → (i : ℕ) → i < c.nodes → all i ≡ fold_to op value (c.nodes - 1)
