-- Messages by an eventcount: what was stored before it was advanced is loaded after it was awaited.
use Rattle.std.specs.Prelude.{◌≡◌, ℕ, ◌+◌, ◌<◌, ◌⊎◌, List, [], ◌∷◌, ◌++◌, slice_get, Some}
use Rattle.std.specs.List.{AllByRecursion as Each}
use Rattle.ivy_model.specs.declared.config.Config.{Config}
use Rattle.ivy_model.specs.declared.call.Record.{Record}
use Rattle.ivy_model.specs.declared.call.Reply.TheVariants.{Value}
use Rattle.ivy_model.specs.stated.Memory.{Memory}
use Rattle.ivy_calls.specs.declared.answer.Answer.{Answer}
use Rattle.ivy_calls.specs.Answers.{answers_of}
use Rattle.ivy_sync.specs.meeting.Counts.{NoAdvance, times_advanced}
use Rattle.ivy_sync.specs.Doing.{arrives, passes}
use Rattle.ivy_sync.specs.HeapWords.{word, IsHeapWord, NoWrite, IsWhole, Reads, last, LeadsThrough}

-- node i alone advances eventcount k, which is at this at first
pub record AdvancesAlone (c : Config) (old : Memory) (order : List Record) (k count i : ℕ) : Type 0
  where
    pub first : slice_get old.counts k ≡ Some count
    pub alone : (m : ℕ) → m < c.nodes → (m ≡ i → ⊥) → NoAdvance k (answers_of m order)

-- node i alone writes in the word at d
abbrev pub WritesAlone : Config → List Record → ℕ → ℕ → Type 0
WritesAlone c order d i = (m : ℕ) → m < c.nodes → (m ≡ i → ⊥) → NoWrite d (answers_of m order)

-- the writer goes on with an await of more than node j has advanced some other eventcount, in what
-- node j did so far
pub record AwaitsMore (c : Config) (old : Memory) (order : List Record) (j : ℕ)
    (so_far later : List Answer) : Type 0 where
  pub back : ℕ
  pub count : ℕ
  pub only : AdvancesAlone c old order back count j
  pub least : ℕ
  pub found : ℕ
  pub rest : List Answer
  pub whole : later ≡ passes back least found ∷ rest
  pub more : count + times_advanced back so_far < least

-- In every order of records that a flat memory makes: node i stores to a word that it alone writes,
-- and then advances an eventcount that it alone advances. Node j awaits that advance, and reads the
-- word. It finds what node i stored, unless node i has written there again; and it has not, where
-- it first awaits what node j has not yet done.
abbrev pub MessagesPass : Type 0
MessagesPass = (c : Config) (old new : Memory) (order : List Record) (d k count i j : ℕ)
    (before during later start so_far rest : List Answer) (r : Answer) (least found : ℕ)
    → LeadsThrough c old order new → IsHeapWord c d → AdvancesAlone c old order k count i
    → WritesAlone c order d i
    → answers_of i order ≡ (before ++ arrives k ∷ []) ++ (during ++ later)
    → answers_of j order ≡ (start ++ passes k least found ∷ so_far) ++ r ∷ rest
    → count + times_advanced k before < least → Each (λ s. IsWhole d s.call) before
    → NoWrite d during
    → (later ≡ []) ⊎ AwaitsMore c old order j (start ++ passes k least found ∷ so_far) later
    → Reads d r.call
    → r.reply ≡ Value (last d (word c old d) before)
