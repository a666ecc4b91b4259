-- What one node writes before a barrier, and nobody after it.
use Rattle.std.specs.Prelude.{◌≡◌, ◌≢◌, ℕ, ◌+◌, ◌<◌, List, slice_get, Some}
use Rattle.std.specs.List.{AllByRecursion as Each}
use Rattle.ivy_model.specs.declared.config.Config.{Config}
use Rattle.ivy_model.specs.declared.call.Record.{Record}
use Rattle.ivy_model.specs.declared.call.Reply.TheVariants.{Value}
use Rattle.ivy_model.specs.stated.Memory.{Memory}
use Rattle.ivy_calls.specs.declared.answer.Answer.{Answer}
use Rattle.ivy_calls.specs.Answers.{answers_of}
use Rattle.ivy_sync.specs.meeting.Barriers.{CrossesAt, IsCutAt}
use Rattle.ivy_sync.specs.meeting.Counts.{NoAdvance}
use Rattle.ivy_sync.specs.HeapWords.{word, IsHeapWord, NoWrite, IsWhole, Reads, last, LeadsThrough}

-- A word that node i alone writes before a barrier, and nobody after it, is read after it as node i
-- left it.
abbrev pub PhasesShare : Type 0
PhasesShare = (c : Config) (old new : Memory) (order : List Record) (k count : ℕ)
    (before after : (i : ℕ) → i < c.nodes → List Answer) (a i : ℕ) (l : i < c.nodes)
    → LeadsThrough c old order new → slice_get old.counts k ≡ Some count
    → ((j : ℕ) (m : j < c.nodes)
    → CrossesAt k (count + c.nodes) (before j m) (after j m) (answers_of j order))
    → IsHeapWord c a → Each (λ r. IsWhole a r.call) (before i l)
    → ((j : ℕ) (m : j < c.nodes) → (j ≡ i → ⊥) → NoWrite a (before j m))
    → ((j : ℕ) (m : j < c.nodes) → NoWrite a (after j m)) → (j : ℕ) (m : j < c.nodes)
    → Each (λ r. Reads a r.call → r.reply ≡ Value (last a (word c old a) (before i l))) (after j m)

-- before the barrier node i alone writes in the word at a, and always all of it
pub record SetsUp (c : Config) (before : (i : ℕ) → i < c.nodes → List Answer) (a i : ℕ)
    (l : i < c.nodes) : Type 0 where
  pub place : IsHeapWord c a
  pub whole : Each (λ r. IsWhole a r.call) (before i l)
  pub alone : (j : ℕ) (m : j < c.nodes) → (j ≡ i → ⊥) → NoWrite a (before j m)

-- The order is cut at a barrier. There each word that one node alone wrote is as that node left it, an
-- eventcount other than the barrier's that nobody advanced is as it was, and the memory leads on.
pub record IsSetUp (c : Config) (old : Memory) (order : List Record) (new : Memory) (k least : ℕ)
    (before after : (i : ℕ) → i < c.nodes → List Answer) : Type 0 where
  pub cut : IsCutAt c old order new k least before after
  pub words : (a i : ℕ) (l : i < c.nodes) → SetsUp c before a i l
      → word c cut.mid a ≡ last a (word c old a) (before i l)
  pub counts : (m count : ℕ) → m ≢ k → slice_get old.counts m ≡ Some count
      → ((j : ℕ) (l : j < c.nodes) → NoAdvance m (before j l))
      → slice_get cut.mid.counts m ≡ Some count
  pub leads : LeadsThrough c cut.mid cut.rest new

-- What one node writes before a barrier is after it as that node left it, and what nobody touched is
-- as it was. It is so at one cut for all words and eventcounts, from which the memory leads on: so the
-- other laws hold of what one node has set up.
abbrev pub SetUpIsThere : Type 0
SetUpIsThere = (c : Config) (old new : Memory) (order : List Record) (k count : ℕ)
    (before after : (i : ℕ) → i < c.nodes → List Answer)
    → LeadsThrough c old order new → slice_get old.counts k ≡ Some count
    → ((j : ℕ) (m : j < c.nodes)
    → CrossesAt k (count + c.nodes) (before j m) (after j m) (answers_of j order))
    → IsSetUp c old order new k (count + c.nodes) before after
