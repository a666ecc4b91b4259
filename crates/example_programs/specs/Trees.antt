-- Nodes that put their numbers together by a tree, or get node 0's.
use Rattle.std.specs.Prelude.{◌≡◌, ◌≢◌, ℕ, ◌/◌, ◌<◌, max, List, [], slice_index}
use Rattle.std.specs.Prelude.{slice_get, Some}
use Rattle.ivy_model.specs.declared.config.Config.{Config}
use Rattle.ivy_model.specs.declared.call.Record.{Record}
use Rattle.ivy_calls.specs.declared.answer.Answer.{Answer}
use Rattle.ivy_calls.specs.Shared.{AreShared}
use Rattle.ivy_sync.specs.HeapWords.{IsHeapWord}
use Rattle.ivy_sync.specs.declared.tree_reduction.TreeReduction.{TreeReduction}
use Rattle.ivy_sync.specs.meeting.TreeFolds.{AddsFold, word_at}
use Rattle.ivy_sync.specs.meeting.TreeReductions.{Role}
use Rattle.example_programs.specs.Highest.{highest_below}
use Rattle.example_programs.specs.declared.trees.Herald.{Herald}
use Rattle.example_programs.specs.declared.trees.HighestByTree.{HighestByTree}

-- a node gave its bid, and named the highest of all
abbrev pub HasBidByTree : HighestByTree → ℕ → List Answer → ℕ → Type 0
HasBidByTree work me answers out =
    AddsFold (λ most bid next. next ≡ max most bid) work.reduction me (slice_index work.bids me) out []
    answers

-- a node had a number, and gave what it got
abbrev pub HasHeard : Herald → ℕ → List Answer → ℕ → Type 0
HasHeard work me answers out =
    AddsFold (λ own other next. next ≡ own) work.reduction me (slice_index work.numbers me) out []
    answers

-- the words of the tree are words of the heap, each another one, and all nodes meet there for the first time
pub record IsTreeOfWords (c : Config) (r : TreeReduction) : Type 0 where
  pub words : (role : Role) (n : ℕ) → n < c.nodes → IsHeapWord c (word_at r role n)
  pub apart : (role other : Role) (n k : ℕ) → n < c.nodes → k < c.nodes
      → (role ≡ other → n ≢ k) → word_at r role n / 8 ≢ word_at r other k / 8
  pub nodes : r.tree.nodes ≡ c.nodes
  pub first : r.tree.passed ≡ 0

-- All nodes name the highest bid.
abbrev pub AllNameTheHighestByTree : Type 0
AllNameTheHighestByTree = (c : Config) (work : HighestByTree) (order : List Record) (outs : List ℕ)
    → IsTreeOfWords c work.reduction → AreShared c (HasBidByTree work) order outs
    → (i out : ℕ) → slice_get outs i ≡ Some out
    → out ≡ highest_below (λ n. slice_index work.bids n) c.nodes

-- All nodes give node 0's number.
abbrev pub AllHearNode0 : Type 0
AllHearNode0 = (c : Config) (work : Herald) (order : List Record) (outs : List ℕ)
    → IsTreeOfWords c work.reduction → AreShared c (HasHeard work) order outs
    → (i out : ℕ) → slice_get outs i ≡ Some out → out ≡ slice_index work.numbers 0
