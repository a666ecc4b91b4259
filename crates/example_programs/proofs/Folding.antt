-- All nodes get the same by a tree.
use Rattle.std.proofs.Common.{◌≡◌, ℕ, zero, suc, ◌+◌, ◌-◌, ◌<◌, ◌≤◌, ◌⊎◌, inl, inr, List, [], ◌∷◌, ◌++◌}
use Rattle.std.proofs.Common.{refl, sym, ap, subst, ◌∙◌, append-nil, arith}
use Rattle.std.specs.Prelude.{slice_index, max}
use Rattle.std.specs.List.{FoldsTo, slice_index_or}
use Rattle.std.proofs.lemmas.Bool.{cases_lt}
use Rattle.std.proofs.lemmas.Option.{same_Some}
use Rattle.ivy_model.specs.declared.config.Config.{Config}
use Rattle.ivy_model.specs.declared.call.Record.{Record}
use Rattle.ivy_model.specs.stated.Config.{IsConfig}
use Rattle.ivy_model.specs.stated.Legal.{Legal}
use Rattle.ivy_model.specs.stated.Memory.{first}
use Rattle.ivy_calls.specs.Answers.{answers_of}
use Rattle.ivy_sync.specs.HeapWords.{LeadsThrough}
use Rattle.ivy_sync.specs.declared.tree_reduction.TreeReduction.{TreeReduction}
use Rattle.ivy_sync.specs.meeting.TreeBarriers.{phase_of}
use Rattle.ivy_sync.specs.meeting.TreeFolds.{AddsFold, word_at}
use Rattle.ivy_sync.specs.meeting.TreeReductions.{Descends, IsFoldPlace, IsFree, ReducesByTree, Rises, Raised}
use Rattle.ivy_sync.specs.meeting.TreeReductions.{Opened, fold_to}
use Rattle.ivy_sync.proofs.answers.First.{first_run, first_word}
use Rattle.ivy_sync.proofs.meeting.TreeFolds.{tree_folds-are_whole}
use Rattle.ivy_sync.proofs.meeting.TreeReductions.{tree_reductions-agree}
use Rattle.example_programs.specs.Highest.{highest_below}
use Rattle.example_programs.specs.Trees.{AllHearNode0, AllNameTheHighestByTree, IsTreeOfWords}
use Rattle.example_programs.proofs.Ringing.{there_of}
use Rattle.example_programs.proofs.Summing.{item_at}

module _ (c : Config) (r : TreeReduction) (calls : ℕ → ℕ → ℕ → Type 0) (value : ℕ → ℕ)
    (order : List Record) (outs : List ℕ) (config : IsConfig c) (legal : Legal c order)
    (place : IsTreeOfWords c r)
    (folded : (i : ℕ) → i < c.nodes
    → AddsFold calls r i (value i) (slice_index_or outs i 0) [] (answers_of i order)) where
  run : LeadsThrough c (first c) order legal.0
  run = first_run c order legal.0 config legal.1

  phase : phase_of r.tree ≡ 1
  phase = ap (λ (x : ℕ). x + 1) place.first

  tree : IsFoldPlace c (first c) (word_at r) 1
  tree = record {
    words = place.words;
    apart = place.apart;
    raised_low = λ n l. (let zero = first_word c (word_at r Raised n) in omega (arith, zero));
    open_low = λ n l. (let zero = first_word c (word_at r Opened n) in omega (arith, zero));
  }

  abbrev all : ℕ → ℕ
  all i = slice_index_or outs i 0

  -- what a node found, and what its part is, where it is there
  pub part_by : (i : ℕ) → (i < c.nodes) ⊎ (c.nodes ≤ i) → ℕ
  part_by i (inl l) = (folded i l).part
  part_by i (inr past) = 0

  pub values_by : (i : ℕ) → (i < c.nodes) ⊎ (c.nodes ≤ i) → List ℕ
  values_by i (inl l) = (folded i l).rises.values
  values_by i (inr past) = []

  abbrev part : ℕ → ℕ
  part i = part_by i (cases_lt i c.nodes)

  abbrev values : ℕ → List ℕ
  values i = values_by i (cases_lt i c.nodes)

  reduces_by : (i : ℕ) → i < c.nodes → (b : (i < c.nodes) ⊎ (c.nodes ≤ i))
      → ReducesByTree (word_at r) c.nodes 1 i (part_by i b) (all i) (values_by i b)
      (answers_of i order)
  unfolding part_by values_by
  reduces_by i l (inl m) =
      let w = folded i m in
      record {
        before = [];
        rise = w.rises.rise;
        descent = w.descends.descent;
        after = [];
        rises =
            subst (λ n. Rises (word_at r) n 1 i w.part w.rises.values w.rises.rise) place.nodes
            (subst (λ p. Rises (word_at r) r.tree.nodes p i w.part w.rises.values w.rises.rise) phase
            w.rises.rises);
        descends =
            subst (λ p. Descends (word_at r) p i w.part (all i) w.descends.descent) phase
            w.descends.descends;
        whole =
            w.descends.whole
            ∙ ap (λ l. l ++ w.descends.descent) w.rises.whole
            ∙ ap (λ l. ([] ++ w.rises.rise) ++ l) (sym (append-nil w.descends.descent));
        low = λ least few. (tt, tt);
        others = λ role n k ne. (tt, tt);
        goes_on = record {
          quiet = [];
          later = [];
          whole = refl;
          still = λ role. tt;
          next = inl refl;
        };
      }
  reduces_by i l (inr past) = absurd (omega (arith, l, past))

  folds_by : (i : ℕ) → i < c.nodes → (b : (i < c.nodes) ⊎ (c.nodes ≤ i))
      → FoldsTo calls (value i) (values_by i b) (part_by i b)
  unfolding part_by values_by
  folds_by i l (inl m) = (folded i m).rises.folds
  folds_by i l (inr past) = absurd (omega (arith, l, past))

  some : 0 < c.nodes
  some = let from = config.nodes_from in omega (arith, from)

  -- all get node 0's part
  pub got : (i : ℕ) → i < c.nodes → all i ≡ part 0
  got i l =
      (tree_reductions-agree c (first c) legal.0 order (word_at r) 1 part all values run tree
      (λ j m. reduces_by j m (cases_lt j c.nodes)) i l).0

  -- which is what the calls made
  pub made : FoldsTo calls (value 0) (values 0) (part 0)
  made = folds_by 0 some (cases_lt 0 c.nodes)

module _ (c : Config) (r : TreeReduction) (op : ℕ → ℕ → ℕ) (value : ℕ → ℕ)
    (order : List Record) (outs : List ℕ) (config : IsConfig c) (legal : Legal c order)
    (place : IsTreeOfWords c r) (free : IsFree op)
    (folded : (i : ℕ) → i < c.nodes
    → AddsFold (λ x y z. z ≡ op x y) r i (value i) (slice_index_or outs i 0) []
    (answers_of i order)) where
  abbrev calls_of : ℕ → ℕ → ℕ → Type 0
  calls_of x y z = z ≡ op x y

  pub whole_of_all : (i : ℕ) → i < c.nodes → slice_index_or outs i 0 ≡ fold_to op value (c.nodes - 1)
  whole_of_all i l =
      tree_folds-are_whole c (first c) legal.0 order (word_at r) 1 op value
      (part c r calls_of value order outs config legal place folded)
      (λ j. slice_index_or outs j 0)
      (values c r calls_of value order outs config legal place folded) free
      (run c r calls_of value order outs config legal place folded)
      (tree c r calls_of value order outs config legal place folded)
      (λ j m. reduces_by c r calls_of value order outs config legal place folded j m
      (cases_lt j c.nodes))
      (λ j m. folds_by c r calls_of value order outs config legal place folded j m
      (cases_lt j c.nodes))
      i l

-- the highest of all bids
max_free : IsFree max
max_free = record {
  grouped = λ x y z. (let e : max (max x y) z ≡ max x (max y z) = omega arith in e);
  turned = λ x y. (let e : max x y ≡ max y x = omega arith in e);
}

highest_to : (bid : ℕ → ℕ) (n : ℕ) → fold_to max bid n ≡ highest_below bid (suc n)
highest_to bid zero = let e : bid 0 ≡ max 0 (bid 0) = omega arith in e
highest_to bid (suc n) = ap (λ x. max x (bid (suc n))) (highest_to bid n)

-- calls that keep the first keep it
keeps_first : (first last : ℕ) (values : List ℕ)
    → FoldsTo (λ own other next. next ≡ own) first values last → last ≡ first
keeps_first first last [] folds = sym folds
keeps_first first last (v ∷ vs) folds = keeps_first folds.0 last vs folds.2 ∙ folds.1

pub all-name_the_highest_by_tree : AllNameTheHighestByTree
all-name_the_highest_by_tree c work order outs place shared i out e =
    let bid : ℕ → ℕ = λ n. slice_index work.bids n in
    let below = there_of outs i out e in
    let long = shared.all in
    let l : i < c.nodes = omega (arith, below, long) in
    same_Some out (slice_index_or outs i 0) (sym e ∙ item_at outs i 0 below)
    ∙ whole_of_all c work.reduction max bid order outs shared.config shared.legal place max_free
    (λ j m. shared.each j (slice_index_or outs j 0) (item_at outs j 0 (omega (arith, m, long)))) i l
    ∙ highest_to bid (c.nodes - 1)
    ∙ ap (highest_below bid) (let all : suc (c.nodes - 1) ≡ c.nodes = omega (arith, l) in all)

pub all-hear_node_0 : AllHearNode0
all-hear_node_0 c work order outs place shared i out e =
    let number : ℕ → ℕ = λ n. slice_index work.numbers n in
    let keeps : ℕ → ℕ → ℕ → Type 0 = λ own other next. next ≡ own in
    let below = there_of outs i out e in
    let long = shared.all in
    let l : i < c.nodes = omega (arith, below, long) in
    let each = λ (j : ℕ) (m : j < c.nodes). shared.each j (slice_index_or outs j 0)
    (item_at outs j 0 (omega (arith, m, long))) in
    same_Some out (slice_index_or outs i 0) (sym e ∙ item_at outs i 0 below)
    ∙ got c work.reduction keeps number order outs shared.config shared.legal place each i l
    ∙ keeps_first (number 0)
    (part c work.reduction keeps number order outs shared.config shared.legal place each 0)
    (values c work.reduction keeps number order outs shared.config shared.legal place each 0)
    (made c work.reduction keeps number order outs shared.config shared.legal place each)
