-- A barrier separates.
use Rattle.std.proofs.Common.{◌≡◌, ℕ, ◌+◌, ◌<◌, ◌≤◌, inl, inr, List, [], ◌∷◌, ◌++◌, Some, sym}
use Rattle.std.proofs.Common.{ap, subst, ◌∙◌, append-nil, arith}
use Rattle.std.specs.Prelude.{slice_get}
use Rattle.ivy_model.specs.declared.config.Config.{Config}
use Rattle.ivy_model.specs.declared.call.Record.{Record}
use Rattle.ivy_model.specs.stated.Memory.{Memory}
use Rattle.ivy_model.specs.stated.Legal.{ServesAll}
use Rattle.ivy_calls.specs.declared.answer.Answer.{Answer}
use Rattle.ivy_calls.specs.Answers.{by, answers, answers_of}
use Rattle.ivy_calls.proofs.Answers.{answers_of-append}
use Rattle.ivy_sync.specs.meeting.Barriers.{CrossesAt, IsCutAt, BarrierSeparates}
use Rattle.ivy_sync.specs.meeting.Counts.{raised}
use Rattle.ivy_sync.specs.Doing.{arrives, passes}
use Rattle.ivy_sync.proofs.meeting.Counting.{raised_most, none_raised, raised_once, counted, awaited}
use Rattle.ivy_sync.proofs.answers.Cuts.{part_cut, leads_cut, nodes_there}
use Rattle.ivy_sync.proofs.answers.Lists.{two_cuts, short_prefix}
use Rattle.ivy_sync.proofs.answers.AnswerTotals.{tally, tally-append, parts_tally, total_least, each_one}
use Rattle.ivy_sync.proofs.answers.AnswerTotals.{IsSumCut, sum_cut}

module _ (c : Config) (old new : Memory) (order : List Record) (k count : ℕ)
    (before after : (i : ℕ) → i < c.nodes → List Answer) (led : ServesAll c old order new)
    (at : slice_get old.counts k ≡ Some count)
    (cross : (i : ℕ) (l : i < c.nodes)
    → CrossesAt k (count + c.nodes) (before i l) (after i l) (answers_of i order)) where
  -- what node i did up to its advance, and from its await on
  abbrev firsts : (i : ℕ) → i < c.nodes → List Answer
  firsts i l = before i l ++ arrives k ∷ []

  abbrev rests : (i : ℕ) → i < c.nodes → List Answer
  rests i l = passes k (count + c.nodes) (cross i l).found ∷ after i l

  one_at_least : (i : ℕ) → i < c.nodes → 1 ≤ tally (raised k) (answers_of i order)
  one_at_least i l =
      let w = cross i l in
      let once = raised_once k (before i l) w.alone in
      let sum = tally-append (raised k) (firsts i l) (rests i l) in
      let whole = ap (tally (raised k)) w.whole in
      omega (arith, once, sum, whole)

  enough : c.nodes ≤ tally (raised k) (answers order)
  enough =
      let least = total_least (λ i. tally (raised k) (answers_of i order)) c.nodes one_at_least in
      let same = parts_tally (raised k) c.nodes order (nodes_there c old new order led) in
      omega (arith, least, same)

  cut : IsSumCut (raised k) c.nodes order
  cut = sum_cut (raised k) (raised_most k) c.nodes order enough

  leads : (mid : Memory) × ServesAll c old cut.front mid × ServesAll c mid cut.back new
  leads = leads_cut c old new cut.front cut.back (subst (λ rs. ServesAll c old rs new) cut.whole
      led)

  -- before the cut no await of all advances has its value
  no_pass : (us vs : List Record) (found i : ℕ)
      → cut.front ≡ us ++ by i (passes k (count + c.nodes) found) ∷ vs → ⊥
  no_pass us vs found i e =
      let pass : Record = by i (passes k (count + c.nodes) found) in
      let w = leads_cut c old leads.0 us (pass ∷ vs)
      (subst (λ rs. ServesAll c old rs leads.0) e leads.1) in
      let count_there = counted c old w.0 k count us w.1 at in
      let reached = awaited c w.0 w.2.0 k (count + tally (raised k) (answers us))
      (count + c.nodes) found
      w.2.1.served count_there in
      let less = cut.first us vs pass e in
      absurd (omega (arith, reached, less))

  -- what a node did before the cut is a beginning of what it did up to its advance
  abbrev Near : (i : ℕ) → i < c.nodes → Type 0
  Near i l = (ds : List Answer) × (firsts i l ≡ answers_of i cut.front ++ ds)
      × (answers_of i cut.back ≡ ds ++ rests i l)

  near_end : (i : ℕ) (l : i < c.nodes) (ds : List Answer) → answers_of i cut.front ≡ firsts i l
      ++ ds
      → rests i l ≡ ds ++ answers_of i cut.back → Near i l
  near_end i l [] front back = (
    [],
    sym (front ∙ append-nil (firsts i l)) ∙ sym (append-nil (answers_of i cut.front)),
    sym back,
  )
  near_end i l (d ∷ ds) front back =
      let pass : Answer = passes k (count + c.nodes) (cross i l).found in
      let same : pass ≡ d = cc in
      let w = part_cut i cut.front (firsts i l) pass ds
      (front ∙ ap (λ x. firsts i l ++ x ∷ ds) (sym same)) in
      absurd (no_pass w.front w.back (cross i l).found i w.whole)

  near : (i : ℕ) (l : i < c.nodes) → Near i l
  near i l =
      let whole : answers_of i cut.front ++ answers_of i cut.back ≡ firsts i l ++ rests i l =
      sym (answers_of-append i cut.front cut.back) ∙ ap (answers_of i) (sym cut.whole) ∙
      (cross i l).whole in
      elim (two_cuts (answers_of i cut.front) (answers_of i cut.back) (firsts i l)
      (rests i l) whole) [
        | inl w ↦ w
        | inr w ↦ near_end i l w.0 w.1 w.2
      ]

  one_at_most : (i : ℕ) → i < c.nodes → tally (raised k) (answers_of i cut.front) ≤ 1
  one_at_most i l =
      let w = near i l in
      let once = raised_once k (before i l) (cross i l).alone in
      let sum = tally-append (raised k) (answers_of i cut.front) w.0 in
      let whole = ap (tally (raised k)) w.1 in
      omega (arith, once, sum, whole)

  one : (i : ℕ) → i < c.nodes → tally (raised k) (answers_of i cut.front) ≡ 1
  one =
      each_one (λ i. tally (raised k) (answers_of i cut.front)) c.nodes one_at_most
      (parts_tally (raised k) c.nodes cut.front (nodes_there c old leads.0 cut.front leads.1)
      ∙ cut.sum)

  exact : (i : ℕ) (l : i < c.nodes) (ds : List Answer) → firsts i l ≡ answers_of i cut.front ++ ds
      → answers_of i cut.back ≡ ds ++ rests i l
      → (answers_of i cut.front ≡ firsts i l) × (answers_of i cut.back ≡ rests i l)
  exact i l [] front back = (sym (append-nil (answers_of i cut.front)) ∙ sym front, back)
  exact i l (d ∷ ds) front back =
      let w = short_prefix (before i l) (arrives k) (answers_of i cut.front) d ds front in
      let none = none_raised k (before i l) (cross i l).alone in
      let sum = tally-append (raised k) (answers_of i cut.front) w.0 in
      let whole = ap (tally (raised k)) w.1 in
      let once = one i l in
      absurd (omega (arith, none, sum, whole, once))

  pub is_cut : IsCutAt c old order new k (count + c.nodes) before after
  is_cut = record {
    first = cut.front;
    rest = cut.back;
    mid = leads.0;
    whole = cut.whole;
    leads = leads.1;
    leads_on = leads.2;
    counted = counted c old leads.0 k count cut.front leads.1 at ∙ ap (λ n. Some
        (count + n)) cut.sum;
    firsts = λ i l. let w = near i l in (exact i l w.0 w.1 w.2).0;
    rests = λ i l. let w = near i l in ((cross i l).found, (exact i l w.0 w.1 w.2).1);
  }

pub barrier-separates : BarrierSeparates
barrier-separates c old new order k count before after led at cross =
    is_cut c old new order k count before after led at cross
