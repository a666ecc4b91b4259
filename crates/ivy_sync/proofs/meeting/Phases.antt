-- What one node writes before a barrier is read after it.
use Rattle.std.proofs.Common.{◌≡◌, ◌≢◌, ℕ, ◌+◌, ◌<◌, inl, inr, false, List, [], ◌∷◌, ◌++◌, Some, refl}
use Rattle.std.proofs.Common.{sym, ap, subst, ◌∙◌, arith}
use Rattle.std.proofs.Math.Bridge.{le_prop}
use Rattle.std.specs.Prelude.{slice_get}
use Rattle.std.specs.List.{AllByRecursion as Each}
use Rattle.std.proofs.lemmas.Bool.{cases_eq, ne_eqb}
use Rattle.ivy_model.specs.declared.config.Config.{Config}
use Rattle.ivy_model.specs.declared.call.Record.{Record}
use Rattle.ivy_model.specs.declared.call.Reply.TheVariants.{Value}
use Rattle.ivy_model.specs.stated.Memory.{Memory}
use Rattle.ivy_model.proofs.Sizes.{leads_sized}
use Rattle.ivy_calls.specs.declared.answer.Answer.{Answer}
use Rattle.ivy_calls.specs.Answers.{answers, answers_of}
use Rattle.ivy_sync.specs.HeapWords.{word, IsHeapWord, is_write_in, NoWrite, IsWhole, Reads, last}
use Rattle.ivy_sync.specs.HeapWords.{LeadsThrough}
use Rattle.ivy_sync.specs.meeting.Barriers.{CrossesAt, IsCutAt}
use Rattle.ivy_sync.specs.meeting.Counts.{is_advance_of, NoAdvance, raised}
use Rattle.ivy_sync.specs.Doing.{arrives, passes}
use Rattle.ivy_sync.specs.meeting.Phases.{PhasesShare, SetsUp, IsSetUp, SetUpIsThere}
use Rattle.ivy_sync.proofs.answers.Cuts.{nodes_there, all_parts, part_all, own_or}
use Rattle.ivy_sync.proofs.answers.Lists.{All-both, all_weaker}
use Rattle.ivy_sync.proofs.answers.AnswerTotals.{tally}
use Rattle.ivy_sync.proofs.answers.HeapWords.{word_last, whole_quiet}
use Rattle.ivy_sync.proofs.meeting.Counting.{counted, none_raised}
use Rattle.ivy_sync.proofs.excluding.Registers.{reads_all, reads_same, last-append, last_part}
use Rattle.ivy_sync.proofs.meeting.Separates.{barrier-separates}

abbrev Whole : ℕ → Answer → Type 0
Whole a r = IsWhole a r.call

abbrev Quiet : ℕ → Answer → Type 0
Quiet a r = is_write_in a r.call ≡ false

pub no_write_whole : (a : ℕ) (rs : List Answer) → NoWrite a rs
    → Each (λ (r : Answer). IsWhole a r.call) rs
no_write_whole a rs h =
    all_weaker (λ (r : Answer). is_write_in a r.call ≡ false) (λ (r : Answer). IsWhole a r.call)
    (λ r q. whole_quiet a r.call q) rs h

-- a word that nobody writes after the barrier is read as it was there
module _ (c : Config) (old new : Memory) (order : List Record) (k least : ℕ)
    (before after : (i : ℕ) → i < c.nodes → List Answer) (a : ℕ)
    (run : LeadsThrough c old order new)
    (cut : IsCutAt c old order new k least before after) (place : IsHeapWord c a)
    (quiet : (j : ℕ) (m : j < c.nodes) → NoWrite a (after j m)) where
  rest_quiet : NoWrite a (answers cut.rest)
  rest_quiet =
      all_parts (λ (r : Answer). is_write_in a r.call ≡ false) c.nodes cut.rest
      (nodes_there c cut.mid new cut.rest cut.leads_on)
      (λ j m. subst (NoWrite a) (sym (cut.rests j m).1) (refl, quiet j m))

  pub settled : (j : ℕ) (m : j < c.nodes)
      → Each (λ (r : Answer). Reads a r.call → r.reply ≡ Value (word c cut.mid a)) (after j m)
  settled j m =
      let sized = leads_sized c old cut.mid cut.first run.config run.sized cut.leads in
      let same =
      reads_same a (word c cut.mid a) (answers cut.rest) rest_quiet
      (reads_all c cut.mid new cut.rest a
      (record { config = run.config; sized = sized; led = cut.leads_on }) place
      (no_write_whole a (answers cut.rest) rest_quiet)) in
      let mine =
      part_all (λ (r : Answer). Reads a r.call → r.reply ≡ Value (word c cut.mid a)) j cut.rest
      same in
      let rest : Each (λ (r : Answer). Reads a r.call → r.reply ≡ Value (word c cut.mid a))
      (passes k least (cut.rests j m).0 ∷ after j m) =
      subst (Each (λ (r : Answer). Reads a r.call → r.reply ≡ Value (word c cut.mid a)))
      (cut.rests j m).1 mine in
      rest.1

-- at the cut a word that one node alone wrote is as it left it
module _ (c : Config) (old new : Memory) (order : List Record) (k least : ℕ)
    (before after : (i : ℕ) → i < c.nodes → List Answer) (run : LeadsThrough c old order new)
    (cut : IsCutAt c old order new k least before after) where
  first_there : Each (λ (r : Record). r.node < c.nodes) cut.first
  first_there = nodes_there c old cut.mid cut.first cut.leads

  module _ (a i : ℕ) (l : i < c.nodes) (sets : SetsUp c before a i l) where
    same_node : (j : ℕ) (m : j < c.nodes) → j ≡ i → Each (Whole a) (before j m)
    same_node j m same =
        subst (λ x. (y : x < c.nodes) → Each (Whole a) (before x y)) (sym same)
        (λ y. subst (λ z. Each (Whole a) (before i z)) (le_prop l y) sets.whole) m

    whole_part : (j : ℕ) (m : j < c.nodes) → Each (Whole a) (before j m ++ arrives k ∷ [])
    whole_part j m =
        All-both (Whole a) (before j m) (arrives k ∷ [])
        (elim (cases_eq j i) [
          | inl same ↦ same_node j m same
          | inr ne ↦ no_write_whole a (before j m) (sets.alone j m ne)
        ])
        (whole_quiet a (arrives k).call refl, tt)

    first_whole : Each (Whole a) (answers cut.first)
    first_whole =
        all_parts (Whole a) c.nodes cut.first first_there
        (λ j m. subst (Each (Whole a)) (sym (cut.firsts j m)) (whole_part j m))

    others_quiet : (j : ℕ) → j < c.nodes → (j ≡ i → ⊥) → Each (Quiet a) (answers_of j cut.first)
    others_quiet j m ne =
        subst (Each (Quiet a)) (sym (cut.firsts j m))
        (All-both (Quiet a) (before j m) (arrives k ∷ []) (sets.alone j m ne) (refl, tt))

    word_there : word c cut.mid a ≡ last a (word c old a) (before i l)
    word_there =
        word_last c old cut.mid a cut.first
        (record { config = run.config; sized = run.sized; led = cut.leads }) sets.place first_whole
        ∙ last_part a i (word c old a) cut.first
        (own_or (Quiet a) i c.nodes cut.first first_there others_quiet)
        ∙ ap (last a (word c old a)) (cut.firsts i l)
        ∙ last-append a (word c old a) (before i l) (arrives k ∷ [])

  -- and an eventcount that nobody advanced is as it was
  count_there : (m count : ℕ) → m ≢ k → slice_get old.counts m ≡ Some count
      → ((j : ℕ) (l : j < c.nodes) → NoAdvance m (before j l))
      → slice_get cut.mid.counts m ≡ Some count
  count_there m count other at none =
      let P : Answer → Type 0 = λ r. is_advance_of m r.call ≡ false in
      let first_none : NoAdvance m (answers cut.first) =
      all_parts P c.nodes cut.first first_there
      (λ j l. subst (Each P) (sym (cut.firsts j l))
      (All-both P (before j l) (arrives k ∷ []) (none j l)
      (ne_eqb k m (λ same. other (sym same)), tt))) in
      let sum = none_raised m (answers cut.first) first_none in
      counted c old cut.mid m count cut.first cut.leads at
      ∙ ap Some (let same : count + tally (raised m) (answers cut.first) ≡ count = omega (arith, sum)
      in same)

module _ (c : Config) (old new : Memory) (order : List Record) (k count : ℕ)
    (before after : (i : ℕ) → i < c.nodes → List Answer) (run : LeadsThrough c old order new)
    (at : slice_get old.counts k ≡ Some count)
    (cross : (j : ℕ) (m : j < c.nodes)
    → CrossesAt k (count + c.nodes) (before j m) (after j m) (answers_of j order)) where
  cut : IsCutAt c old order new k (count + c.nodes) before after
  cut = barrier-separates c old new order k count before after run.led at cross

  pub set_up : IsSetUp c old order new k (count + c.nodes) before after
  set_up = record {
    cut = cut;
    words = word_there c old new order k (count + c.nodes) before after run cut;
    counts = count_there c old new order k (count + c.nodes) before after run cut;
    leads = record {
      config = run.config;
      sized = leads_sized c old cut.mid cut.first run.config run.sized cut.leads;
      led = cut.leads_on;
    };
  }

  pub shared : (a i : ℕ) (l : i < c.nodes) → SetsUp c before a i l
      → ((j : ℕ) (m : j < c.nodes) → NoWrite a (after j m)) → (j : ℕ) (m : j < c.nodes)
      → Each (λ (r : Answer). Reads a r.call → r.reply ≡ Value (last a (word c old a) (before i l)))
      (after j m)
  shared a i l sets quiet j m =
      subst (λ (v : ℕ). Each (λ (r : Answer). Reads a r.call → r.reply ≡ Value v) (after j m))
      (word_there c old new order k (count + c.nodes) before after run cut a i l sets)
      (settled c old new order k (count + c.nodes) before after a run cut sets.place quiet j m)

pub phases-share : PhasesShare
phases-share c old new order k count before after a i l run at cross place whole others quiet j m =
    shared c old new order k count before after run at cross a i l
    (record { place = place; whole = whole; alone = others }) quiet j m

pub set_up-is_there : SetUpIsThere
set_up-is_there c old new order k count before after run at cross =
    set_up c old new order k count before after run at cross
