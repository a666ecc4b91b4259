-- All nodes read the sum of their numbers.
use Rattle.std.proofs.Common.{◌≡◌, ℕ, ◌+◌, ◌*◌, ◌/◌, ◌%◌, ◌^◌, ◌<◌, inl, inr, false, if◌then◌else◌}
use Rattle.std.proofs.Common.{IsTrue, List, [], ◌∷◌, ◌++◌, length, Some, refl, sym, ap, subst, ◌∙◌}
use Rattle.std.proofs.Common.{append_assoc, arith, mod-eq_of_lt}
use Rattle.std.specs.Prelude.{slice_get}
use Rattle.std.specs.List.{AllByRecursion as Each, flat_map}
use Rattle.std.proofs.lemmas.Bool.{cases_lt}
use Rattle.ivy_model.specs.declared.config.Config.{Config}
use Rattle.ivy_model.specs.declared.call.Call.{Call}
use Rattle.ivy_model.specs.declared.call.Call.TheVariants.{Store}
use Rattle.ivy_model.specs.declared.call.Reply.TheVariants.{Value}
use Rattle.ivy_model.specs.declared.call.Record.{Record}
use Rattle.ivy_model.specs.stated.Memory.{Memory}
use Rattle.ivy_calls.specs.declared.answer.Answer.{Answer}
use Rattle.ivy_calls.specs.Answers.{answers, answers_of}
use Rattle.ivy_calls.proofs.Answers.{answers_of-nobody}
use Rattle.ivy_sync.specs.meeting.Barriers.{CrossesAt, IsCutAt}
use Rattle.ivy_sync.specs.meeting.Counts.{is_advance_of, NoAdvance}
use Rattle.ivy_sync.specs.Doing.{arrives, asks, loads, stores}
use Rattle.ivy_sync.specs.excluding.Locks.{KeepsLock}
use Rattle.ivy_sync.specs.excluding.Registers.{ReadsTheLast}
use Rattle.ivy_sync.specs.excluding.Sections.{KeepsGuard, sections, turns_of, IsSerial}
use Rattle.ivy_sync.specs.meeting.Sums.{sum_up_to, adding, AddsOnce, SumsAreWhole}
use Rattle.ivy_sync.specs.HeapWords.{word, IsHeapWord, is_in, is_access_in, is_write_in, IsWhole}
use Rattle.ivy_sync.specs.HeapWords.{NoWrite, word_after, last, LeadsThrough}
use Rattle.ivy_sync.proofs.answers.Cuts.{all_parts, nodes_there}
use Rattle.ivy_sync.proofs.answers.Lists.{All-both}
use Rattle.ivy_sync.proofs.excluding.Locks.{may_quiet}
use Rattle.ivy_sync.proofs.excluding.Locked.{in_own, in_other, apart_access, by_refusals, unguarded_keep}
use Rattle.ivy_sync.proofs.excluding.Locked.{locked}
use Rattle.ivy_sync.proofs.excluding.Locked.{locked_keeps, locked_guards, locked_sections, all_turns}
use Rattle.ivy_sync.proofs.excluding.Locked.{turn_sum}
use Rattle.ivy_sync.proofs.excluding.Locked.{turn_sum-sum_up_to}
use Rattle.ivy_sync.proofs.meeting.Phases.{settled}
use Rattle.ivy_sync.proofs.excluding.Registers.{words-are_registers}
use Rattle.ivy_sync.proofs.excluding.Sections.{sections-are_serial}
use Rattle.ivy_sync.proofs.meeting.Separates.{barrier-separates}
use Rattle.ivy_sync.proofs.answers.AnswerTotals.{sum_up_to-same}
use Rattle.ivy_sync.proofs.answers.HeapWords.{whole_quiet}

one_times : (n : ℕ) → n * 1 ≡ n
one_times n = omega arith

module _ (c : Config) (old new : Memory) (order : List Record) (a s k count : ℕ)
    (value out : ℕ → ℕ) (run : LeadsThrough c old order new) (lock_at : IsHeapWord c a)
    (sum_at : IsHeapWord c s)
    (apart : s / 8 ≡ a / 8 → ⊥) (free : word c old a ≡ 0) (counted : slice_get old.counts k ≡ Some
    count)
    (adds : (i : ℕ) → i < c.nodes
    → AddsOnce a s k (count + c.nodes) (value i) (answers_of i order) (out i)) where
  abbrev before : (i : ℕ) → i < c.nodes → List Answer
  before i l = (adds i l).refusals ++ adding a s (adds i l).sum (value i)

  abbrev after : (i : ℕ) → i < c.nodes → List Answer
  after i l = loads s (out i) ∷ []

  not_there : a / 8 ≡ s / 8 → ⊥
  not_there e = apart (sym e)

  alone : (i : ℕ) (l : i < c.nodes) → NoAdvance k (before i l)
  alone i l =
      All-both (λ (r : Answer). is_advance_of k r.call ≡ false) (adds i l).refusals
      (adding a s (adds i l).sum (value i))
      (by_refusals a (λ (r : Answer). is_advance_of k r.call ≡ false) (λ _. refl)
      (adds i l).refusals
      (adds i l).each)
      (refl, (refl, (refl, (refl, tt))))

  cross : (i : ℕ) (l : i < c.nodes)
      → CrossesAt k (count + c.nodes) (before i l) (after i l) (answers_of i order)
  cross i l =
      record { found = (adds i l).found; whole = (adds i l).whole; alone = alone i l }

  cut : IsCutAt c old order new k (count + c.nodes) before after
  cut = barrier-separates c old new order k count before after run.led counted cross

  first_run : LeadsThrough c old cut.first cut.mid
  first_run = record { config = run.config; sized = run.sized; led = cut.leads }

  -- what a node does while it holds the lock
  abbrev section : (i : ℕ) → i < c.nodes → List Answer
  section i l = loads s (adds i l).sum ∷ stores s ((adds i l).sum + value i) ∷ []

  split : (i : ℕ) (l : i < c.nodes)
      → answers_of i cut.first ≡ locked a (adds i l).refusals (section i l) (arrives k ∷ [])
  split i l =
      cut.firsts i l
      ∙ append_assoc (adds i l).refusals (adding a s (adds i l).sum (value i)) (arrives k ∷ [])

  quiet : (i : ℕ) (l : i < c.nodes) → NoWrite a (section i l)
  quiet i l = (refl, (in_other a s apart, tt))

  apart_calls : (call : Call) → IsTrue (is_write_in a call) → is_access_in s call ≡ false
  apart_calls call w = apart_access a s call apart w

  keeps : (i : ℕ) → i < c.nodes → KeepsLock a false (answers_of i cut.first)
  keeps i l =
      subst (KeepsLock a false) (sym (split i l))
      (locked_keeps a (adds i l).refusals (adds i l).each (section i l) (arrives k ∷ []) (quiet i l)
      (may_quiet a false (arrives k).call refl, tt))

  guards : (i : ℕ) → i < c.nodes → KeepsGuard a (is_access_in s) false (answers_of i cut.first)
  guards i l =
      subst (KeepsGuard a (is_access_in s) false) (sym (split i l))
      (locked_guards a (adds i l).refusals (adds i l).each (section i l) (arrives k ∷ [])
      (quiet i l)
      (is_access_in s) apart_calls
      (unguarded_keep a (is_access_in s) false (arrives k ∷ []) (refl, tt)))

  -- its one critical section
  one_section : (i : ℕ) (l : i < c.nodes)
      → sections a (is_access_in s) false (answers_of i cut.first) ≡ section i l ∷ []
  one_section i l =
      ap (sections a (is_access_in s) false) (split i l)
      ∙ locked_sections a (adds i l).refusals (adds i l).each (section i l) (arrives k ∷ [])
      (quiet i l)
      (is_access_in s) apart_calls
      ∙ ap
      (λ b. (if b then loads s (adds i l).sum ∷ (if b then stores s ((adds i l).sum + value i)
      ∷ [] else []) else (if b then stores s ((adds i l).sum + value i) ∷ [] else [])) ∷ [])
      (in_own s)

  serial : (turns : List (ℕ × List Answer)) × IsSerial a (is_access_in s) cut.first turns
  serial =
      sections-are_serial c old cut.mid cut.first a (is_access_in s) first_run lock_at free
      apart_calls keeps guards

  -- a turn is the section of a node that is there
  abbrev IsTurn : ℕ → List Answer → Type 0
  IsTurn i records = (l : i < c.nodes) × (records ≡ section i l)

  turns_by : (i : ℕ) → Each (IsTurn i) (turns_of i serial.0)
  turns_by i =
      elim (cases_lt i c.nodes) [
        | inl l ↦
            subst (Each (IsTurn i)) (sym (serial.1.each i ∙ one_section i l)) ((l, refl), tt)
        | inr past ↦
            subst (Each (IsTurn i))
            (sym (serial.1.each i
            ∙ ap (sections a (is_access_in s) false)
            (answers_of-nobody i c.nodes cut.first past (nodes_there c old cut.mid cut.first
            cut.leads)))) tt
      ]

  each_turn : Each (λ (t : ℕ × List Answer). IsTurn t.0 t.1) serial.0
  each_turn = all_turns IsTurn serial.0 turns_by

  there_turn : (turns : List (ℕ × List Answer))
      → Each (λ (t : ℕ × List Answer). IsTurn t.0 t.1) turns
      → Each (λ (t : ℕ × List Answer). t.0 < c.nodes) turns
  there_turn [] each = tt
  there_turn (t ∷ ts) each = (each.0.0, there_turn ts each.1)

  -- what a section leaves: as much more as the number of its node
  left_by : (i : ℕ) (l : i < c.nodes) (v : ℕ) → (adds i l).sum ≡ v
      → word_after s v (Store 8 s ((adds i l).sum + value i)) ≡ v + value i
  left_by i l v e =
      let fits = (adds i l).fits in
      ap (λ b. if b then ((adds i l).sum + value i) % 2 ^ 64 else v) (in_own s)
      ∙ mod-eq_of_lt fits ∙ ap (λ x. x + value i) e

  adds_up : (turns : List (ℕ × List Answer)) → Each (λ (t : ℕ × List Answer). IsTurn t.0 t.1) turns
      → (v : ℕ) → ReadsTheLast s v (flat_map (λ (t : ℕ × List Answer). t.1) turns)
      → last s v (flat_map (λ (t : ℕ × List Answer). t.1) turns) ≡ v + turn_sum value turns
  adds_up [] each v reads = omega arith
  adds_up (t ∷ ts) each v reads =
      let rest : List Answer = flat_map (λ (u : ℕ × List Answer). u.1) ts in
      let l = each.0.0 in
      let sum : ℕ = (adds t.0 l).sum in
      let reads' : ReadsTheLast s v (section t.0 l ++ rest) =
      subst (λ (rs : List Answer). ReadsTheLast s v (rs ++ rest)) each.0.1 reads in
      let same : Value sum ≡ Value v = reads'.0 (refl, refl, refl) in
      let found : sum ≡ v = cc in
      let made = left_by t.0 l v found in
      let more = adds_up ts each.1 (v + value t.0)
      (subst (λ x. ReadsTheLast s x rest) made reads'.1.1) in
      ap (λ (rs : List Answer). last s v (rs ++ rest)) each.0.1
      ∙ ap (λ x. last s x rest) made ∙ more
      ∙ (let k : v + value t.0 + turn_sum value ts ≡ v + (value t.0 + turn_sum value ts) = omega
      arith in k)

  abbrev Whole : Answer → Type 0
  Whole r = IsWhole s r.call

  -- a call on the lock's word is none on the sum's
  other_whole : (call : Call) → is_write_in s call ≡ is_in s a → IsWhole s call
  other_whole call e = whole_quiet s call (e ∙ in_other s a not_there)

  whole : Each Whole (answers cut.first)
  whole =
      all_parts Whole c.nodes cut.first (nodes_there c old cut.mid cut.first cut.leads)
      (λ i l. subst (Each Whole) (sym (split i l))
      (All-both Whole (adds i l).refusals
      (asks a 0 ∷ (section i l ++ stores a 0 ∷ arrives k ∷ []))
      (by_refusals a Whole (λ found. other_whole (asks a found).call refl) (adds i l).refusals
      (adds i l).each) (
        other_whole (asks a 0).call refl,
        (
          whole_quiet s (loads s (adds i l).sum).call refl,
          (
            λ t. (refl, refl),
            (
              other_whole (stores a 0).call refl,
              (whole_quiet s (arrives k).call refl, tt),
            ),
          ),
        ),
      )))

  sum_there : word c cut.mid s ≡ word c old s + sum_up_to value c.nodes
  sum_there =
      let registers = words-are_registers c old cut.mid cut.first s first_run sum_at whole in
      let reads : ReadsTheLast s (word c old s) (flat_map (λ (t : ℕ × List Answer). t.1) serial.0) =
      subst (ReadsTheLast s (word c old s)) serial.1.whole registers.1 in
      registers.0
      ∙ ap (last s (word c old s)) serial.1.whole
      ∙ adds_up serial.0 each_turn (word c old s) reads
      ∙ ap (λ n. word c old s + n)
      (turn_sum-sum_up_to value c.nodes serial.0 (there_turn serial.0 each_turn)
      ∙ sum_up_to-same (λ i. value i * length (turns_of i serial.0)) value c.nodes
      (λ i l. ap (λ (ss : List (List Answer)). value i * length ss) (serial.1.each i ∙ one_section
      i l)
      ∙ one_times (value i)))

  pub all_read : (i : ℕ) → i < c.nodes → out i ≡ word c old s + sum_up_to value c.nodes
  all_read i l =
      let reads =
      settled c old new order k (count + c.nodes) before after s run cut sum_at
      (λ j m. (refl, tt)) i l in
      let same : Value (out i) ≡ Value (word c cut.mid s) = reads.0 (refl, refl, refl) in
      let found : out i ≡ word c cut.mid s = cc in
      found ∙ sum_there

pub sums-are_whole : SumsAreWhole
sums-are_whole c old new order a s k count value out run lock_at sum_at apart free counted
    adds i l =
    all_read c old new order a s k count value out run lock_at sum_at apart free counted adds i l
