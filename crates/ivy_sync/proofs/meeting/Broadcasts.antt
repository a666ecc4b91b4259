-- Each node gets what the one node gave.
use Rattle.std.proofs.Common.{◌≡◌, ◌≢◌, ℕ, ◌+◌, ◌/◌, ◌%◌, ◌^◌, ◌<◌, inl, inr, false, List, [], ◌∷◌}
use Rattle.std.proofs.Common.{◌++◌, if◌then◌else◌, Some, refl, sym, ap, subst, ◌∙◌}
use Rattle.std.proofs.Common.{mod-eq_of_lt}
use Rattle.std.specs.Prelude.{slice_get}
use Rattle.std.specs.List.{AllByRecursion as Each}
use Rattle.std.proofs.lemmas.Bool.{cases_eq, eq-eqb}
use Rattle.ivy_model.specs.declared.config.Config.{Config}
use Rattle.ivy_model.specs.declared.call.Record.{Record}
use Rattle.ivy_model.specs.declared.call.Reply.TheVariants.{Value}
use Rattle.ivy_model.specs.stated.Memory.{Memory}
use Rattle.ivy_calls.specs.declared.answer.Answer.{Answer}
use Rattle.ivy_calls.specs.Answers.{answers_of}
use Rattle.ivy_sync.specs.meeting.Barriers.{CrossesAt}
use Rattle.ivy_sync.specs.meeting.Broadcasts.{GivesOnce, GetsOnce, BroadcastsArrive}
use Rattle.ivy_sync.specs.meeting.Counts.{is_advance_of}
use Rattle.ivy_sync.specs.Doing.{loads, stores}
use Rattle.ivy_sync.specs.HeapWords.{word, IsHeapWord, NoWrite, IsWhole, Reads, last}
use Rattle.ivy_sync.specs.HeapWords.{LeadsThrough}
use Rattle.ivy_sync.proofs.answers.Lists.{All-both}
use Rattle.ivy_sync.proofs.meeting.Phases.{no_write_whole, phases-share}
use Rattle.ivy_sync.proofs.excluding.Registers.{last-append}

-- what a node did before the barrier and after it, where node i gives and the others get
record Met (i addr k least given got j : ℕ) (history : List Answer) : Type 0 where
  before : List Answer
  after : List Answer
  crosses : CrossesAt k least before after history
  left : NoWrite addr after
  apart : (j ≡ i → ⊥) → NoWrite addr before
  gives : j ≡ i → (rest : List Answer) × NoWrite addr rest × (before ≡ rest ++ stores addr given
      ∷ [])
  gets : (j ≡ i → ⊥) → (rest : List Answer) × (after ≡ loads addr got ∷ rest)

met_giver : (i addr k least given got j : ℕ) (history : List Answer) → j ≡ i
    → GivesOnce addr k least given history → Met i addr k least given got j history
met_giver i addr k least given got j history same w = record {
  before = w.before ++ stores addr given ∷ [];
  after = w.after;
  crosses = record {
    found = w.found;
    whole = w.whole;
    alone =
        All-both (λ (r : Answer). is_advance_of k r.call ≡ false) w.before (stores addr given ∷ [])
        w.alone
        (refl, tt);
  };
  left = w.left;
  apart = λ ne. absurd (ne same);
  gives = λ _. (w.before, w.unwritten, refl);
  gets = λ ne. absurd (ne same);
}

met_getter : (i addr k least given got j : ℕ) (history : List Answer) → (j ≡ i → ⊥)
    → GetsOnce addr k least got history → Met i addr k least given got j history
met_getter i addr k least given got j history other w = record {
  before = w.before;
  after = loads addr got ∷ w.after;
  crosses = record { found = w.found; whole = w.whole; alone = w.alone };
  left = (refl, w.left);
  apart = λ _. w.unwritten;
  gives = λ same. absurd (other same);
  gets = λ _. (w.after, refl);
}

module _ (c : Config) (old new : Memory) (order : List Record) (addr k count i given : ℕ)
    (got : ℕ → ℕ) (run : LeadsThrough c old order new) (at : slice_get old.counts k ≡ Some count)
    (place : IsHeapWord c addr) (l : i < c.nodes) (fits : given < 2 ^ 64)
    (giver : GivesOnce addr k (count + c.nodes) given (answers_of i order))
    (getters : (j : ℕ) → j < c.nodes → j ≢ i
    → GetsOnce addr k (count + c.nodes) (got j) (answers_of j order)) where
  met : (j : ℕ) → j < c.nodes
      → Met i addr k (count + c.nodes) given (got j) j (answers_of j order)
  met j m =
      elim (cases_eq j i) [
        | inl same ↦
            met_giver i addr k (count + c.nodes) given (got j) j (answers_of j order) same
            (subst (λ n. GivesOnce addr k (count + c.nodes) given (answers_of n order)) (sym same)
            giver)
        | inr other ↦
            met_getter i addr k (count + c.nodes) given (got j) j (answers_of j order) other
            (getters j m other)
      ]

  own : (rest : List Answer) × NoWrite addr rest
      × ((met i l).before ≡ rest ++ stores addr given ∷ [])
  own = (met i l).gives refl

  whole : Each (λ (r : Answer). IsWhole addr r.call) (met i l).before
  whole =
      subst (Each (λ (r : Answer). IsWhole addr r.call)) (sym own.2)
      (All-both (λ (r : Answer). IsWhole addr r.call) own.0 (stores addr given ∷ [])
      (no_write_whole addr own.0 own.1) (λ t. (refl, refl), tt))

  stored : (v : ℕ) → last addr v (met i l).before ≡ given
  stored v =
      ap (last addr v) own.2 ∙ last-append addr v own.0 (stores addr given ∷ [])
      ∙ ap (λ b. if b then given % 2 ^ 64 else last addr v own.0)
      (eq-eqb (addr / 8) (addr / 8) refl)
      ∙ mod-eq_of_lt fits

  arrives_at : (j : ℕ) → j < c.nodes → j ≢ i → got j ≡ given
  arrives_at j m ne =
      let g = (met j m).gets ne in
      let reads =
      phases-share c old new order k count (λ n p. (met n p).before) (λ n p. (met n p).after) addr
      i l
      run at (λ n p. (met n p).crosses) place whole (λ n p other. (met n p).apart other)
      (λ n p. (met n p).left) j m in
      let P : Answer → Type 0 = λ r. Reads addr r.call
      → r.reply ≡ Value (last addr (word c old addr) (met i l).before) in
      let first : Each P (loads addr (got j) ∷ g.0) = subst (Each P) g.1 reads in
      let found : Value (got j) ≡ Value (last addr (word c old addr) (met i l).before) =
      first.0 (refl, refl, refl) in
      let same : got j ≡ last addr (word c old addr) (met i l).before = cc in
      same ∙ stored (word c old addr)

pub broadcasts-arrive : BroadcastsArrive
broadcasts-arrive c old new order addr k count i given got run at place l giver getters j m ne =
    arrives_at c old new order addr k count i given got run at place l giver.fits giver getters j
    m ne
