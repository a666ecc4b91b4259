-- Which nodes claim a page once a node has taken a step.
use Rattle.std.proofs.Common.{◌≡◌, ◌≢◌, ◌⊎◌, ℕ, true, false, refl, sym, ap, ◌∙◌, inl, inr, List}
use Rattle.ivy_model.specs.declared.Config.{Config}
use Rattle.ivy_wire.specs.declared.Content.TheVariants as content
use Rattle.ivy_pagetable.specs.declared.Entry.{Entry}
use Rattle.ivy_pagetable.specs.declared.Entry.TheVariants as entry
use Rattle.ivy_pagetable.specs.declared.PutOff.{PutOff}
use Rattle.ivy_pagetable.specs.stated.Entries.{with_put_off}
use Rattle.proof_table.specs.stated.Letters.{Letter, Net, Place}
use Rattle.proof_table.specs.transitions.Letters.{written}
use Rattle.proof_table.specs.stated.Orderly.{AwaitsCopy, AwaitsPage, IsOrderly}
use Rattle.proof_table.proofs.transitions.Places.{written_here, written-other, same_or_other}
use Rattle.proof_table.proofs.transitions.NetSteps.{IsStep}
use Rattle.proof_table.proofs.transitions.Parcels.{IsThe}
use Rattle.proof_table.proofs.transitions.Fitting.{IsRequest}
use Rattle.proof_table.specs.stated.Descending.{IsAsked}
use Rattle.proof_table.specs.routing.Claiming.{claims, IsReader}
use Rattle.proof_table.proofs.routing.Asked.{reader_awaits, writer_awaits, AreOld, then_old, step_old, answer_old, AreReaders, AreStill, reading_awaits, step_readers, answer_readers}
use Rattle.proof_table.proofs.routing.Remaining.{IsCounted}

-- no request is new, nor is one to write gone, and nobody begins to read, nor begins or ends to
-- claim a page
pub record IsCalmed (n n' : Net) : Type 0 where
  pub claiming : (y q : ℕ) → claims (n'.entry y q) ≡ claims (n.entry y q)
  pub counted : IsCounted n → IsCounted n'
  pub old : AreOld n n'
  pub readers : AreReaders n n'
  pub still : AreStill n n'

pub then_calmed : (n n' n'' : Net) → IsCalmed n n' → IsCalmed n' n'' → IsCalmed n n''
then_calmed n n' n'' c d = record {
  claiming = λ y q. d.claiming y q ∙ c.claiming y q;
  counted = λ h. d.counted (c.counted h);
  old = then_old n n' n'' c.old d.old;
  readers = λ q i y k. c.readers q i y (d.readers q i y k);
  still = λ q o y k. d.still q o y (c.still q o y k);
}

-- who waits for a copy claims nothing; who waits for the page claims it
copy_unclaimed : (e : Entry) (k : ℕ) → AwaitsCopy e k → claims e ≡ false
copy_unclaimed (entry.Idle s) k h = absurd h
copy_unclaimed (entry.AwaitRead s) k h = refl
copy_unclaimed (entry.AwaitWrite s) k h = absurd h
copy_unclaimed (entry.AwaitAcks s) k h = absurd h

pub page_claimed : (e : Entry) (k : ℕ) → AwaitsPage e k → claims e ≡ true
page_claimed (entry.Idle s) k h = absurd h
page_claimed (entry.AwaitRead s) k h = absurd h
page_claimed (entry.AwaitWrite s) k h = refl
page_claimed (entry.AwaitAcks s) k h = absurd h

pub reader_unclaimed : (c : Config) (n : Net) → IsOrderly c n → (q i y : ℕ)
    → IsAsked n (content.ReadReq q) i y → claims (n.entry i q) ≡ false
reader_unclaimed c n order q i y k =
    let f : (call : ℕ) × AwaitsCopy (n.entry i q) call = reader_awaits c n order q i y k in
    copy_unclaimed (n.entry i q) f.0 f.1

pub reading_unclaimed : (c : Config) (n : Net) → IsOrderly c n → (q i y : ℕ) → IsReader n q i y
    → claims (n.entry i q) ≡ false
reading_unclaimed c n order q i y k =
    let f : (call : ℕ) × AwaitsCopy (n.entry i q) call = reading_awaits c n order q i y k in
    copy_unclaimed (n.entry i q) f.0 f.1

pub writer_claims : (c : Config) (n : Net) → IsOrderly c n → (q i y : ℕ)
    → IsAsked n (content.WriteReq q) i y → claims (n.entry i q) ≡ true
writer_claims c n order q i y k =
    let f : (call : ℕ) × AwaitsPage (n.entry i q) call = writer_awaits c n order q i y k in
    page_claimed (n.entry i q) f.0 f.1

-- to put a message off changes nothing of it
pub put_claims : (e : Entry) (q : PutOff) → claims (with_put_off e q) ≡ claims e
put_claims (entry.Idle s) q = refl
put_claims (entry.AwaitRead s) q = refl
put_claims (entry.AwaitWrite s) q = refl
put_claims (entry.AwaitAcks s) q = refl

-- one entry is written
pub written_claims : (n : Net) (x p : ℕ) (z : Entry) → claims z ≡ claims (n.entry x p) → (y q : ℕ)
    → claims (written n.entry x p z y q) ≡ claims (n.entry y q)
written_claims n x p z still y q = elim (same_or_other y q x p) [
  | inl same ↦
      ap claims (written_here n.entry x p z y q same.0 same.1) ∙ still
      ∙ sym (ap (λ i. claims (n.entry i q)) same.0 ∙ ap (λ j. claims (n.entry x j)) same.1)
  | inr other ↦ ap claims (written-other n.entry x p z y q other)
]

module _ (n n' : Net) (x p : ℕ) (e z : Entry) (now : Place → Place) (New : Place → Letter → Type 0)
    (step : IsStep n n' x p e z now New) where
  pub claims_else : (y q : ℕ) → (y ≢ x) ⊎ (q ≢ p) → claims (n'.entry y q) ≡ claims (n.entry y q)
  claims_else y q other = elim (step.elsewhere y q) [
    | inl same ↦ absurd (elim other [ inl ne ↦ ne same.0 | inr ne ↦ ne same.1 ])
    | inr there ↦ ap claims there.1
  ]

  pub claims_same : claims z ≡ claims e → (y q : ℕ) → claims (n'.entry y q) ≡ claims (n.entry y q)
  claims_same still y q = elim (step.elsewhere y q) [
    | inl same ↦
        ap (λ i. claims (n'.entry i q)) same.0 ∙ ap (λ j. claims (n'.entry x j)) same.1
        ∙ ap claims step.after ∙ still
        ∙ sym (ap (λ i. claims (n.entry i q)) same.0 ∙ ap (λ j. claims (n.entry x j)) same.1
        ∙ ap claims step.before)
    | inr there ↦ ap claims there.1
  ]

  -- no new letter is a request, or a copy
  pub step_calmed : ((a : Place) (l : Letter) → New a l → IsRequest l.message.content → ⊥)
      → ((a : Place) (l : Letter) (q : ℕ) (bytes : List ℕ) → New a l
      → l.message.content ≡ content.ReadRep q bytes → ⊥) → (IsCounted n → IsCounted n')
      → AreStill n n' → claims z ≡ claims e → IsCalmed n n'
  step_calmed none uncopied counted still same = record {
    claiming = claims_same same;
    counted = counted;
    old = step_old n n' x p e z now New step none;
    readers = step_readers n n' x p e z now New step none uncopied;
    still = still;
  }

-- the new letter is an answer
pub answer_calmed : (n n' : Net) (x p : ℕ) (e z : Entry) (now : Place → Place) (at : Place)
    (new : Letter) → IsStep n n' x p e z now (IsThe at new)
    → (IsRequest new.message.content → ⊥)
    → ((q : ℕ) (bytes : List ℕ) → new.message.content ≡ content.ReadRep q bytes
    → IsAsked n (content.ReadReq q) new.dest new.source)
    → (IsCounted n → IsCounted n') → AreStill n n' → claims z ≡ claims e → IsCalmed n n'
answer_calmed n n' x p e z now at new step none copied counted still same = record {
  counted = counted;
  claiming = claims_same n n' x p e z now (IsThe at new) step same;
  old = answer_old n n' x p e z now at new step none;
  readers = answer_readers n n' x p e z now at new step none copied;
  still = still;
}
