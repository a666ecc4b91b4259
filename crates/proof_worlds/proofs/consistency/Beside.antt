-- Calls that are made along with one: their words, and that the program makes them.
use Rattle.std.proofs.Common.{◌≡◌, ◌⊎◌, inl, inr, ◌+◌, ◌^◌, nat_lt, ℕ, Bool, true, false, ◌&&◌, not, ◌||◌, ◌==◌, List, [], ◌∷◌, length, Option, Some, None, refl, ap, ◌∙◌, if◌then◌else◌}
use Rattle.std.proofs.lemmas.Bool.{and_parts, eqb-true}
use Rattle.ivy_model.specs.declared.Config.{Config}
use Rattle.ivy_model.specs.declared.Call.{Call}
use Rattle.ivy_model.specs.declared.Reply.{Reply}
use Rattle.ivy_pagetable.specs.declared.Word.{Word}
use Rattle.ivy_pagetable.specs.stated.Words.{needs_write}
use Rattle.ivy_program.specs.stated.InstructionSteps.{Process, answered_with, AsksRow}
use Rattle.ivy_coherence.specs.stated.Coherent.{Coherent}
use Rattle.ivy_coherence.specs.stated.PageFaults.{along}
use Rattle.ivy_memory.specs.declared.Asked.{Asked}
use Rattle.ivy_memory.specs.declared.Asked.TheVariants as asked
use Rattle.ivy_memory.specs.stated.Asking.{asked_of}
use Rattle.ivy_memory.specs.stated.Beside.{Beside, nothing_beside, gives_reply, goes_along, word_along, beside_with, all_beside, beside}
use Rattle.proof_worlds.proofs.consistency.Owing.{AreWordsOf}

-- what waits along changes nothing else
pub record IsPreserved {S : Type 0} (k j : Coherent S) : Type 0 where
  pub done : j.done ≡ k.done
  pub locked : j.locked ≡ k.locked
  pub table : j.table ≡ k.table

pub along-kept : {S : Type 0} (words : List Word) (k : Coherent S) → IsPreserved k (along words k)
along-kept [] k = record { done = refl; locked = refl; table = refl }
along-kept (w ∷ ws) k = record { done = refl; locked = refl; table = refl }

pub along-more : {S : Type 0} (words : List Word) (k : Coherent S) → k.more ≡ []
    → (along words k).more ≡ words
along-more [] k none = none
along-more (w ∷ ws) k none = refl

module _ (c : Config) (page : ℕ) (first : Word) where
  abbrev pub Fit : Beside → Type 0
  Fit b = AreWordsOf c page b.calls b.words

  goes : (k : Call) (p : ℕ) (w : Word) (b : Bool) (rest : Beside) → asked_of c k ≡ asked.Word p w
      → goes_along page first p w ≡ b → Fit rest
      → Fit (beside_with k (if b then Some w else None) rest)
  goes k p w false rest of is are = tt
  goes k p w true rest of is are =
      let both = and_parts ((p == page) && gives_reply w) (needs_write first || not (needs_write w)) is in
      let one = and_parts (p == page) (gives_reply w) both.0 in
      (of ∙ ap (λ q. asked.Word q w) (eqb-true p page one.0), one.1, are)

  step : (k : Call) (a : Asked) (rest : Beside) → asked_of c k ≡ a → Fit rest
      → Fit (beside_with k (word_along page first a) rest)
  step k (asked.Refused code) rest of are = tt
  step k (asked.Word p w) rest of are = goes k p w (goes_along page first p w) rest of refl are
  step k (asked.Heap h) rest of are = tt

  all-words : (calls : List Call) → Fit (all_beside c page first calls)
  all-words [] = tt
  all-words (k ∷ ks) =
      step k (asked_of c k) (all_beside c page first ks) refl (all-words ks)

  -- the words are those of the calls
  pub beside-words : (calls : List Call) (number : ℕ) → Fit (beside c page first calls number)
  beside-words [] number = tt
  beside-words (k ∷ ks) number =
      either (gives_reply first && nat_lt (number + length (k ∷ ks)) (2 ^ 64))
    where
      either : (b : Bool) → Fit (if b then all_beside c page first (k ∷ ks) else nothing_beside)
      either true = all-words (k ∷ ks)
      either false = tt

  -- where there are any, the first word has its reply at once
  pub beside-prompt : (calls : List Call) (number : ℕ)
      → ((beside c page first calls number).calls ≡ []) ⊎ (gives_reply first ≡ true)
  beside-prompt [] number = inl refl
  beside-prompt (k ∷ ks) number =
      either (gives_reply first && nat_lt (number + length (k ∷ ks)) (2 ^ 64)) refl
    where
      either : (b : Bool) → gives_reply first && nat_lt (number + length (k ∷ ks)) (2 ^ 64) ≡ b
          → ((if b then all_beside c page first (k ∷ ks) else nothing_beside).calls ≡ [])
          ⊎ (gives_reply first ≡ true)
      either true is =
          inr (and_parts (gives_reply first) (nat_lt (number + length (k ∷ ks)) (2 ^ 64)) is).0
      either false is = inl refl

  -- the program makes these calls where it makes those
  row-on : (p : Process) (k : Call) (o : Option Word) (ks : List Call) (rest : Beside)
      → AsksRow p (k ∷ ks) → ((q : Process) → AsksRow q ks → AsksRow q rest.calls)
      → AsksRow p (beside_with k o rest).calls
  row-on p k None ks rest h next = tt
  row-on p k (Some w) ks rest h next = (h.0, λ r. next (answered_with p r) (h.1 r))

  all-asks : (calls : List Call) (p : Process) → AsksRow p calls
      → AsksRow p (all_beside c page first calls).calls
  all-asks [] p h = tt
  all-asks (k ∷ ks) p h =
      row-on p k (word_along page first (asked_of c k)) ks (all_beside c page first ks) h
      (λ q. all-asks ks q)

  pub beside-asks : (p : Process) (called : Call) (calls : List Call) (number : ℕ)
      → AsksRow p (called ∷ calls) → AsksRow p (called ∷ (beside c page first calls number).calls)
  beside-asks p called [] number h = (h.0, λ r. tt)
  beside-asks p called (k ∷ ks) number h =
      (h.0, λ r. either (gives_reply first && nat_lt (number + length (k ∷ ks)) (2 ^ 64)) r)
    where
      either : (b : Bool) (r : Reply)
          → AsksRow (answered_with p r)
          (if b then all_beside c page first (k ∷ ks) else nothing_beside).calls
      either true r = all-asks (k ∷ ks) (answered_with p r) (h.1 r)
      either false r = tt
