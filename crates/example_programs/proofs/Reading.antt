-- A node at a lock for readers or a writer.
use Rattle.std.proofs.Common.{◌≡◌, ℕ, List, [], ◌∷◌, ◌++◌, refl, ap, ◌∙◌, append_assoc}
use Rattle.ivy_calls.specs.declared.answer.Answer.{Answer}
use Rattle.ivy_sync.specs.Doing.{stores}
use Rattle.example_programs.specs.Adding.{AddsSome}
use Rattle.example_programs.specs.Readers.{Counts, Takes}

-- it took the word, and left a number there
pub counts_on : (a : ℕ) (made : ℕ → ℕ) (readers : ℕ) (old mid new : List Answer)
    → AddsSome (Takes a readers) old mid → new ≡ mid ++ stores a (made readers) ∷ []
    → AddsSome (Counts a made) old new
counts_on a made readers old mid new h more = record {
  added = h.added ++ stores a (made readers) ∷ [];
  are = record { readers = readers; got = h.added; takes = h.are; whole = refl };
  whole =
      more ∙ ap (λ (l : List Answer). l ++ stores a (made readers) ∷ []) h.whole
      ∙ append_assoc old h.added (stores a (made readers) ∷ []);
}
