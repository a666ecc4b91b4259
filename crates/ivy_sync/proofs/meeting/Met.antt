-- What a node did that met the others, from what it did first and last.
use Rattle.std.proofs.Common.{◌≡◌, ℕ, List, [], ◌∷◌, ◌++◌, refl, ap, ◌∙◌, append_assoc}
use Rattle.ivy_calls.specs.declared.answer.Answer.{Answer}
use Rattle.ivy_sync.specs.Doing.{draws}
use Rattle.ivy_sync.specs.meeting.WordBarriers.{AddsMeeting, AddsPassage}

-- a number was drawn, and then the barrier passed
pub meeting_of : (a b least drawn : ℕ) (old mid new : List Answer) → mid ≡ old ++ draws a drawn ∷ []
    → AddsPassage b least drawn mid new → AddsMeeting a b least old new
meeting_of a b least drawn old mid new drew w = record {
  during = draws a drawn ∷ w.passage;
  meets = record { drawn = drawn; passage = w.passage; passes = w.passes; whole = refl };
  whole = w.whole ∙ ap (λ (l : List Answer). l ++ w.passage) drew
      ∙ append_assoc old (draws a drawn ∷ []) w.passage;
}
