-- Looks at a word, so far in vain.
use Rattle.std.proofs.Common.{◌≡◌, ℕ, ◌+◌, ◌<◌, ◌≤◌, List, [], ◌∷◌, ◌++◌, refl, sym, ap, ◌∙◌}
use Rattle.std.proofs.Common.{append_assoc, append-nil, length-append, arith}
use Rattle.ivy_calls.specs.declared.answer.Answer.{Answer}
use Rattle.ivy_sync.specs.Doing.{AddsLooks, LooksInVain, loads}
use Rattle.ivy_sync.specs.Failing.{HasLooked}
use Rattle.ivy_sync.proofs.answers.Lists.{All-both}

pub looked_none : (a least : ℕ) (old : List Answer) → HasLooked a least 0 old old
looked_none a least old =
    record { vain = []; each = tt; number = refl; whole = sym (append-nil old) }

-- one more, after which it rests
pub looked_more : (a least n found : ℕ) (old mid new later : List Answer) → HasLooked a least n old mid
    → found < least → new ≡ mid ++ loads a found ∷ [] → later ≡ new → HasLooked a least (n + 1) old later
looked_more a least n found old mid new later w less adds same =
    let one : LooksInVain a least (loads a found) =
    record { found = found; is = refl; less = less } in
    let long = w.number in
    let more = length-append w.vain (loads a found ∷ []) in
    record {
      vain = w.vain ++ loads a found ∷ [];
      each = All-both (LooksInVain a least) w.vain (loads a found ∷ []) w.each (one, tt);
      number = omega (arith, more, long);
      whole =
          same ∙ adds ∙ ap (λ (rs : List Answer). rs ++ loads a found ∷ []) w.whole
          ∙ append_assoc old w.vain (loads a found ∷ []);
    }

-- and the one that finds enough
pub looks_so : (a least n found : ℕ) (old mid new : List Answer) → HasLooked a least n old mid
    → least ≤ found → new ≡ mid ++ loads a found ∷ [] → AddsLooks a least old new
looks_so a least n found old mid new w enough adds =
    record {
      looks = w.vain ++ loads a found ∷ [];
      until = record { vain = w.vain; each = w.each; found = found; enough = enough; whole = refl };
      whole =
          adds ∙ ap (λ (rs : List Answer). rs ++ loads a found ∷ []) w.whole
          ∙ append_assoc old w.vain (loads a found ∷ []);
    }
