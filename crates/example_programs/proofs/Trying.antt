-- A node that tries to enter.
use Rattle.std.proofs.Common.{◌≡◌, ◌≢◌, ℕ, ◌+◌, ◌-◌, ◌^◌, ◌<◌, inl, List, [], ◌∷◌, ◌++◌, refl, ap}
use Rattle.std.proofs.Common.{append_assoc, ◌∙◌}
use Rattle.std.specs.List.{AllByRecursion as Each}
use Rattle.ivy_calls.specs.declared.answer.Answer.{Answer}
use Rattle.ivy_sync.specs.Doing.{loads, stores}
use Rattle.ivy_sync.proofs.answers.Lists.{All-both}
use Rattle.example_programs.specs.declared.peterson.Peterson.{Peterson}
use Rattle.example_programs.specs.declared.peterson.TwoCount.{TwoCount}
use Rattle.example_programs.specs.Adding.{AddsSome}
use Rattle.example_programs.specs.Peterson.{wish_of, IsTry, LetsIn, IsEntry, IsRound}

-- it has said that it wants to, let the other one go first, and tried in vain so far
pub record HasTried (lock : Peterson) (me : ℕ) (old new : List Answer) : Type 0 where
  pub tries : List Answer
  pub each : Each (IsTry lock me) tries
  pub whole : new ≡ old ++ (stores (wish_of lock me) 1 ∷ stores lock.turn (1 - me) ∷ tries)

-- it begins
pub begins : (lock : Peterson) (me : ℕ) (old mid new : List Answer)
    → mid ≡ old ++ stores (wish_of lock me) 1 ∷ [] → new ≡ mid ++ stores lock.turn (1 - me) ∷ []
    → HasTried lock me old new
begins lock me old mid new first second = record {
  tries = [];
  each = tt;
  whole =
      second ∙ ap (λ (l : List Answer). l ++ stores lock.turn (1 - me) ∷ []) first
      ∙ append_assoc old (stores (wish_of lock me) 1 ∷ []) (stores lock.turn (1 - me) ∷ []);
}

-- one try more
pub tries_on : (lock : Peterson) (me : ℕ) (r : Answer) (old mid new : List Answer)
    → HasTried lock me old mid → IsTry lock me r → new ≡ mid ++ r ∷ [] → HasTried lock me old new
tries_on lock me r old mid new h try more = record {
  tries = h.tries ++ r ∷ [];
  each = All-both (IsTry lock me) h.tries (r ∷ []) h.each (try, tt);
  whole =
      more ∙ ap (λ (l : List Answer). l ++ r ∷ []) h.whole
      ∙ append_assoc old (stores (wish_of lock me) 1 ∷ stores lock.turn (1 - me) ∷ h.tries)
      (r ∷ []);
}

-- the other node was found to want to enter
pub tries_wish : (lock : Peterson) (me at wish : ℕ) (old mid new : List Answer)
    → HasTried lock me old mid → at ≡ wish_of lock (1 - me) → wish ≢ 0
    → new ≡ mid ++ loads at wish ∷ [] → HasTried lock me old new
tries_wish lock me at wish old mid new h is wants more =
    tries_on lock me (loads at wish) old mid new h (inl (wish, wants, ap (λ (x : ℕ). loads x wish) is))
    more

-- and it is let in
pub is_let_in : (lock : Peterson) (me : ℕ) (r : Answer) (old mid new : List Answer)
    → HasTried lock me old mid → LetsIn lock me r → new ≡ mid ++ r ∷ []
    → AddsSome (IsEntry lock me) old new
is_let_in lock me r old mid new h lets_in more = record {
  added = (stores (wish_of lock me) 1 ∷ stores lock.turn (1 - me) ∷ h.tries) ++ r ∷ [];
  are = record {
    tries = h.tries;
    each = h.each;
    last = r;
    lets_in = lets_in;
    whole = refl;
  };
  whole =
      more ∙ ap (λ (l : List Answer). l ++ r ∷ []) h.whole
      ∙ append_assoc old (stores (wish_of lock me) 1 ∷ stores lock.turn (1 - me) ∷ h.tries)
      (r ∷ []);
}

-- a round: it enters, adds 1, and leaves
pub adds_round : (work : TwoCount) (me sum : ℕ) (old inside loaded stored new : List Answer)
    → AddsSome (IsEntry work.lock me) old inside → loaded ≡ inside ++ loads work.sum sum ∷ []
    → sum + 1 < 2 ^ 64 → stored ≡ loaded ++ stores work.sum (sum + 1) ∷ []
    → new ≡ stored ++ stores (wish_of work.lock me) 0 ∷ [] → AddsSome (IsRound work me) old new
adds_round work me sum old inside loaded stored new h load fits store leave = record {
  added =
      h.added
      ++ (loads work.sum sum ∷ stores work.sum (sum + 1) ∷ stores (wish_of work.lock me) 0 ∷ []);
  are = record { entry = h.added; entered = h.are; sum = sum; fits = fits; whole = refl };
  whole =
      leave ∙ ap (λ (l : List Answer). l ++ stores (wish_of work.lock me) 0 ∷ []) store
      ∙ ap (λ (l : List Answer). (l ++ stores work.sum (sum + 1) ∷ [])
      ++ stores (wish_of work.lock me) 0 ∷ []) load
      ∙ append_assoc (inside ++ loads work.sum sum ∷ []) (stores work.sum (sum + 1) ∷ [])
      (stores (wish_of work.lock me) 0 ∷ [])
      ∙ append_assoc inside (loads work.sum sum ∷ [])
      (stores work.sum (sum + 1) ∷ stores (wish_of work.lock me) 0 ∷ [])
      ∙ ap (λ (l : List Answer). l
      ++ (loads work.sum sum ∷ stores work.sum (sum + 1) ∷ stores (wish_of work.lock me) 0 ∷ []))
      h.whole
      ∙ append_assoc old h.added
      (loads work.sum sum ∷ stores work.sum (sum + 1) ∷ stores (wish_of work.lock me) 0 ∷ []);
}
