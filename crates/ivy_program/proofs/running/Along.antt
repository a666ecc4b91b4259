-- A program makes its next call, and after it those that it makes along with it.
use Rattle.std.proofs.Common.{◌≡◌, ◌≢◌, ◌≤◌, ◌+◌, ◌-◌, ℕ, zero, suc, Bool, true, false, inl, inr, List, [], ◌∷◌, ◌++◌, drop, length, length-append, slice_get, Option, Some, None, refl, sym, ap, ◌∙◌, subst, arith, if◌then◌else◌}
use Rattle.std.specs.Prelude.{All}
use Rattle.std.proofs.lemmas.Bool.{cases_lt, lt-ltb, le-ltb}
use Rattle.std.proofs.lemmas.List.{append_assoc, append-nil}
use Rattle.std.proofs.lemmas.List.Elements.{All-nil, All-cons}
use Rattle.std.proofs.lemmas.Option.{same_Some, none-some}
use Rattle.ivy_model.specs.declared.Call.{Call}
use Rattle.ivy_model.specs.stated.Legal.{HasWidth}
use Rattle.ivy_program.specs.stated.Programs.{Program, Written, Called, calls_in, has_width, HandedFetch}
use Rattle.ivy_program.specs.Programs.{IsCalled}
use Rattle.ivy_program.specs.stated.States.{State, moved_on}
use Rattle.ivy_program.specs.stated.InstructionSteps.{Process, Asks, Ends, step, step_of, called_at, up_to_width, behind, along, along_of, AsksRow}
use Rattle.ivy_program.proofs.reading.Orders.{get_front}
use Rattle.ivy_program.proofs.reading.Widths.{has_width_found}

-- a list in two parts, the first as long as this, of which the second begins with these
record Stands (calls : List Call) (place : ℕ) (next : List Call) : Type 0 where
  front : List Call
  rest : List Call
  is : calls ≡ front ++ (next ++ rest)
  long : length front ≡ place

get_mid : (front rest : List Call) (c : Call) → slice_get (front ++ c ∷ rest) (length front) ≡ Some c
get_mid [] rest c = refl
get_mid (x ∷ xs) rest c = get_mid xs rest c

-- what follows the first place of a list that has something there
stands_in : (row : List Call) (place : ℕ) (c : Call) → slice_get row place ≡ Some c
    → Stands row place (c ∷ drop (place + 1) row)
stands_in [] place c there = absurd (none-some c there)
stands_in (x ∷ xs) zero c there = record {
  front = [];
  rest = [];
  is = ap (λ y. y ∷ xs) (same_Some x c there) ∙ ap (λ ys. c ∷ ys) (sym (append-nil xs));
  long = refl;
}
stands_in (x ∷ xs) (suc place) c there =
    let s = stands_in xs place c there in
    record {
      front = x ∷ s.front;
      rest = s.rest;
      is = ap (λ ys. x ∷ ys) s.is
          ∙ ap (λ k. x ∷ (s.front ++ ((c ∷ drop k (x ∷ xs)) ++ s.rest)))
          (let e : suc (place + 1) ≡ suc place + 1 = omega arith in e);
      long = ap suc s.long;
    }

pub get_back : (row more : List Call) (k : ℕ) → length row ≤ k
    → slice_get (row ++ more) k ≡ slice_get more (k - length row)
get_back [] more k past = ap (slice_get more) (omega arith)
get_back (x ∷ xs) more zero past = absurd (omega (arith, past))
get_back (x ∷ xs) more (suc k) past =
    get_back xs more k (omega (arith, past)) ∙ ap (slice_get more) (omega arith)

behind_stands : (rows : List (List Call)) (place : ℕ) (c : Call)
    → slice_get (calls_in rows) place ≡ Some c → Stands (calls_in rows) place (c ∷ behind rows place)
behind_stands [] place c there = absurd (none-some c there)
behind_stands (row ∷ rows) place c there = elim (cases_lt place (length row)) [
  | inl low ↦ (
      let s = stands_in row place c (sym (get_front row (calls_in rows) place low) ∙ there) in
      subst (λ b. Stands (row ++ calls_in rows) place
      (c ∷ (if b then drop (place + 1) row else behind rows (place - length row))))
      (sym (lt-ltb place (length row) low))
      (record {
        front = s.front;
        rest = s.rest ++ calls_in rows;
        is = ap (λ xs. xs ++ calls_in rows) s.is
            ∙ append_assoc s.front ((c ∷ drop (place + 1) row) ++ s.rest) (calls_in rows)
            ∙ ap (λ xs. s.front ++ xs)
            (append_assoc (c ∷ drop (place + 1) row) s.rest (calls_in rows));
        long = s.long;
      })
      )
  | inr past ↦ (
      let s =
      behind_stands rows (place - length row) c
      (sym (get_back row (calls_in rows) place past) ∙ there) in
      subst (λ b. Stands (row ++ calls_in rows) place
      (c ∷ (if b then drop (place + 1) row else behind rows (place - length row))))
      (sym (le-ltb place (length row) past))
      (record {
        front = row ++ s.front;
        rest = s.rest;
        is = ap (λ xs. row ++ xs) s.is
            ∙ sym (append_assoc row s.front ((c ∷ behind rows (place - length row)) ++ s.rest));
        long = length-append row s.front ∙ ap (λ n. length row + n) s.long ∙ omega (arith, past);
      })
      )
]

-- the call at such a place, and what stands behind it
first_there : (calls : List Call) (place : ℕ) (c : Call) (next : List Call)
    → Stands calls place (c ∷ next) → slice_get calls place ≡ Some c
first_there calls place c next s =
    ap (λ xs. slice_get xs place) s.is
    ∙ ap (slice_get (s.front ++ ((c ∷ next) ++ s.rest))) (sym s.long)
    ∙ get_mid s.front (next ++ s.rest) c

later : (calls : List Call) (place : ℕ) (c : Call) (next : List Call)
    → Stands calls place (c ∷ next) → Stands calls (place + 1) next
later calls place c next s = record {
  front = s.front ++ c ∷ [];
  rest = s.rest;
  is = s.is ∙ sym (append_assoc s.front (c ∷ []) (next ++ s.rest));
  long = length-append s.front (c ∷ []) ∙ ap (λ n. n + 1) s.long;
}

module _ (rows : List (List Call)) where
  pub called_asks : (s : State) (k : Call) (o : Option Call) → slice_get (calls_in rows) s.place ≡ o
      → called_at o ≡ Asks k → o ≡ Some k
  called_asks s k None there asks = absurd (let f : Ends ≡ Asks k = asks in cc)
  called_asks s k (Some c) there asks = either (has_width c) asks
    where
      either : (b : Bool) → (if b then Asks c else Ends) ≡ Asks k → Some c ≡ Some k
      either true is = (let f : Asks c ≡ Asks k = is in let e : c ≡ k = cc in ap Some e)
      either false is = absurd (let f : Ends ≡ Asks k = is in cc)

module _ (fs : List HandedFetch) (rows : List (List Call)) where
  abbrev at : State → Process
  at s = record { program = Called rows fs; state = s }

  asks_on : (next : List Call) (s : State) → Stands (calls_in rows) s.place next
      → AsksRow (at s) (up_to_width next)
  asks_on [] s stands = tt
  asks_on (c ∷ cs) s stands =
      either (has_width c) refl (asks_on cs (moved_on s) (later (calls_in rows) s.place c cs stands))
    where
      either : (b : Bool) → has_width c ≡ b → AsksRow (at (moved_on s)) (up_to_width cs)
          → AsksRow (at s) (if b then c ∷ up_to_width cs else [])
      either false wide next = tt
      either true wide next = (
        ap called_at (first_there (calls_in rows) s.place c cs stands)
            ∙ ap (λ b. if b then Asks c else Ends) wide,
        λ r. next,
      )

  asks_called : (s : State) (k : Call) → step (Called rows fs) s ≡ Asks k
      → AsksRow (at s) (k ∷ up_to_width (behind rows s.place))
  asks_called s k asks =
      let there : slice_get (calls_in rows) s.place ≡ Some k =
      called_asks rows s k (slice_get (calls_in rows) s.place) refl asks in
      let stands = behind_stands rows s.place k there in (
        asks,
        λ r. asks_on (behind rows s.place) (moved_on s)
            (later (calls_in rows) s.place k (behind rows s.place) stands),
      )

-- what a program makes along with its next call, it makes after it
pub asks_along : (p : Process) (k : Call) → step_of p ≡ Asks k → AsksRow p (k ∷ along_of p)
asks_along p k asks = at p.program refl asks
  where
    at : (q : Program) → p.program ≡ q → step q p.state ≡ Asks k
        → AsksRow (record { program = q; state = p.state }) (k ∷ along q p.state)
    at (Written is) same asks = (asks, λ r. tt)
    at (Called rows fs) same asks = asks_called fs rows p.state k asks

-- own code alone makes calls along with another
pub along_called : (p : Program) (s : State) → along p s ≢ [] → IsCalled p
along_called (Written is) s more = absurd (more refl)
along_called (Called rows fs) s more = tt

-- with widths that a word can have
wide : (calls : List Call) → All HasWidth (up_to_width calls)
wide [] = All-nil HasWidth
wide (c ∷ cs) = either (has_width c) refl (wide cs)
  where
    either : (b : Bool) → has_width c ≡ b → All HasWidth (up_to_width cs)
        → All HasWidth (if b then c ∷ up_to_width cs else [])
    either true is rest = All-cons HasWidth c (up_to_width cs) (has_width_found c is) rest
    either false is rest = All-nil HasWidth

pub along_wide : (p : Process) → All HasWidth (along_of p)
along_wide p = at p.program
  where
    at : (q : Program) → All HasWidth (along q p.state)
    at (Written is) = All-nil HasWidth
    at (Called rows fs) = wide (behind rows p.state.place)
