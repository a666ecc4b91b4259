-- The lines of a text, one after another.
use Rattle.std.proofs.Common.{◌≡◌, ◌∙◌, ◌⊎◌, inl, inr, ⊎_elim, ℕ, suc, zero, ◌+◌, ◌<◌, ◌≤◌, Bool}
use Rattle.std.proofs.Common.{true, false, List, [], ◌∷◌, ◌++◌, Option, Some, None, length, take}
use Rattle.std.proofs.Common.{slice_get, unwrap_or, refl, sym, ap, subst, length-append, arith}
use Rattle.std.proofs.Math.Seq.{take-append_seam}
use Rattle.std.proofs.lemmas.List.{take-append-le}
use Rattle.std.proofs.lemmas.Option.{slice_get_within}
use Rattle.std.proofs.lemmas.Bool.{cases_lt}
use Rattle.ivy_program.specs.declared.line.Line.{Line}
use Rattle.ivy_program.specs.texts.ProgramParts.{Part, joined}
use Rattle.ivy_program.specs.texts.Readings.{Changes, IsLeastOrNone, IsOutOfOrder, IsReadAs, lesser, parts_from, text_parts}
use Rattle.ivy_program.proofs.reading.Least.{least_same, least_join}

-- the lines after others
pub parts_front : (ps : List Part) (n k : ℕ) (ls rest : List (Option Line)) → k ≡ n + length ls
    → parts_from ps n (ls ++ rest) ≡ parts_from (parts_from ps n ls) k rest
parts_front ps n k [] rest e = ap (λ m. parts_from ps m rest) (omega (arith, e))
parts_front ps n k (x ∷ ls) rest e =
    parts_front (unwrap_or (joined ps n x) ps) (n + 1) k ls rest (omega (arith, e))

changed_to : {X : Type 0} (ok : Bool) (old new : X) (o : Option X) → Changes ok old o new
    → unwrap_or o old ≡ new
changed_to true old new o h = ap (λ p. unwrap_or p old) h
changed_to false old new o h = ap (λ p. unwrap_or p old) h.0 ∙ sym h.1

-- the first line out of order, where this one is in order or is not
abbrev pub known : Bool → Option ℕ → ℕ → Option ℕ
known true first n = first
known false first n = Some (lesser first n)

pub get_front : {X : Type 0} (xs ys : List X) (k : ℕ) → k < length xs
    → slice_get (xs ++ ys) k ≡ slice_get xs k
get_front [] ys k l = absurd (omega (arith, l))
get_front (x ∷ xs) ys zero l = refl
get_front (x ∷ xs) ys (suc k) l = get_front xs ys k (omega (arith, l))

-- the lines out of order among those in front, whatever comes after them
pub out_before : (read rest : List (Option Line)) (m : ℕ) → IsOutOfOrder read m
    → IsOutOfOrder (read ++ rest) m
out_before read rest m h =
    let within : h.0 < length read = slice_get_within read h.0 h.2 h.3 in (
      h.0,
      h.1,
      h.2,
      get_front read rest h.0 within ∙ h.3,
      ap (λ ls. joined (text_parts ls) m h.2) (take-append-le h.0 read rest (omega (arith, within)))
          ∙ h.4,
    )

pub out_within : (read rest : List (Option Line)) (m : ℕ) → m ≤ length read
    → IsOutOfOrder (read ++ rest) m → IsOutOfOrder read m
out_within read rest m low h =
    let below : h.0 < length read = omega (arith, low, h.1) in (
      h.0,
      h.1,
      h.2,
      sym (get_front read rest h.0 below) ∙ h.3,
      ap (λ ls. joined (text_parts ls) m h.2)
          (sym (take-append-le h.0 read rest (omega (arith, below)))) ∙ h.4,
    )

get_last : {X : Type 0} (xs : List X) (x : X) → slice_get (xs ++ x ∷ []) (length xs) ≡ Some x
get_last [] x = refl
get_last (y ∷ xs) x = get_last xs x

module _ (read : List (Option Line)) (line : Option Line) (n : ℕ) (next : n ≡ length read + 1)
    (old new : List Part) (first : Option ℕ) (r : IsReadAs read old first) where
  parts_on : (ok : Bool) → Changes ok old (joined old n line) new
      → new ≡ text_parts (read ++ line ∷ [])
  parts_on ok h =
      sym (changed_to ok old new (joined old n line) h)
      ∙ ap (λ ps. unwrap_or (joined ps n line) ps) r.0
      ∙ sym (parts_front [] 1 n read (line ∷ []) (omega (arith, next)))

  -- a line out of order among one line more
  among : (m : ℕ) → IsOutOfOrder (read ++ line ∷ []) m
      → IsOutOfOrder read m ⊎ ((m ≡ n) × (joined old n line ≡ None))
  among m h = ⊎_elim
      (λ below. inl (out_within read (line ∷ []) m (omega (arith, below, h.1)) h))
      (λ past.
      let within : h.0 < length (read ++ line ∷ []) =
      slice_get_within (read ++ line ∷ []) h.0 h.2 h.3 in
      let here : length read ≡ h.0 = omega (arith, past, within, length-append read (line ∷ [])) in
      let number : m ≡ n = omega (arith, h.1, here, next) in
      let same : line ≡ h.2 =
      cc (get_last read line, h.3, ap (slice_get (read ++ line ∷ [])) here) in
      let front : take h.0 (read ++ line ∷ []) ≡ read =
      ap (λ k. take k (read ++ line ∷ [])) (sym here) ∙ take-append_seam read (line ∷ []) in
      inr (
        number,
        ap (λ ps. joined ps n line) r.0
            ∙ (λ i. joined (text_parts (sym front i)) (sym number i) (same i)) ∙ h.4,
      ))
      (cases_lt h.0 (length read))

  now : joined old n line ≡ None → (m : ℕ) → m ≡ n → IsOutOfOrder (read ++ line ∷ []) m
  now h m e = (
    length read,
    e ∙ next,
    line,
    get_last read line,
    ap (λ ls. joined (text_parts ls) m line) (take-append_seam read (line ∷ []))
        ∙ ap (λ k. joined (text_parts read) k line) e ∙ ap (λ ps. joined ps n line) (sym r.0) ∙ h,
  )

  -- one line more is taken in, or is out of order
  pub read_on : (ok : Bool) → Changes ok old (joined old n line) new → (p : Option ℕ)
      → p ≡ known ok first n
      → IsReadAs (read ++ line ∷ []) new p
  read_on true h p q = (
    parts_on true h,
    subst (IsLeastOrNone (IsOutOfOrder (read ++ line ∷ []))) (sym q)
        (least_same (IsOutOfOrder read) (IsOutOfOrder (read ++ line ∷ [])) first r.1
        (out_before read (line ∷ []))
        (λ m k. ⊎_elim (λ a. a) (λ b. absurd (cc (b.1, h))) (among m k))),
  )
  read_on false h p q = (
    parts_on false h,
    subst (IsLeastOrNone (IsOutOfOrder (read ++ line ∷ []))) (sym q)
        (least_join (IsOutOfOrder read) (λ m. m ≡ n) (IsOutOfOrder (read ++ line ∷ [])) n refl
        (λ m k. omega arith)
        (λ m k. ⊎_elim (λ a. inl a) (λ b. inr b.0) (among m k))
        (out_before read (line ∷ [])) (now h.0) first r.1),
  )

-- no line is read yet
pub none_read : (parts : List Part) → parts ≡ [] → IsReadAs [] parts None
none_read parts e = (e, λ n h. absurd (omega (arith, slice_get_within [] h.0 h.2 h.3)))
