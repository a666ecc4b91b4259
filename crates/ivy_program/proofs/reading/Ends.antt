-- A text that ends with a byte, and the end of a line.
use Rattle.std.proofs.Common.{◌≡◌, ◌≢◌, ◌∙◌, ℕ, ◌+◌, ◌-◌, ◌<◌, eqb, true, false, cond, List, []}
use Rattle.std.proofs.Common.{◌∷◌, ◌++◌, Option, Some, None, Bor, unwrap_or, length, take, get_or}
use Rattle.std.proofs.Common.{refl, sym, ap, length-append, arith}
use Rattle.std.specs.Option.{MatchOption}
use Rattle.std.specs.Str.Lines.{strip_carriage_return}
use borrow.Author.Tests.{ne_eqb, eq-eqb}
use Rattle.std.proofs.lemmas.List.{take_more, take_at, take_all, get_or_at}
use Rattle.ivy_program.specs.texts.TextWords.{without_end}

not_empty : (l : List ℕ) (n : ℕ) → 0 < get_or l n 0 → 0 < length l
not_empty [] n h = h
not_empty (x ∷ l) n h = omega arith

module _ (c : ℕ) (some : 0 < c) (bs : List ℕ) where
  before : (x : List ℕ) → bs ≡ x ++ (c ∷ []) → length bs - 1 ≡ length x
  before x e = omega (arith, ap length e, length-append x (c ∷ []))

  -- the text without the byte at its end
  front : (x : List ℕ) → bs ≡ x ++ (c ∷ []) → take (length bs - 1) bs ≡ x
  front x e =
      ap (λ n. take n bs) (before x e) ∙ ap (take (length x)) e ∙ take_at x (c ∷ []) (length x) refl

  ends : (x : List ℕ) → bs ≡ x ++ (c ∷ []) → eqb (get_or bs (length bs - 1) 0) c ≡ true
  ends x e =
      let last : get_or bs (length bs - 1) 0 ≡ c =
      ap (λ n. get_or bs n 0) (before x e) ∙ ap (λ l. get_or l (length x) 0) e
      ∙ get_or_at x c [] 0 (length x) refl in
      eq-eqb (get_or bs (length bs - 1) 0) c last

  whole : 0 < length bs → get_or bs (length bs - 1) 0 ≡ c → bs ≡ take (length bs - 1) bs ++ (c ∷ [])
  whole l e =
      let n : length bs - 1 + 1 ≡ length bs = omega arith in
      sym (take_all (length bs) bs (omega arith)) ∙ ap (λ k. take k bs) (sym n)
      ∙ take_more bs (length bs - 1) 0 (omega arith)
      ∙ ap (λ d. take (length bs - 1) bs ++ (d ∷ [])) e

  other : ((x : List ℕ) → bs ≢ x ++ (c ∷ [])) → eqb (get_or bs (length bs - 1) 0) c ≡ false
  other h = ne_eqb (get_or bs (length bs - 1) 0) c
      (λ e. h (take (length bs - 1) bs)
      (whole (not_empty bs (length bs - 1) (omega (arith, e, some))) e))

-- a line without the CR at its end
pub return_stripped : (o : Option (Bor (List ℕ))) (line : Bor (List ℕ))
    → MatchOption o ((x : List ℕ) → line.now ≢ x ++ (13 ∷ [])) (λ x. line.now ≡ x.now ++ (13 ∷ []))
    → (unwrap_or o line).now ≡ strip_carriage_return line.now
return_stripped None line h =
    sym (ap (λ b. cond b (take (length line.now - 1) line.now) line.now)
    (other 13 (omega arith) line.now h))
return_stripped (Some x) line h =
    sym (ap (λ b. cond b (take (length line.now - 1) line.now) line.now)
    (ends 13 (omega arith) line.now x.now h)
    ∙ front 13 (omega arith) line.now x.now h)

-- a line with an LF at its end
pub without_end-ended : (line x : List ℕ) → line ≡ x ++ (10 ∷ [])
    → without_end line ≡ strip_carriage_return x
without_end-ended line x h =
    ap (λ b. cond b (strip_carriage_return (take (length line - 1) line)) line)
    (ends 10 (omega arith) line x h)
    ∙ ap strip_carriage_return (front 10 (omega arith) line x h)

-- a line with none
pub without_end-other : (line : List ℕ) → ((x : List ℕ) → line ≢ x ++ (10 ∷ []))
    → without_end line ≡ line
without_end-other line h =
    ap (λ b. cond b (strip_carriage_return (take (length line - 1) line)) line)
    (other 10 (omega arith) line h)
