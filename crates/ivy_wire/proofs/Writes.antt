-- What stands in a slice after writes to its ends.
use Rattle.std.proofs.Common.{◌≡◌, ◌∙◌, ℕ, ◌-◌, ◌≤◌, List, [], ◌∷◌, ◌++◌, length, take, drop, sym, ap, refl, append_assoc, append-nil, length-drop, arith}
use Rattle.std.proofs.Math.ListN.{set}
use Rattle.std.proofs.lemmas.List.{take_at, drop_at, take_all, drop_all}
use borrow.Rule.Slice.PartMut.{put_mid}

-- a text is written behind a front, over the first bytes of the rest
pub one_write : (a n : ℕ) (front xs rest ys text : List ℕ) → xs ≡ front ++ rest
    → length front ≡ a → ys ≡ text ++ drop n (take (length xs - a) (drop a xs))
    → put_mid a (length xs - a) xs ys ≡ (front ++ text) ++ drop n rest
one_write a n front xs rest ys text whole long written =
    let before : take a xs ≡ front = ap (take a) whole ∙ take_at front rest a long in
    let behind : drop a xs ≡ rest = ap (drop a) whole ∙ drop_at front rest a long in
    let all : take (length xs - a) (drop a xs) ≡ rest =
    take_all (length xs - a) (drop a xs) (omega (arith, length-drop a xs)) ∙ behind in
    let none : drop (length xs - a) (drop a xs) ≡ [] =
    drop_all (length xs - a) (drop a xs) (omega (arith, length-drop a xs)) in
    ap (λ (t : List ℕ). t ++ (ys ++ drop (length xs - a) (drop a xs))) before
    ∙ ap (λ (t : List ℕ). front ++ (ys ++ t)) none
    ∙ ap (λ (t : List ℕ). front ++ t) (append-nil ys ∙ written ∙ ap (λ (t : List ℕ). text ++ drop n t) all)
    ∙ sym (append_assoc front text (drop n rest))

-- the first byte is written
pub first_write : (xs : List ℕ) (b : ℕ) → 1 ≤ length xs
    → set xs 0 b ≡ (b ∷ []) ++ drop 1 xs
first_write [] b some = absurd (omega arith)
first_write (x ∷ xs) b some = refl
