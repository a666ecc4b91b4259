-- Sums that grow by one number, instruction or program after another.
use Rattle.std.proofs.Common.{◌≡◌, ℕ, ◌+◌, ◌<◌, List, fold, length, take, get_or, sym, ap, ◌∙◌}
use Rattle.std.proofs.lemmas.List.Sums.{fold_more}

-- one more
pub folded : {X : Type 0} (f : ℕ → X → ℕ) (a total new : ℕ) (xs : List X) (i : ℕ) (x : X) → i < length xs
    → x ≡ get_or xs i x → total ≡ fold f a (take i xs) → new ≡ f total x → new ≡ fold f a (take (i + 1) xs)
folded f a total new xs i x below there before is =
    is ∙ ap (λ t. f t x) before ∙ ap (f (fold f a (take i xs))) there ∙ sym (fold_more f a xs i x below)
