-- A post that was not asked, or refused, is as it was, and what a node of the tests keeps with its post.
use Rattle.std.proofs.Common.{◌≡◌, ◌⊎◌, ◌∙◌, ap, inl, inr, Option, Some, None, refl, subst, sym}
use Rattle.std.specs.Prelude.{ℕ, IsSome}
use Rattle.ivy_model.specs.declared.Config.{Config}

pub unposted : {B C X : Type 0} {old new : X} → (B × (new ≡ old)) ⊎ (C × (new ≡ old)) → new ≡ old
unposted (inl grows) = grows.1
unposted (inr refuses) = refuses.1

-- nor is it asked where a call is in progress
pub unasked : {A B C X : Type 0} {old new : X} (a b : Option A) → b ≡ a → (IsSome b → new ≡ old)
    → (b ≡ None → (B × (new ≡ old)) ⊎ (C × (new ≡ old))) → new ≡ old
unasked None b is h k = unposted (k is)
unasked (Some k) b is h other = h (subst IsSome (sym is) refl)

-- a step that keeps configuration and number of a node keeps that its post has the same
pub kept : {X : Type 0} {c d t : Config} {m n : ℕ} {new old : Config × ℕ × X} → c ≡ d → m ≡ n → new ≡ old
    → (d ≡ t) × (old.0 ≡ t) × (old.1 ≡ n) → (c ≡ t) × (new.0 ≡ t) × (new.1 ≡ m)
kept config me post is = (config ∙ is.0, ap (λ p. p.0) post ∙ is.1, ap (λ p. p.1) post ∙ is.2 ∙ sym me)
