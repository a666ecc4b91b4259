-- Strings that a site sent, one after another.
use Rattle.std.proofs.Common.{◌≡◌, ℕ, zero, suc, List, [], ◌∷◌, Contains, subst, inl, inr, arith}
use Rattle.std.proofs.lemmas.List.Elements.{Contains-append_left, Contains-append_cases}
use Rattle.ivy_site.specs.SiteView.{SiteView}
use Rattle.ivy_site.specs.Sites.{IsSentBy}
use Rattle.ivy_join.specs.ReplaySites.{Sends, AddsOne, AddsSent}

-- whatever waits at it
pub sent_here : (s first : SiteView) (b : List ℕ)
    → record s { waiting = [] } ≡ record first { waiting = [] } → IsSentBy s b → Sends first b
sent_here s first b same by =
    let here : Sends (record s { waiting = [] }) b = (by.made.effect, by.made.happen, by.sent) in
    subst (λ (x : SiteView). Sends x b) same here

single : (b x : List ℕ) → Contains (b ∷ []) x → b ≡ x
single b x (zero, below, is) = is
single b x (suc i, below, is) = absurd (omega (arith, below))

pub kept-one : (now new : List (List ℕ)) (b x : List ℕ) → AddsOne b now new → Contains now x
    → Contains new x
kept-one now new b x (inl same) there = rw same there
kept-one now new b x (inr more) there = rw more (Contains-append_left now (b ∷ []) x there)

pub adds-one : (first : SiteView) (old now new : List (List ℕ)) (b : List ℕ) → AddsSent first old now
    → AddsOne b now new → Sends first b → AddsSent first old new
adds-one first old now new b before (inl same) by =
    λ x there. before x (subst (λ l. Contains l x) same there)
adds-one first old now new b before (inr more) by =
    λ x there. elim (Contains-append_cases now (b ∷ []) x (subst (λ l. Contains l x) more there)) [
      | inl was ↦ before x was
      | inr own ↦ inr (subst (Sends first) (single b x own) by)
    ]
