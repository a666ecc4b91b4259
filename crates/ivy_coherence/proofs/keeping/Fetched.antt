-- Pages that are fetched, without one; whether a word waits at a page, or it was fetched.
use Rattle.std.proofs.Common.{◌≡◌, ◌≢◌, ℕ, zero, suc, ◌≤◌, inl, inr, true, false, not, cond, List, [], ◌∷◌, length, Option, Some, None, refl, sym, ap, ◌∙◌, subst, eqb, arith, if◌then◌else◌}
use Rattle.std.specs.List.{Contains}
use Rattle.std.proofs.lemmas.Bool.{cases_Bool, eqb-true, eqb-false, eq-eqb, ne_eqb}
use Rattle.ivy_pagetable.specs.declared.Request.{Request}
use Rattle.ivy_pagetable.specs.stated.States.{IdleState, WaitingState}
use Rattle.ivy_pagetable.specs.stated.Manager.{Ops}
use Rattle.ivy_coherence.specs.stated.Coherent.{Coherent}
use Rattle.ivy_coherence.specs.stated.Fetching.{without_page, waits_at}
use Rattle.ivy_coherence.specs.stated.MessageSteps.{CoherenceEffect, word_unlocked, fetch_unlocked, unlocked}

among_more : (q : ℕ) (qs : List ℕ) (p : ℕ) → Contains qs p → Contains (q ∷ qs) p
among_more q qs p h = (suc h.0, omega (arith, h.1), h.2)

kept_in : (page q : ℕ) (qs : List ℕ) (p : ℕ) → q ≢ page
    → (Contains (without_page page qs) p → (p ≢ page) × Contains qs p)
    → Contains (q ∷ without_page page qs) p → (p ≢ page) × Contains (q ∷ qs) p
kept_in page q qs p other rest (zero, lt, is) = ((λ e. other (is ∙ e)), (zero, omega arith, is))
kept_in page q qs p other rest (suc k, lt, is) =
    let h : (p ≢ page) × Contains qs p = rest (k, omega (arith, lt), is) in
    (h.0, among_more q qs p h.1)

-- who is left was there, and is another
pub left_in : (page : ℕ) (ps : List ℕ) (p : ℕ) → Contains (without_page page ps) p
    → (p ≢ page) × Contains ps p
left_in page [] p h = absurd (omega (arith, h.1))
left_in page (q ∷ qs) p h =
    elim (cases_Bool (eqb q page)) [
      | inl y ↦
          let rest : (p ≢ page) × Contains qs p = left_in page qs p
          (subst (λ b. Contains (cond (not b) (q ∷ without_page page qs) (without_page page qs)) p) y h) in
          (rest.0, among_more q qs p rest.1)
      | inr n ↦
          kept_in page q qs p (eqb-false q page n) (left_in page qs p)
          (subst (λ b. Contains (cond (not b) (q ∷ without_page page qs) (without_page page qs)) p) n h)
    ]

-- who was there and is another is left
pub stays_in : (page : ℕ) (ps : List ℕ) (p : ℕ) → Contains ps p → p ≢ page
    → Contains (without_page page ps) p
stays_in page [] p h other = absurd (omega (arith, h.1))
stays_in page (q ∷ qs) p (zero, lt, is) other =
    subst (λ b. Contains (cond (not b) (q ∷ without_page page qs) (without_page page qs)) p)
    (sym (ne_eqb q page (λ e. other (sym is ∙ e)))) (zero, omega arith, is)
stays_in page (q ∷ qs) p (suc k, lt, is) other =
    let rest : Contains (without_page page qs) p = stays_in page qs p (k, omega (arith, lt), is) other in
    elim (eqb q page) as (λ b. Contains (cond (not b) (q ∷ without_page page qs) (without_page page qs)) p) [
      | true ↦ rest
      | false ↦ among_more q (without_page page qs) p rest
    ]

-- they are no more
pub fewer_without : (page : ℕ) (ps : List ℕ) → length (without_page page ps) ≤ length ps
fewer_without page [] = omega arith
fewer_without page (q ∷ qs) =
    let rest : length (without_page page qs) ≤ length qs = fewer_without page qs in
    elim (eqb q page) as (λ b. length (cond (not b) (q ∷ without_page page qs) (without_page page qs))
    ≤ length (q ∷ qs)) [
      | true ↦ omega (arith, rest)
      | false ↦ omega (arith, rest)
    ]

-- whether a word waits there
pub waits_there : (lock : Option ℕ) (page : ℕ) → waits_at lock page ≡ true → lock ≡ Some page
waits_there None page h = absurd cc
waits_there (Some p) page h = ap Some (eqb-true p page h)

pub waits_elsewhere : (lock : Option ℕ) (page : ℕ) → waits_at lock page ≡ false
    → lock ≢ Some page
waits_elsewhere None page h e = absurd cc
waits_elsewhere (Some p) page h e =
    eqb-false p page h (let f : Some p ≡ Some page = e in cc)

pub waits_here : (lock : Option ℕ) (page : ℕ) → lock ≡ Some page → waits_at lock page ≡ true
waits_here None page h = absurd cc
waits_here (Some p) page h = eq-eqb p page (let f : Some p ≡ Some page = h in cc)

pub waits_not : (lock : Option ℕ) (page : ℕ) → lock ≢ Some page → waits_at lock page ≡ false
waits_not None page h = refl
waits_not (Some p) page h = ne_eqb p page (λ e. h (ap Some e))

-- what holds where a word waited, and where the page was fetched, holds of what comes
module _ {S : Type 0} (ops : Ops S) (P : CoherenceEffect S → Type 0) where
  pub unlocked_by : (c : Coherent S) (from page : ℕ) (i : IdleState) (reply : Option Request)
      (bytes : List ℕ) (w : WaitingState)
      → (c.locked ≡ Some page → P (word_unlocked ops c from page i reply bytes w))
      → (c.locked ≢ Some page → P (fetch_unlocked ops c from page i reply bytes w))
      → P (unlocked ops c from page i reply bytes w)
  unlocked_by c from page i reply bytes w word fetch =
      elim (cases_Bool (waits_at c.locked page)) [
        | inl y ↦
            subst (λ b. P (if b then word_unlocked ops c from page i reply bytes w
            else fetch_unlocked ops c from page i reply bytes w)) (sym y)
            (word (waits_there c.locked page y))
        | inr n ↦
            subst (λ b. P (if b then word_unlocked ops c from page i reply bytes w
            else fetch_unlocked ops c from page i reply bytes w)) (sym n)
            (fetch (waits_elsewhere c.locked page n))
      ]

-- the same, by equations
module _ {S : Type 0} (ops : Ops S) (c : Coherent S) (from page : ℕ) (i : IdleState)
    (reply : Option Request) (bytes : List ℕ) (w : WaitingState) where
  pub unlocks_word : c.locked ≡ Some page
      → unlocked ops c from page i reply bytes w ≡ word_unlocked ops c from page i reply bytes w
  unlocks_word here =
      ap (λ b. if b then word_unlocked ops c from page i reply bytes w
      else fetch_unlocked ops c from page i reply bytes w) (waits_here c.locked page here)

  pub unlocks_fetched : c.locked ≢ Some page
      → unlocked ops c from page i reply bytes w ≡ fetch_unlocked ops c from page i reply bytes w
  unlocks_fetched elsewhere =
      ap (λ b. if b then word_unlocked ops c from page i reply bytes w
      else fetch_unlocked ops c from page i reply bytes w) (waits_not c.locked page elsewhere)
