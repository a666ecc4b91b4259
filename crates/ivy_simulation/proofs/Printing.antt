-- What is printed of one node after another.
use Rattle.std.proofs.Common.{◌≡◌, ℕ, ◌+◌, ◌<◌, ◌≤◌, ◌↔◌, Bool, true, false, IsTrue, IfSome, inl}
use Rattle.std.proofs.Common.{inr, List, [], ◌∷◌, ◌++◌, length, take, slice_get, Option, Some}
use Rattle.std.proofs.Common.{ap, sym, subst, ◌∙◌, refl, arith, append-nil, add-zero, zero-add}
use Rattle.std.proofs.Common.{append_assoc}
use Rattle.std.proofs.lemmas.List.{length-take-le}
use Rattle.std.proofs.lemmas.Option.{slice_get_within, slice_get_cases}
use Rattle.ivy_program.specs.stated.InstructionSteps.{Step, Local, Asks, Ends}
use Rattle.std.specs.Io.KnownBytes.{Appends}
use Rattle.ivy_texts.proofs.Printing.{appends-more, taken_more}
use Rattle.ivy_simulation.specs.Played.{Adds, AddsLast}
use Rattle.ivy_simulation.specs.Nodes.{numbered_texts, is_end}

numbered-snoc : {X : Type 0} (text : ℕ → X → List ℕ) (from : ℕ) (xs : List X) (x : X)
    → numbered_texts text from (xs ++ x ∷ [])
    ≡ numbered_texts text from xs ++ text (from + length xs) x
numbered-snoc text from [] x = append-nil (text from x) ∙ ap (λ k. text k x) (sym (add-zero from))
numbered-snoc text from (y ∷ ys) x =
    let place : from + 1 + length ys ≡ from + length (y ∷ ys) = omega arith in
    ap (λ (t : List ℕ). text from y ++ t) (numbered-snoc text (from + 1) ys x)
    ∙ sym (append_assoc (text from y) (numbered_texts text (from + 1) ys)
    (text (from + 1 + length ys) x))
    ∙ ap (λ k. text from y ++ numbered_texts text (from + 1) ys ++ text k x) place

pub numbered-more : {X : Type 0} (text : ℕ → X → List ℕ) (xs : List X) (i : ℕ) (x : X)
    → slice_get xs i ≡ Some x
    → numbered_texts text 0 (take (i + 1) xs) ≡ numbered_texts text 0 (take i xs) ++ text i x
numbered-more text xs i x there =
    let within : i + 1 ≤ length xs = omega (arith, slice_get_within xs i x there) in
    let place : 0 + length (take i xs) ≡ i =
    zero-add _ ∙ length-take-le i xs (omega (arith, within)) in
    ap (numbered_texts text 0) (taken_more xs i x there) ∙ numbered-snoc text 0 (take i xs) x
    ∙ ap (λ k. numbered_texts text 0 (take i xs) ++ text k x) place

-- a loop over the places of a list has shown the item of one more place
pub numbered-next : {X A : Type 0} (text : ℕ → A → List ℕ) (view : X → A) (Told : X → Type 0)
    (xs : List X) (i : ℕ) (shown : A) → i < length xs → ((x : X) → Told x → shown ≡ view x)
    → IfSome (slice_get xs i) Told
    → numbered_texts (λ k x. text k (view x)) 0 (take (i + 1) xs)
    ≡ numbered_texts (λ k x. text k (view x)) 0 (take i xs) ++ text i shown
numbered-next {X} text view Told xs i shown within same told =
    elim (slice_get_cases xs i).1 [
      | inl p ↦
          let is : Told p.0 = subst (λ (o : Option X). IfSome o Told) p.2 told in
          numbered-more (λ k x. text k (view x)) xs i p.0 p.2
          ∙ ap (λ a. numbered_texts (λ k x. text k (view x)) 0 (take i xs) ++ text i a)
          (sym (same p.0 is))
      | inr q ↦ absurd (omega (arith, within, q.0))
    ]

-- what a node is asked is whether its program has ended
pub told-end : (b : Bool) (s : Step) → (IsTrue b ↔ (s ≡ Ends)) → b ≡ is_end s
told-end true s h = sym (ap is_end (h.0 refl))
told-end false (Local x) h = refl
told-end false (Asks call) h = refl
told-end false Ends h = h.1 refl

pub adds-more : (a b c : Option (List ℕ)) (xs : List ℕ) → Adds a b → Appends b c xs → Adds a c
adds-more a b c xs h k = (h.0 ++ xs, appends-more a b c h.0 xs h.1 k)

pub adds-on : (a b c : Option (List ℕ)) → Adds a b → Adds b c → Adds a c
adds-on a b c h k = adds-more a b c k.0 h k.1

pub adds-last : (a b c : Option (List ℕ)) (xs : List ℕ) → Adds a b → Appends b c xs
    → AddsLast a c xs
adds-last a b c xs h k = (h.0, appends-more a b c h.0 xs h.1 k)
