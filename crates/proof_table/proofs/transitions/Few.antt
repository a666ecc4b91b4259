-- Of each other node at most one message is put off at an entry, so there is always room for one
-- more.
use Rattle.std.proofs.Common.{◌≡◌, ◌≢◌, ◌<◌, ◌≤◌, ℕ, zero, suc, Bool, length, slice_get, Some, refl, sym, ap, ◌∙◌, subst, inl, inr, arith, if◌then◌else◌, ◌==◌, get_or}
use Rattle.std.proofs.lemmas.Bool.{cases_eq, eq-eqb, ne_eqb}
use Rattle.std.proofs.lemmas.List.{get_or_past}
use Rattle.std.proofs.lemmas.Option.{slice_get-get_or}
use Rattle.ivy_model.specs.declared.Config.{Config}
use Rattle.ivy_pagetable.specs.declared.Entry.{Entry}
use Rattle.ivy_pagetable.specs.declared.Entry.TheVariants as entry
use Rattle.ivy_pagetable.specs.declared.PutOff.{PutOff}
use Rattle.ivy_pagetable.specs.declared.Request.{Request}
use Rattle.ivy_pagetable.specs.declared.Request.TheVariants as request
use Rattle.ivy_pagetable.specs.stated.Entries.{put_offs}
use Rattle.proof_table.specs.stated.Letters.{Net, Aside, IsAt, content_of, letter_of}
use Rattle.proof_table.specs.stated.Orderly.{AwaitsCopy, AwaitsPage, Collects, key_of, IsExpectedAs, IsOrderly}
use Rattle.proof_table.specs.transitions.TableSteps.{letter}
use Rattle.proof_table.proofs.transitions.Needs.{Needs}

-- of the first numbers, each goes to another one below n
pub record IsApart (l n : ℕ) (f : ℕ → ℕ) : Type 0 where
  pub below : (k : ℕ) → k < l → f k < n
  pub apart : (k j : ℕ) → k < l → j < l → f k ≡ f j → k ≡ j

abbrev instead : ℕ → ℕ → (ℕ → ℕ) → ℕ → ℕ
instead top other f k = if f k == top then other else f k

instead-top : (top other : ℕ) (f : ℕ → ℕ) (k : ℕ) → f k ≡ top → instead top other f k ≡ other
instead-top top other f k h = ap (λ (b : Bool). if b then other else f k) (eq-eqb (f k) top h)

instead-other : (top other : ℕ) (f : ℕ → ℕ) (k : ℕ) → f k ≢ top → instead top other f k ≡ f k
instead-other top other f k h = ap (λ (b : Bool). if b then other else f k) (ne_eqb (f k) top h)

-- the last takes the place of that which went to the top
one_less : (l n : ℕ) (f : ℕ → ℕ) → IsApart (suc l) (suc n) f → IsApart l n (instead n (f l) f)
one_less l n f a = record {
  below = λ k lt. elim (cases_eq (f k) n) [
    | inl top ↦ (
        let e : instead n (f l) f k ≡ f l = instead-top n (f l) f k top in
        let low : f l < suc n = a.below l (omega arith) in
        let ne : f l ≢ n =
        λ h. (let g : l ≡ k = a.apart l k (omega arith) (omega (arith, lt)) (h ∙ sym top) in
        omega (arith, g, lt)) in
        omega (arith, e, low, ne)
        )
    | inr ne ↦ (
        let e : instead n (f l) f k ≡ f k = instead-other n (f l) f k ne in
        let low : f k < suc n = a.below k (omega (arith, lt)) in
        omega (arith, e, low, ne)
        )
  ];
  apart = λ k j kl jl same. elim (cases_eq (f k) n) [
    | inl top ↦ elim (cases_eq (f j) n) [
      | inl too ↦ a.apart k j (omega (arith, kl)) (omega (arith, jl)) (top ∙ sym too)
      | inr ne ↦ absurd (
          let g : l ≡ j =
          a.apart l j (omega arith) (omega (arith, jl))
          (sym (instead-top n (f l) f k top) ∙ same ∙ instead-other n (f l) f j ne) in
          omega (arith, g, jl)
          )
    ]
    | inr ne ↦ elim (cases_eq (f j) n) [
      | inl too ↦ absurd (
          let g : k ≡ l =
          a.apart k l (omega (arith, kl)) (omega arith)
          (sym (instead-other n (f l) f k ne) ∙ same ∙ instead-top n (f l) f j too) in
          omega (arith, g, kl)
          )
      | inr other ↦
          a.apart k j (omega (arith, kl)) (omega (arith, jl))
          (sym (instead-other n (f l) f k ne) ∙ same ∙ instead-other n (f l) f j other)
    ]
  ];
}

no_more : (l n : ℕ) (f : ℕ → ℕ) → IsApart l n f → l ≤ n
no_more zero n f a = omega arith
no_more (suc l) zero f a = absurd (let g : f l < 0 = a.below l (omega arith) in omega (arith, g))
no_more (suc l) (suc n) f a =
    let g : l ≤ n = no_more l n (instead n (f l) f) (one_less l n f a) in omega (arith, g)

-- a node that waits for a copy or for the page orders none to be given up
copy_or_acks : (e : Entry) (k j node : ℕ) → AwaitsCopy e k → Collects e j node → ⊥
copy_or_acks (entry.Idle s) k j node a b = a
copy_or_acks (entry.AwaitRead s) k j node a b = b
copy_or_acks (entry.AwaitWrite s) k j node a b = a
copy_or_acks (entry.AwaitAcks s) k j node a b = a

page_or_acks : (e : Entry) (k j node : ℕ) → AwaitsPage e k → Collects e j node → ⊥
page_or_acks (entry.Idle s) k j node a b = a
page_or_acks (entry.AwaitRead s) k j node a b = a
page_or_acks (entry.AwaitWrite s) k j node a b = b
page_or_acks (entry.AwaitAcks s) k j node a b = a

-- so the letters of one node, put off at another, have one key
one_key : (x p o call call' : ℕ) (e : Entry) (kind kind' : Request)
    → Needs e (letter o x o call (content_of kind p)) (content_of kind p)
    → Needs e (letter o x o call' (content_of kind' p)) (content_of kind' p)
    → key_of (letter o x o call (content_of kind p))
    ≡ key_of (letter o x o call' (content_of kind' p))
one_key x p o call call' e request.Read request.Read a b = refl
one_key x p o call call' e request.Read request.Write a b = refl
one_key x p o call call' e request.Read request.Invalidate a b =
    absurd (copy_or_acks e call call' x a b)
one_key x p o call call' e request.Write request.Read a b = refl
one_key x p o call call' e request.Write request.Write a b = refl
one_key x p o call call' e request.Write request.Invalidate a b =
    absurd (page_or_acks e call call' x a b)
one_key x p o call call' e request.Invalidate request.Read a b =
    absurd (copy_or_acks e call' call x b a)
one_key x p o call call' e request.Invalidate request.Write a b =
    absurd (page_or_acks e call' call x b a)
one_key x p o call call' e request.Invalidate request.Invalidate a b = refl

origin_below : (c : Config) (n : Net) (x p o call : ℕ) (kind : Request)
    → IsExpectedAs c n (letter o x o call (content_of kind p)) (content_of kind p) → o < c.nodes
origin_below c n x p o call request.Read f = f.0.below
origin_below c n x p o call request.Write f = f.0.below
origin_below c n x p o call request.Invalidate f = f.0.below

aside_needs : (c : Config) (n : Net) (x p o call : ℕ) (kind : Request)
    → IsExpectedAs c n (letter o x o call (content_of kind p)) (content_of kind p)
    → Needs (n.entry o p) (letter o x o call (content_of kind p)) (content_of kind p)
aside_needs c n x p o call request.Read f = f.1
aside_needs c n x p o call request.Write f = f.1
aside_needs c n x p o call request.Invalidate f = f.2

module _ (c : Config) (n : Net) (order : IsOrderly c n) (x p : ℕ) (here : x < c.nodes) where
  there : (k : ℕ) (q : PutOff) → slice_get (put_offs (n.entry x p)) k ≡ Some q
      → IsAt n (Aside x p k) (letter_of x p q)
  there k q h = (q, h, refl)

  fit : (k : ℕ) (q : PutOff) → slice_get (put_offs (n.entry x p)) k ≡ Some q
      → IsExpectedAs c n (letter_of x p q) (content_of q.kind p)
  fit k q h = order.fits (Aside x p k) (letter_of x p q) (there k q h)

  -- two messages of one node are one
  one_of_each : (k j : ℕ) (q r : PutOff) → slice_get (put_offs (n.entry x p)) k ≡ Some q
      → slice_get (put_offs (n.entry x p)) j ≡ Some r → q.origin ≡ r.origin → k ≡ j
  one_of_each k j q r h g same =
      let key : key_of (letter_of x p q)
      ≡ key_of (letter q.origin x q.origin r.call (content_of r.kind p)) =
      one_key x p q.origin q.call r.call (n.entry q.origin p) q.kind r.kind
      (aside_needs c n x p q.origin q.call q.kind (fit k q h))
      (subst (λ o. Needs (n.entry o p) (letter o x o r.call (content_of r.kind p))
      (content_of r.kind p)) (sym same)
      (aside_needs c n x p r.origin r.call r.kind (fit j r g))) in
      let at : Aside x p k ≡ Aside x p j =
      order.one_letter (Aside x p k) (Aside x p j) (letter_of x p q) (letter_of x p r)
      (there k q h) (there j r g)
      (key ∙ ap (λ o. key_of (letter o x o r.call (content_of r.kind p))) same) in
      cc

  -- this node counts as one more
  mine : PutOff
  mine = record { kind = request.Read; origin = x; call = 0 }

  message : ℕ → PutOff
  message k = get_or (put_offs (n.entry x p)) k mine

  abbrev count : ℕ
  count = length (put_offs (n.entry x p))

  standing : (k : ℕ) → k < count → slice_get (put_offs (n.entry x p)) k ≡ Some (message k)
  unfolding message
  standing k lt = slice_get-get_or (put_offs (n.entry x p)) k mine lt

  last : (k : ℕ) → count ≤ k → (message k).origin ≡ x
  unfolding message mine
  last k le = ap (λ (q : PutOff). q.origin) (get_or_past (put_offs (n.entry x p)) k mine le)

  foreign : (k : ℕ) → k < count → (message k).origin ≢ x
  foreign k lt = order.foreign x p k (message k) (standing k lt)

  apart : IsApart (suc count) c.nodes (λ k. (message k).origin)
  apart = record {
    below = λ k lt. elim (cases_eq k count) [
      | inl end ↦ subst (λ o. o < c.nodes) (sym (last k (omega (arith, end)))) here
      | inr ne ↦
          origin_below c n x p (message k).origin (message k).call (message k).kind
          (fit k (message k) (standing k (omega (arith, lt, ne))))
    ];
    apart = λ k j kl jl same. elim (cases_eq k count) [
      | inl end ↦ elim (cases_eq j count) [
        | inl too ↦ end ∙ sym too
        | inr ne ↦
            absurd (foreign j (omega (arith, jl, ne)) (sym same ∙ last k (omega (arith, end))))
      ]
      | inr ne ↦ elim (cases_eq j count) [
        | inl too ↦ absurd (foreign k (omega (arith, kl, ne)) (same ∙ last j (omega (arith, too))))
        | inr other ↦
            one_of_each k j (message k) (message j) (standing k (omega (arith, kl, ne)))
            (standing j (omega (arith, jl, other))) same
      ]
    ];
  }

  pub few_aside : length (put_offs (n.entry x p)) < c.nodes
  few_aside =
      (let f : suc count ≤ c.nodes = no_more (suc count) c.nodes (λ k. (message k).origin) apart in
      omega (arith, f))
