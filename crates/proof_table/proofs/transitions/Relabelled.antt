-- A net whose letters are letters of an orderly one, each at a place of its own, and whose entries
-- are the same.
use Rattle.std.proofs.Common.{◌≡◌, ◌≢◌, ◌≤◌, ◌+◌, ℕ, zero, suc, true, List, [], ◌∷◌, slice_get, Some, refl, sym, ap, ◌∙◌, subst, inl, inr, arith, if◌then◌else◌, ◌==◌, ◌&&◌}
use Rattle.std.proofs.lemmas.Bool.{cases_eq, eq-eqb, ne_eqb, and_left, and_right}
use Rattle.std.proofs.lemmas.Option.{same_Some, none-some}
use Rattle.std.specs.FinSet as set
use Rattle.ivy_model.specs.declared.Config.{Config}
use Rattle.ivy_wire.specs.stated.Data.{Message}
use Rattle.ivy_pagetable.specs.stated.NodeSets.{Nodes}
use Rattle.ivy_pagetable.specs.stated.Entries.{put_offs, readable, writable, is_owner, copies_of}
use Rattle.ivy_moves.specs.stated.FifoWorld.{one_more}
use Rattle.proof_table.specs.stated.Letters.{Letter, Net, Place, Underway, Aside, Loose, IsAt}
use Rattle.proof_table.specs.transitions.Letters.{installs}
use Rattle.proof_table.specs.stated.Orderly.{CanWait, HasCopy, reads, comes, OwnerPlace, At, In, IsOwned, IsExpected, IsOrderly}
use Rattle.proof_table.specs.transitions.TableSteps.{taken, dropped}
use Rattle.proof_table.proofs.transitions.Places.{served}
use Rattle.proof_table.proofs.transitions.Needs.{page_of, Needs, needs, refit}
use Rattle.proof_table.proofs.transitions.Owners.{place_now}

pub record IsPart (n n' : Net) (now : Place → Place) : Type 0 where
  pub entries : (i q : ℕ) → n'.entry i q ≡ n.entry i q
  pub letters : (a : Place) (l : Letter) → IsAt n' a l → (b : Place) × IsAt n b l × (a ≡ now b)

module _ (n n' : Net) (now : Place → Place) (part : IsPart n n' now) where
  part_copy : (node q : ℕ) → HasCopy n' node q → HasCopy n node q
  part_copy node q (reads h) = reads (ap readable (sym (part.entries node q)) ∙ h)
  part_copy node q (comes a l bytes at dest is) =
      let f = part.letters a l at in comes f.0 l bytes f.1 dest is

  part_owner : (q i : ℕ) (s : Nodes) (a : OwnerPlace) → IsOwned n' q i s a
      → (b : OwnerPlace) × IsOwned n q i s b × (a ≡ place_now now b)
  part_owner q i s (At w) h = (
    At w,
    (
      h.0,
      ap is_owner (sym (part.entries i q)) ∙ h.1,
      h.2 ∙ ap copies_of (part.entries i q),
    ),
    refl,
  )
  part_owner q i s (In a) h =
      let f = part.letters a h.0 h.3 in (In f.0, (h.0, h.1, h.2, f.1, h.4, h.5, h.6), ap In f.2)

  pub part_orderly : (c : Config) → IsOrderly c n → IsOrderly c n'
  part_orderly c o = record {
    fits = λ a l at. (
        let f = part.letters a l at in
        let fit : IsExpected c n l = o.fits f.0 l f.1 in
        refit c n n' l l.message.content fit
        (subst (λ y. Needs y l l.message.content)
        (sym (part.entries l.message.origin (page_of l.message.content)))
        (needs c n l l.message.content fit))
        (λ q is. part_copy l.source q)
        );
    one_letter = λ a b l m at bt same. (
        let f = part.letters a l at in
        let g = part.letters b m bt in
        f.2 ∙ ap now (o.one_letter f.0 g.0 l m f.1 g.1 same) ∙ sym g.2
        );
    foreign =
        λ i q k r h. o.foreign i q k r
        (ap (λ y. slice_get (put_offs y) k) (sym (part.entries i q)) ∙ h);
    orders =
        λ i q k r h order. subst CanWait (sym (part.entries i q))
        (o.orders i q k r (ap (λ y. slice_get (put_offs y) k) (sym (part.entries i q)) ∙ h) order);
    one_owner = λ q i j s t a b h k. (
        let f : (y : OwnerPlace) × IsOwned n q i s y × (a ≡ place_now now y) = part_owner q i s a h in
        let g : (y : OwnerPlace) × IsOwned n q j t y × (b ≡ place_now now y) = part_owner q j t b k in
        f.2 ∙ ap (place_now now) (o.one_owner q i j s t f.0 g.0 f.1 g.1) ∙ sym g.2
        );
    counted = λ q i y s a h ne has. (
        let f : (b : OwnerPlace) × IsOwned n q i s b × (a ≡ place_now now b) = part_owner q i s a h in
        o.counted q i y s f.0 f.1 ne (part_copy y q has)
        );
    others = λ q i s a h. (
        let f : (b : OwnerPlace) × IsOwned n q i s b × (a ≡ place_now now b) = part_owner q i s a h in
        o.others q i s f.0 f.1
        );
    alone = λ i q. subst (λ y. writable y ≡ true → (is_owner y ≡ true) × (copies_of y ≡ set.empty))
        (sym (part.entries i q)) (o.alone i q);
  }

-- the same letters in the same places
pub record IsSame (n n' : Net) : Type 0 where
  pub entries : (i q : ℕ) → n'.entry i q ≡ n.entry i q
  pub posted : (i j : ℕ) → n'.posted i j ≡ n.posted i j
  pub delivered : (i j : ℕ) → n'.delivered i j ≡ n.delivered i j
  pub loose : n'.loose ≡ n.loose

same_letters : (n n' : Net) → IsSame n n' → (a : Place) (l : Letter) → IsAt n' a l
    → (b : Place) × IsAt n b l × (a ≡ b)
same_letters n n' same (Underway i j k) l at = (
  Underway i j k,
  (
    subst (λ d. d ≤ k) (same.delivered i j) at.0,
    ap (λ v. slice_get v k) (sym (same.posted i j)) ∙ at.1,
    at.2,
    at.3,
  ),
  refl,
)
same_letters n n' same (Aside i q k) l at = (
  Aside i q k,
  (at.0, ap (λ y. slice_get (put_offs y) k) (sym (same.entries i q)) ∙ at.1, at.2),
  refl,
)
same_letters n n' same (Loose k) l at =
    (Loose k, ap (λ v. slice_get v k) (sym same.loose) ∙ at, refl)

pub same_orderly : (c : Config) (n n' : Net) → IsSame n n' → IsOrderly c n → IsOrderly c n'
same_orderly c n n' same =
    part_orderly n n' (λ a. a) (record { entries = same.entries; letters = same_letters n n' same })
    c

pub installed : (c : Config) (n : Net) (x p : ℕ) (bytes : List ℕ) → IsOrderly c n
    → IsOrderly c (installs n x p bytes)
installed c n x p bytes =
    same_orderly c n (installs n x p bytes)
    (record { entries = λ i q. refl; posted = λ i j. refl; delivered = λ i j. refl; loose = refl })

-- one message more is counted for its source and destination alone
more_here : (delivered : ℕ → ℕ → ℕ) (source dest i j : ℕ) → i ≡ source → j ≡ dest
    → one_more delivered source dest i j ≡ delivered i j + 1
more_here delivered source dest i j e d =
    ap (λ b. if b && j == dest then delivered i j + 1 else delivered i j) (eq-eqb i source e)
    ∙ ap (λ b. if b then delivered i j + 1 else delivered i j) (eq-eqb j dest d)

more-other_source : (delivered : ℕ → ℕ → ℕ) (source dest i j : ℕ) → i ≢ source
    → one_more delivered source dest i j ≡ delivered i j
more-other_source delivered source dest i j ne =
    ap (λ b. if b then delivered i j + 1 else delivered i j)
    (and_left (i == source) (j == dest) (ne_eqb i source ne))

more-other_dest : (delivered : ℕ → ℕ → ℕ) (source dest i j : ℕ) → j ≢ dest
    → one_more delivered source dest i j ≡ delivered i j
more-other_dest delivered source dest i j ne =
    ap (λ b. if b then delivered i j + 1 else delivered i j)
    (and_right (i == source) (j == dest) (ne_eqb j dest ne))

-- what is under way after the first from a node to another was taken was so before, and is not that
-- one
later : (d : ℕ → ℕ → ℕ) (s x i j k : ℕ) → one_more d s x i j ≤ k
    → (d i j ≤ k) × (i ≡ s → j ≡ x → k ≡ d i j → ⊥)
later d s x i j k le =
    elim (cases_eq i s) [
      | inr ne ↦ (subst (λ n. n ≤ k) (more-other_source d s x i j ne) le, λ a b same. ne a)
      | inl a ↦ elim (cases_eq j x) [
        | inr ne ↦ (subst (λ n. n ≤ k) (more-other_dest d s x i j ne) le, λ a b same. ne b)
        | inl b ↦
            (let f : d i j + 1 ≤ k = subst (λ n. n ≤ k) (more_here d s x i j a b) le in
            (omega (arith, f), λ a b same. omega (arith, f, same)))
      ]
    ]

-- where a letter is once the first message from a node to another is loose
abbrev moved : (ℕ → ℕ → ℕ) → ℕ → ℕ → Place → Place
moved d s x (Underway i j k) = if i == s && (j == x && k == d i j) then Loose 0 else Underway i j k
moved d s x (Aside i q k) = Aside i q k
moved d s x (Loose k) = Loose k

moved-here : (d : ℕ → ℕ → ℕ) (s x : ℕ) → moved d s x (Underway s x (d s x)) ≡ Loose 0
moved-here d s x =
    ap (λ b. if b && (x == x && d s x == d s x) then Loose 0 else Underway s x (d s x))
    (eq-eqb s s refl)
    ∙ ap (λ b. if b && d s x == d s x then Loose 0 else Underway s x (d s x)) (eq-eqb x x refl)
    ∙ ap (λ b. if b then Loose 0 else Underway s x (d s x)) (eq-eqb (d s x) (d s x) refl)

moved-other : (d : ℕ → ℕ → ℕ) (s x i j k : ℕ) → (i ≡ s → j ≡ x → k ≡ d i j → ⊥)
    → moved d s x (Underway i j k) ≡ Underway i j k
moved-other d s x i j k other =
    ap (λ b. if b then Loose 0 else Underway i j k) (elim (cases_eq i s) [
      | inr ne ↦ and_left (i == s) (j == x && k == d i j) (ne_eqb i s ne)
      | inl a ↦ elim (cases_eq j x) [
        | inr ne ↦
            and_right (i == s) (j == x && k == d i j)
            (and_left (j == x) (k == d i j) (ne_eqb j x ne))
        | inl b ↦
            and_right (i == s) (j == x && k == d i j)
            (and_right (j == x) (k == d i j) (ne_eqb k (d i j) (other a b)))
      ]
    ])

module _ (c : Config) (n : Net) where
  -- a letter is taken
  pub letter_taken : (i j : ℕ) (m : Message) → slice_get (n.posted i j) (n.delivered i j) ≡ Some m
      → IsOrderly c n → IsOrderly c (taken n i j m)
  letter_taken s x m first =
      part_orderly n (taken n s x m) (moved n.delivered s x)
      (record { entries = λ i q. refl; letters = letters }) c
    where
      only : (k : ℕ) (l : Letter)
          → slice_get (record { source = s; dest = x; message = m } ∷ []) k ≡ Some l
          → (b : Place) × IsAt n b l × (Loose k ≡ moved n.delivered s x b)
      only zero l h = (
          let same : record { source = s; dest = x; message = m } ≡ l = same_Some _ l h in (
            Underway s x (n.delivered s x),
            subst (IsAt n (Underway s x (n.delivered s x))) same (omega arith, first, refl, refl),
            sym (moved-here n.delivered s x),
          )
          )
      only (suc k) l h = absurd (none-some l h)

      letters : (a : Place) (l : Letter) → IsAt (taken n s x m) a l
          → (b : Place) × IsAt n b l × (a ≡ moved n.delivered s x b)
      letters (Underway i j k) l at = (
          let f : (n.delivered i j ≤ k) × (i ≡ s → j ≡ x → k ≡ n.delivered i j → ⊥) =
          later n.delivered s x i j k at.0 in
          (Underway i j k, (f.0, at.1, at.2, at.3), sym (moved-other n.delivered s x i j k f.1))
          )
      letters (Aside i q k) l at = (Aside i q k, at, refl)
      letters (Loose k) l at = only k l at

  -- a letter is dropped
  pub letter_dropped : (x : ℕ) (l : Letter) (rest : List Letter) → n.loose ≡ l ∷ rest
      → IsOrderly c n → IsOrderly c (dropped n x rest)
  letter_dropped x l rest loose =
      part_orderly n (dropped n x rest) served (record { entries = λ i q. refl; letters = letters })
      c
    where
      letters : (a : Place) (m : Letter) → IsAt (dropped n x rest) a m
          → (b : Place) × IsAt n b m × (a ≡ served b)
      letters (Underway i j k) m at = (Underway i j k, at, refl)
      letters (Aside i q k) m at = (Aside i q k, at, refl)
      letters (Loose k) m at = (Loose (suc k), ap (λ v. slice_get v (suc k)) loose ∙ at, refl)
