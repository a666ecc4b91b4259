-- Requests stay in order where a letter is taken, and where one is put off.
use Rattle.std.proofs.Common.{◌≡◌, ◌≢◌, ◌⊎◌, ◌<◌, ◌≤◌, ◌+◌, ℕ, zero, suc, Bool, true, false, List, [], ◌∷◌, ◌++◌, length, slice_get, Some, refl, sym, ap, ◌∙◌, subst, inl, inr, arith, if◌then◌else◌, ◌==◌, ◌&&◌}
use Rattle.std.proofs.lemmas.Bool.{cases_eq, eq-eqb, ne_eqb, and_right}
use Rattle.std.proofs.lemmas.Option.{same_Some, none-some, slice_get_within}
use Rattle.ivy_model.specs.declared.Config.{Config}
use Rattle.ivy_wire.specs.stated.Data.{Message}
use Rattle.ivy_pagetable.specs.declared.Entry.{Entry}
use Rattle.ivy_pagetable.specs.stated.Entries.{put_offs, can_put_off, with_put_off}
use Rattle.ivy_pagetable.specs.declared.Entry.TheVariants as entry
use Rattle.ivy_dynamic.specs.stated.Dynamic.{Hints}
use Rattle.proof_table.specs.stated.Letters.{Letter, Net, Place, Underway, Aside, Loose, content_of, letter_of, IsAt}
use Rattle.proof_table.specs.transitions.Letters.{goes_on}
use Rattle.proof_table.specs.transitions.TableSteps.{Takes, PutsOff, taken, letter}
use Rattle.proof_table.specs.waiting.Readers.{IsBefore}
use Rattle.proof_table.proofs.transitions.Needs.{page_of}
use Rattle.proof_table.proofs.transitions.Places.{written_here, written-other, same_or_other}
use Rattle.proof_table.proofs.routing.Old.{put_off_stays}
use Rattle.proof_table.proofs.routing.Remaining.{get_first, get_second}
use Rattle.proof_table.proofs.waiting.Onward.{IsLater}
use Rattle.proof_answers.specs.late.Late.{IsRequest, IsPutOff, HasCome}
use Rattle.proof_answers.proofs.late.LateSteps.{IsKept, IsInOrder}
use Rattle.proof_answers.proofs.late.LateNets.{IsNoPlace, request_page, put_about, put_page, kept_so}

-- a letter is taken
module _ (n : Net) (r : Takes n) (m : ℕ → Hints) (p o : ℕ) where
  open r use {source as s, dest as x, message, none, first}

  abbrev taking : Net
  taking = taken n s x message

  -- where a letter is then
  abbrev pub come_in : Place → Place
  come_in (Underway i j k) =
      if (i == s && j == x) && k == n.delivered s x then Loose 0 else Underway i j k
  come_in (Aside i q k) = Aside i q k
  come_in (Loose k) = Loose k

  in_here : (i j k : ℕ) → i ≡ s → j ≡ x → k ≡ n.delivered s x → come_in (Underway i j k) ≡ Loose 0
  in_here i j k one two it =
      ap (λ (b : Bool). if (b && j == x) && k == n.delivered s x then Loose 0 else Underway i j k)
      (eq-eqb i s one)
      ∙ ap (λ (b : Bool). if b && k == n.delivered s x then Loose 0 else Underway i j k)
      (eq-eqb j x two)
      ∙ ap (λ (b : Bool). if b then Loose 0 else Underway i j k) (eq-eqb k (n.delivered s x) it)

  in_other : (i j k : ℕ) → (i ≢ s) ⊎ (j ≢ x) → come_in (Underway i j k) ≡ Underway i j k
  in_other i j k other = elim other [
    | inl ne ↦
        ap (λ (b : Bool). if (b && j == x) && k == n.delivered s x then Loose 0 else Underway i j k)
        (ne_eqb i s ne)
    | inr ne ↦
        ap (λ (b : Bool). if b && k == n.delivered s x then Loose 0 else Underway i j k)
        (and_right (i == s) (j == x) (ne_eqb j x ne))
  ]

  in_later : (i j k : ℕ) → k ≢ n.delivered s x → come_in (Underway i j k) ≡ Underway i j k
  in_later i j k ne =
      ap (λ (b : Bool). if b then Loose 0 else Underway i j k)
      (and_right (i == s && j == x) (k == n.delivered s x) (ne_eqb k (n.delivered s x) ne))

  -- either it came in, or it is under way still
  in_cases : (i j k : ℕ)
      → ((i ≡ s) × (j ≡ x) × (k ≡ n.delivered s x) × (come_in (Underway i j k) ≡ Loose 0))
      ⊎ (((i ≢ s) ⊎ (j ≢ x)) ⊎ ((i ≡ s) × (j ≡ x) × (k ≢ n.delivered s x)))
      × (come_in (Underway i j k) ≡ Underway i j k)
  in_cases i j k = elim (same_or_other i j s x) [
    | inr other ↦ inr (inl other, in_other i j k other)
    | inl same ↦ elim (cases_eq k (n.delivered s x)) [
      | inl it ↦ inl (same.0, same.1, it, in_here i j k same.0 same.1 it)
      | inr ne ↦ inr (inr (same.0, same.1, ne), in_later i j k ne)
    ]
  ]

  under_there : (i j k : ℕ) (l : Letter) → IsAt n (Underway i j k) l
      → IsAt taking (come_in (Underway i j k)) l
  under_there i j k l at = elim (in_cases i j k) [
    | inl it ↦
        subst (λ v. IsAt taking v l) (sym it.3)
        (let says : Some message ≡ Some l.message =
        sym first ∙ ap (λ a. slice_get (n.posted a x) (n.delivered a x)) (sym it.0)
        ∙ ap (λ a. slice_get (n.posted i a) (n.delivered i a)) (sym it.1)
        ∙ ap (λ d. slice_get (n.posted i j) d)
        (ap (λ a. n.delivered a j) it.0 ∙ ap (n.delivered s) it.1 ∙ sym it.2) ∙ at.1 in
        ap Some (ap (λ v. record { source = s; dest = x; message = v })
        (same_Some message l.message says)
        ∙ ap (λ v. record { source = v; dest = x; message = l.message }) (sym it.0 ∙ sym at.2)
        ∙ ap (λ v. record { source = l.source; dest = v; message = l.message })
        (sym it.1 ∙ sym at.3)))
    | inr h ↦
        subst (λ v. IsAt taking v l) (sym h.1)
        (low (elim h.0 [
          | inl other ↦ (
              let now : taking.delivered i j ≡ n.delivered i j =
              written-other (λ u v. n.delivered i j) s x (n.delivered i j + 1) i j other in
              let le : n.delivered i j ≤ k = at.0 in
              omega (arith, now, le)
              )
          | inr same ↦ (
              let now : taking.delivered i j ≡ n.delivered i j + 1 =
              written_here (λ u v. n.delivered i j) s x (n.delivered i j + 1) i j same.0 same.1 in
              let is : n.delivered i j ≡ n.delivered s x =
              ap (λ a. n.delivered a j) same.0 ∙ ap (n.delivered s) same.1 in
              let le : n.delivered i j ≤ k = at.0 in
              let ne : k ≢ n.delivered s x = same.2 in
              omega (arith, now, is, le, ne)
              )
        ]))
  ]
    where
      low : taking.delivered i j ≤ k → IsAt taking (Underway i j k) l
      low le = (le, at.1, at.2, at.3)

  nothing_loose : (k : ℕ) (l : Letter) → IsAt n (Loose k) l → ⊥
  nothing_loose k l at = none-some l (ap (λ v. slice_get v k) (sym none) ∙ at)

  stays_in : (i : ℕ) (a : Place) (l : Letter) → IsAt n a l → IsRequest p i l
      → (IsKept taking (come_in a) l × (IsNoPlace a → ⊥)) ⊎ ((a ≡ Loose 0) × (l.dest ≡ x) × ⊥)
  stays_in i (Underway a b k) l at asks =
      inl (kept_so taking (come_in (Underway a b k)) l (under_there a b k l at), λ f. f)
  stays_in i (Aside y q k) l at asks = inl (kept_so taking (Aside y q k) l at, λ f. f)
  stays_in i (Loose k) l at asks = absurd (nothing_loose k l at)

  later_in : (a : Place) → IsLater a (come_in a)
  later_in (Underway i j k) = elim (in_cases i j k) [
    | inl it ↦ subst (IsLater (Underway i j k)) (sym it.3) (inr tt)
    | inr h ↦ inl h.1
  ]
  later_in (Aside i q k) = inl refl
  later_in (Loose k) = inl refl

  come_on : (a : Place) → HasCome a → HasCome (come_in a)
  come_on (Underway i j k) h = absurd h
  come_on (Aside i q k) h = tt
  come_on (Loose k) h = tt

  before_in : (a b k i j w : ℕ) (l : Letter) → IsAt n (Underway a b k) l
      → (a ≡ i) × (b ≡ j) × (k < w)
      → IsBefore (come_in (Underway a b k)) (come_in (Underway i j w))
  before_in a b k i j w l at h = elim (in_cases i j w) [
    | inl it ↦ absurd (
        let is : n.delivered a b ≡ n.delivered s x =
        ap (λ v. n.delivered v b) (h.0 ∙ it.0) ∙ ap (n.delivered s) (h.1 ∙ it.1) in
        let le : n.delivered a b ≤ k = at.0 in
        let lt : k < w = h.2 in
        let e : w ≡ n.delivered s x = it.2 in
        omega (arith, is, le, lt, e)
        )
    | inr later ↦
        subst (IsBefore (come_in (Underway a b k))) (sym later.1)
        (elim (in_cases a b k) [
          | inl it ↦ subst (λ v. IsBefore v (Underway i j w)) (sym it.3) tt
          | inr still ↦ subst (λ v. IsBefore v (Underway i j w)) (sym still.1) h
        ])
  ]

  aside_in : (y q k i j w : ℕ) → IsBefore (Aside y q k) (come_in (Underway i j w))
  aside_in y q k i j w = elim (in_cases i j w) [
    | inl it ↦ subst (IsBefore (Aside y q k)) (sym it.3) tt
    | inr later ↦ subst (IsBefore (Aside y q k)) (sym later.1) tt
  ]

  order_in : (a b : Place) (k l : Letter) → IsAt n a k → IsAt n b l → IsBefore a b
      → IsBefore (come_in a) (come_in b)
  order_in (Underway i j w) (Underway i' j' w') k l at bt h =
      before_in i j w i' j' w' k at h
  order_in (Underway i j w) (Aside y q w') k l at bt h = absurd h
  order_in (Underway i j w) (Loose w') k l at bt h = absurd h
  order_in (Aside y q w) (Underway i j w') k l at bt h = aside_in y q w i j w'
  order_in (Aside y q w) (Aside y' q' w') k l at bt h = h
  order_in (Aside y q w) (Loose w') k l at bt h = absurd (nothing_loose w' l bt)
  order_in (Loose w) b k l at bt h = absurd (nothing_loose w k at)

  put_in : (a : Place) → IsPutOff a → IsPutOff (come_in a)
  put_in (Underway i j k) h = absurd h
  put_in (Aside i q k) h = tt
  put_in (Loose k) h = h

  pub taken_order : IsInOrder m m n taking p o x come_in IsNoPlace ⊥
  taken_order = record {
    stays = stays_in;
    later = λ a ne. later_in a;
    come = come_on;
    order = λ a b k l i j at bt asks wants same one two h. order_in a b k l at bt h;
    put = λ a l i at asks h. inl (put_in a h);
    entries = λ y ne. refl;
    hints = λ y ne. refl;
  }

-- a letter is put off
module _ (c : Config) (n : Net) (r : PutsOff c n) (m : ℕ → Hints) (p o : ℕ) where
  open r use {node as x, page as q, from, later, before as e, rest, loose, is, room}

  abbrev putting : Net
  putting = goes_on n x q (with_put_off e later) rest []

  abbrev pub placed : Place → Place
  placed (Underway i j k) = Underway i j k
  placed (Aside i y k) = Aside i y k
  placed (Loose zero) = Aside x q (length (put_offs e) + 0)
  placed (Loose (suc k)) = Loose k

  abbrev old : Letter
  old = letter from x later.origin later.call (content_of later.kind q)

  is_old : (l : Letter) → IsAt n (Loose 0) l → old ≡ l
  is_old l at = same_Some old l (ap (λ v. slice_get v 0) (sym loose) ∙ at)

  put_last : (v : Entry) → can_put_off v ≡ true
      → put_offs (with_put_off v later) ≡ put_offs v ++ later ∷ []
  put_last (entry.Idle s) h = absurd (let f : false ≡ true = h in cc)
  put_last (entry.AwaitRead s) h = refl
  put_last (entry.AwaitWrite s) h = refl
  put_last (entry.AwaitAcks s) h = refl

  put_there : IsAt putting (Aside x q (length (put_offs e) + 0)) (letter_of x q later)
  put_there = (
    later,
    ap (λ y. slice_get (put_offs y) (length (put_offs e) + 0))
        (written_here n.entry x q (with_put_off e later) x q refl refl)
        ∙ ap (λ v. slice_get v (length (put_offs e) + 0)) (put_last e room)
        ∙ get_second (put_offs e) (later ∷ []) 0 (length (put_offs e) + 0) refl,
    refl,
  )

  still_aside : (i y k : ℕ) (l : Letter) → IsAt n (Aside i y k) l → IsAt putting (Aside i y k) l
  still_aside i y k l at = elim (same_or_other i y x q) [
    | inr other ↦ (
      at.0,
      ap (λ v. slice_get (put_offs v) k)
          (written-other n.entry x q (with_put_off e later) i y other) ∙ at.1,
      at.2,
    )
    | inl same ↦ (
      at.0,
      ap (λ v. slice_get (put_offs v) k)
          (written_here n.entry x q (with_put_off e later) i y same.0 same.1)
          ∙ put_off_stays e later room k at.0
          (ap (λ v. slice_get (put_offs v) k)
          (sym is ∙ ap (λ v. n.entry v q) (sym same.0) ∙ ap (n.entry i) (sym same.1)) ∙ at.1),
      at.2,
    )
  ]

  under_still : (i j k : ℕ) (l : Letter) → IsAt n (Underway i j k) l
      → IsAt putting (Underway i j k) l
  under_still i j k l at = (at.0, first_of (n.posted i j) l.message k at.1, at.2, at.3)
    where
      first_of : (ms : List Message) (v : Message) (w : ℕ) → slice_get ms w ≡ Some v
          → slice_get (ms ++ []) w ≡ Some v
      first_of ms v w h = get_first ms [] v w h

  stays_put : (i : ℕ) (a : Place) (l : Letter) → IsAt n a l → IsRequest p i l
      → (IsKept putting (placed a) l × (IsNoPlace a → ⊥)) ⊎ ((a ≡ Loose 0) × (l.dest ≡ x) × ⊥)
  stays_put i (Underway s j k) l at asks =
      inl (kept_so putting (Underway s j k) l (under_still s j k l at), λ f. f)
  stays_put i (Aside s y k) l at asks =
      inl (kept_so putting (Aside s y k) l (still_aside s y k l at), λ f. f)
  stays_put i (Loose zero) l at asks = inl (
    record {
      letter = letter_of x q later;
      there = put_there;
      dest = ap (λ (v : Letter). v.dest) (is_old l at);
      says = ap (λ (v : Letter). v.message) (is_old l at);
      from = inl tt;
    },
    λ f. f,
  )
  stays_put i (Loose (suc k)) l at asks =
      inl (kept_so putting (Loose k) l (ap (λ v. slice_get v (suc k)) (sym loose) ∙ at), λ f. f)

  later_put : (a : Place) → IsLater a (placed a)
  later_put (Underway i j k) = inl refl
  later_put (Aside i y k) = inl refl
  later_put (Loose zero) = inr tt
  later_put (Loose (suc k)) = inr tt

  come_put : (a : Place) → HasCome a → HasCome (placed a)
  come_put (Underway i j k) h = absurd h
  come_put (Aside i y k) h = tt
  come_put (Loose zero) h = tt
  come_put (Loose (suc k)) h = tt

  -- a request that was put off before is before the one that is put off
  behind : (i y w v j : ℕ) (k l : Letter) → IsAt n (Aside i y w) k → IsAt n (Loose 0) l
      → IsRequest p v k → IsRequest p j l → k.dest ≡ l.dest
      → IsBefore (Aside i y w) (Aside x q (length (put_offs e) + 0))
  behind i y w v j k l at bt asks wants same =
      let node : i ≡ x =
      ap (λ (a : Letter). a.dest) (sym at.2) ∙ same
      ∙ ap (λ (a : Letter). a.dest) (sym (is_old l bt)) in
      let page : y ≡ q =
      put_page n i y w p v k at asks ∙ sym (request_page p j l wants)
      ∙ ap (λ (a : Letter). page_of a.message.content) (sym (is_old l bt))
      ∙ put_about later.kind q in
      let within : w < length (put_offs (n.entry i y)) =
      slice_get_within (put_offs (n.entry i y)) w at.0 at.1 in
      let long : length (put_offs (n.entry i y)) ≡ length (put_offs e) =
      ap (λ a. length (put_offs (n.entry a y))) node
      ∙ ap (λ a. length (put_offs (n.entry x a))) page ∙ ap (λ a. length (put_offs a)) is in
      (node, page, omega (arith, within, long))

  order_put : (a b : Place) (k l : Letter) (i j : ℕ) → IsAt n a k → IsAt n b l → IsRequest p i k
      → IsRequest p j l → k.dest ≡ l.dest → IsBefore a b → IsBefore (placed a) (placed b)
  order_put (Underway s d w) (Underway s' d' w') k l i j at bt asks wants same h = h
  order_put (Underway s d w) (Aside s' y w') k l i j at bt asks wants same h = absurd h
  order_put (Underway s d w) (Loose w') k l i j at bt asks wants same h = absurd h
  order_put (Aside s y w) (Underway s' d w') k l i j at bt asks wants same h = tt
  order_put (Aside s y w) (Aside s' y' w') k l i j at bt asks wants same h = h
  order_put (Aside s y w) (Loose zero) k l i j at bt asks wants same h =
      behind s y w i j k l at bt asks wants same
  order_put (Aside s y w) (Loose (suc w')) k l i j at bt asks wants same h = tt
  order_put (Loose zero) (Underway s d w') k l i j at bt asks wants same h = tt
  order_put (Loose zero) (Aside s y w') k l i j at bt asks wants same h = absurd h
  order_put (Loose zero) (Loose zero) k l i j at bt asks wants same h = absurd (omega (arith, h))
  order_put (Loose zero) (Loose (suc w')) k l i j at bt asks wants same h = tt
  order_put (Loose (suc w)) (Underway s d w') k l i j at bt asks wants same h = tt
  order_put (Loose (suc w)) (Aside s y w') k l i j at bt asks wants same h = absurd h
  order_put (Loose (suc w)) (Loose zero) k l i j at bt asks wants same h =
      absurd (omega (arith, h))
  order_put (Loose (suc w)) (Loose (suc w')) k l i j at bt asks wants same h = omega (arith, h)

  put_put : (a : Place) → IsPutOff a → IsPutOff (placed a)
  put_put (Underway i j k) h = absurd h
  put_put (Aside i y k) h = tt
  put_put (Loose zero) h = tt
  put_put (Loose (suc k)) h = absurd h

  pub put_order : IsInOrder m m n putting p o x placed IsNoPlace ⊥
  put_order = record {
    stays = stays_put;
    later = λ a ne. later_put a;
    come = come_put;
    order = λ a b k l i j at bt asks wants same one two h.
        order_put a b k l i j at bt asks wants same h;
    put = λ a l i at asks h. inl (put_put a h);
    entries = λ y ne. written-other n.entry x q (with_put_off e later) y p (inl ne);
    hints = λ y ne. refl;
  }
