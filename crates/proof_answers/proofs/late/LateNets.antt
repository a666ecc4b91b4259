-- Requests stay in order where a node serves the first of the letters that are loose there, where
-- what was put off is loose, and where bytes are installed.
use Rattle.std.proofs.Common.{◌≡◌, ◌≢◌, ◌⊎◌, ◌<◌, ℕ, zero, suc, List, [], ◌∷◌, map, slice_get, Some, option_map, refl, sym, ap, ◌∙◌, subst, inl, inr, arith}
use Rattle.std.proofs.lemmas.Option.{same_Some, none-some, slice_get-map}
use Rattle.ivy_wire.specs.stated.Data.{Parcel}
use Rattle.ivy_pagetable.specs.declared.Entry.{Entry}
use Rattle.ivy_pagetable.specs.declared.Request.{Request}
use Rattle.ivy_pagetable.specs.declared.Request.TheVariants as request
use Rattle.ivy_pagetable.specs.stated.Entries.{put_offs}
use Rattle.ivy_dynamic.specs.stated.Dynamic.{Hints, hint_of}
use Rattle.proof_table.specs.stated.Letters.{Letter, Net, Place, Underway, Aside, Loose, content_of, letter_of, IsAt}
use Rattle.proof_table.specs.transitions.Letters.{goes_on, installs}
use Rattle.proof_table.specs.waiting.Readers.{IsBefore}
use Rattle.proof_table.proofs.transitions.Needs.{page_of}
use Rattle.proof_table.proofs.transitions.Places.{written_here, written-other, same_or_other, served, freed}
use Rattle.proof_table.proofs.routing.Remaining.{StaysPutOff, get_first}
use Rattle.proof_table.proofs.waiting.Onward.{IsLater, served_later, freed_later}
use Rattle.proof_answers.specs.late.Late.{IsRequest, IsPutOff, HasCome}
use Rattle.proof_answers.proofs.late.LateSteps.{IsKept, IsInOrder}

-- the letter that is served
abbrev pub IsFirst : Place → Type 0
IsFirst a = a ≡ Loose 0

abbrev pub IsNoPlace : Place → Type 0
IsNoPlace a = ⊥

-- a request is about its page
pub request_page : (p i : ℕ) (l : Letter) → IsRequest p i l → page_of l.message.content ≡ p
request_page p i l asks = elim asks.1 [ inl h ↦ ap page_of h | inr h ↦ ap page_of h ]

-- and so is what is put off
pub put_about : (k : Request) (p : ℕ) → page_of (content_of k p) ≡ p
put_about request.Read p = refl
put_about request.Write p = refl
put_about request.Invalidate p = refl

-- a request that is put off is so at its page
pub put_page : (n : Net) (y q k p i : ℕ) (l : Letter) → IsAt n (Aside y q k) l
    → IsRequest p i l → q ≡ p
put_page n y q k p i l at asks =
    sym (put_about at.0.kind q) ∙ ap (λ (v : Letter). page_of v.message.content) (sym at.2)
    ∙ request_page p i l asks

-- a letter that stays as it is
pub kept_so : (n' : Net) (at : Place) (l : Letter) → IsAt n' at l → IsKept n' at l
kept_so n' at l there =
    record { letter = l; there = there; dest = refl; says = refl; from = inr refl }

-- The first loose letter is served, if there is one: `lo` says where the others are then.
module _ (n : Net) (x q : ℕ) (e z : Entry) (rest : List Letter) (parcels : List Parcel)
    (is : n.entry x q ≡ e) (put : StaysPutOff e z)
    (lo : (k : ℕ) (l : Letter) → slice_get n.loose (suc k) ≡ Some l
    → slice_get rest k ≡ Some l) where
  abbrev after : Net
  after = goes_on n x q z rest parcels

  kept_aside : (i y k : ℕ) (l : Letter) → IsAt n (Aside i y k) l → IsAt after (Aside i y k) l
  kept_aside i y k l at = elim (same_or_other i y x q) [
    | inr other ↦ (
      at.0,
      ap (λ v. slice_get (put_offs v) k) (written-other n.entry x q z i y other) ∙ at.1,
      at.2,
    )
    | inl same ↦ (
      at.0,
      ap (λ v. slice_get (put_offs v) k) (written_here n.entry x q z i y same.0 same.1)
          ∙ put k at.0
          (ap (λ v. slice_get (put_offs v) k)
          (sym is ∙ ap (λ v. n.entry v q) (sym same.0) ∙ ap (n.entry i) (sym same.1)) ∙ at.1),
      at.2,
    )
  ]

  kept_under : (i j k : ℕ) (l : Letter) → IsAt n (Underway i j k) l → IsAt after (Underway i j k) l
  kept_under i j k l at = (at.0, get_first (n.posted i j) _ l.message k at.1, at.2, at.3)

  module _ (m m' : ℕ → Hints) (p o : ℕ) (Serves : Type 0)
      (hi : (i : ℕ) (l : Letter) → IsAt n (Loose 0) l → IsRequest p i l → (l.dest ≡ x) × Serves)
      (hints : (y : ℕ) → y ≢ x → hint_of (m' y) p ≡ hint_of (m y) p) where
    stays : (i : ℕ) (a : Place) (l : Letter) → IsAt n a l → IsRequest p i l
        → (IsKept after (served a) l × (IsFirst a → ⊥)) ⊎ ((a ≡ Loose 0) × (l.dest ≡ x) × Serves)
    stays i (Underway s j k) l at asks =
        inl (kept_so after (Underway s j k) l (kept_under s j k l at), λ f. cc)
    stays i (Aside s y k) l at asks =
        inl (kept_so after (Aside s y k) l (kept_aside s y k l at), λ f. cc)
    stays i (Loose zero) l at asks = (let h = hi i l at asks in inr (refl, h.0, h.1))
    stays i (Loose (suc k)) l at asks =
        inl (kept_so after (Loose k) l (lo k l at), λ f. cc)

    come : (a : Place) → HasCome a → HasCome (served a)
    come (Underway i j k) h = h
    come (Aside i y k) h = tt
    come (Loose zero) h = tt
    come (Loose (suc k)) h = tt

    order : (a b : Place) → (IsFirst a → ⊥) → (IsFirst b → ⊥) → IsBefore a b
        → IsBefore (served a) (served b)
    order (Underway i j k) (Underway s d l) one two h = h
    order (Underway i j k) (Aside s y l) one two h = absurd h
    order (Underway i j k) (Loose l) one two h = absurd h
    order (Aside i y k) (Underway s d l) one two h = tt
    order (Aside i y k) (Aside s v l) one two h = h
    order (Aside i y k) (Loose zero) one two h = tt
    order (Aside i y k) (Loose (suc l)) one two h = tt
    order (Loose zero) b one two h = absurd (one refl)
    order (Loose (suc k)) (Underway s d l) one two h = tt
    order (Loose (suc k)) (Aside i y l) one two h = absurd h
    order (Loose (suc k)) (Loose zero) one two h = absurd (two refl)
    order (Loose (suc k)) (Loose (suc l)) one two h = omega (arith, h)

    put_still : (a : Place) → IsPutOff a → IsPutOff (served a)
    put_still (Underway i j k) h = h
    put_still (Aside i y k) h = h
    put_still (Loose zero) h = h
    put_still (Loose (suc k)) h = absurd h

    -- hints change at this node alone
    pub served_order : IsInOrder m m' n after p o x served IsFirst Serves
    served_order = record {
      stays = stays;
      later = λ a ne. served_later a ne;
      come = come;
      order = λ a b k l i j at bt asks wants same one two h. order a b one two h;
      put = λ a l i at asks h. inl (put_still a h);
      entries = λ y ne. written-other n.entry x q z y p (inl ne);
      hints = hints;
    }

-- The one loose letter is what a word waits for last, and what was put off is loose.
module _ (n : Net) (x q : ℕ) (e z : Entry) (old : Letter) (is : n.entry x q ≡ e)
    (loose : n.loose ≡ old ∷ []) where
  abbrev freeing : Net
  freeing = goes_on n x q z (map (letter_of x q) (put_offs e)) []

  freed_aside : (i y k : ℕ) (l : Letter) → IsAt n (Aside i y k) l
      → IsAt freeing (freed x q (Aside i y k)) l
  freed_aside i y k l at = elim (same_or_other i y x q) [
    | inr other ↦
        subst (λ v. IsAt freeing v l)
        (sym (written-other (λ a b. Aside a b k) x q (Loose k) i y other)) (
          at.0,
          ap (λ v. slice_get (put_offs v) k) (written-other n.entry x q z i y other) ∙ at.1,
          at.2,
        )
    | inl same ↦ (
        let was : slice_get (put_offs e) k ≡ Some at.0 =
        ap (λ v. slice_get (put_offs v) k)
        (sym is ∙ ap (λ v. n.entry v q) (sym same.0) ∙ ap (n.entry i) (sym same.1)) ∙ at.1 in
        subst (λ v. IsAt freeing v l)
        (sym (written_here (λ a b. Aside a b k) x q (Loose k) i y same.0 same.1))
        (slice_get-map (letter_of x q) (put_offs e) k ∙ ap (option_map (letter_of x q)) was
        ∙ ap Some (ap (λ v. letter_of v q at.0) (sym same.0)
        ∙ ap (λ v. letter_of i v at.0) (sym same.1) ∙ sym at.2))
        )
  ]

  module _ (m m' : ℕ → Hints) (p o : ℕ) (none : (i : ℕ) → IsRequest p i old → ⊥)
      (alone : q ≡ p → (b : Place) (k : Letter) → IsAt n b k → IsRequest p x k → ⊥)
      (hints : (y : ℕ) → y ≢ x → hint_of (m' y) p ≡ hint_of (m y) p) where
    not_loose : (i k : ℕ) (l : Letter) → IsAt n (Loose k) l → IsRequest p i l → ⊥
    not_loose i zero l at asks =
        none i (subst (IsRequest p i)
        (sym (same_Some old l (ap (λ v. slice_get v 0) (sym loose) ∙ at))) asks)
    not_loose i (suc k) l at asks =
        none-some l (ap (λ v. slice_get v (suc k)) (sym loose) ∙ at)

    stays_freed : (i : ℕ) (a : Place) (l : Letter) → IsAt n a l → IsRequest p i l
        → (IsKept freeing (freed x q a) l × (IsNoPlace a → ⊥))
        ⊎ ((a ≡ Loose 0) × (l.dest ≡ x) × ⊥)
    stays_freed i (Underway s j k) l at asks = inl (
      kept_so freeing (Underway s j k) l
          (at.0, get_first (n.posted s j) _ l.message k at.1, at.2, at.3),
      λ f. f,
    )
    stays_freed i (Aside s y k) l at asks =
        inl (kept_so freeing (freed x q (Aside s y k)) l (freed_aside s y k l at), λ f. f)
    stays_freed i (Loose k) l at asks = absurd (not_loose i k l at asks)

    come_freed : (a : Place) → HasCome a → HasCome (freed x q a)
    come_freed (Underway i j k) h = h
    come_freed (Loose k) h = tt
    come_freed (Aside i y k) h = elim (same_or_other i y x q) [
      | inl same ↦
          subst HasCome (sym (written_here (λ a b. Aside a b k) x q (Loose k) i y same.0 same.1)) tt
      | inr other ↦
          subst HasCome (sym (written-other (λ a b. Aside a b k) x q (Loose k) i y other)) tt
    ]

    later_freed : (a : Place) → IsLater a (freed x q a)
    later_freed (Underway i j k) = inl refl
    later_freed (Loose k) = inl refl
    later_freed (Aside i y k) = freed_later x q (Aside i y k) (λ h. cc)

    freed_before : (i y k s d l : ℕ) → IsBefore (freed x q (Aside i y k)) (Underway s d l)
    freed_before i y k s d l = elim (same_or_other i y x q) [
      | inl same ↦
          subst (λ v. IsBefore v (Underway s d l))
          (sym (written_here (λ a b. Aside a b k) x q (Loose k) i y same.0 same.1)) tt
      | inr other ↦
          subst (λ v. IsBefore v (Underway s d l))
          (sym (written-other (λ a b. Aside a b k) x q (Loose k) i y other)) tt
    ]

    freed_both : (i y k s v l : ℕ) → (i ≡ s) × (y ≡ v) × (k < l)
        → IsBefore (freed x q (Aside i y k)) (freed x q (Aside s v l))
    freed_both i y k s v l h = elim (same_or_other i y x q) [
      | inl same ↦
          subst (λ w. IsBefore w (freed x q (Aside s v l)))
          (sym (written_here (λ a b. Aside a b k) x q (Loose k) i y same.0 same.1))
          (subst (IsBefore (Loose k))
          (sym (written_here (λ a b. Aside a b l) x q (Loose l) s v (sym h.0 ∙ same.0)
          (sym h.1 ∙ same.1))) h.2)
      | inr other ↦ (
          let elsewhere : (s ≢ x) ⊎ (v ≢ q) = elim other [
            | inl ne ↦ inl (λ g. ne (h.0 ∙ g))
            | inr ne ↦ inr (λ g. ne (h.1 ∙ g))
          ] in
          subst (λ w. IsBefore w (freed x q (Aside s v l)))
          (sym (written-other (λ a b. Aside a b k) x q (Loose k) i y other))
          (subst (IsBefore (Aside i y k))
          (sym (written-other (λ a b. Aside a b l) x q (Loose l) s v elsewhere)) h)
          )
    ]

    order_freed : (a b : Place) (k l : Letter) (i j : ℕ) → IsAt n a k → IsAt n b l
        → IsRequest p i k → IsRequest p j l → IsBefore a b
        → IsBefore (freed x q a) (freed x q b)
    order_freed (Loose w) b k l i j at bt asks wants h = absurd (not_loose i w k at asks)
    order_freed (Underway s d w) (Underway s' d' w') k l i j at bt asks wants h = h
    order_freed (Underway s d w) (Aside s' y w') k l i j at bt asks wants h = absurd h
    order_freed (Underway s d w) (Loose w') k l i j at bt asks wants h = absurd h
    order_freed (Aside s y w) (Underway s' d w') k l i j at bt asks wants h =
        freed_before s y w s' d w'
    order_freed (Aside s y w) (Aside s' y' w') k l i j at bt asks wants h =
        freed_both s y w s' y' w' h
    order_freed (Aside s y w) (Loose w') k l i j at bt asks wants h =
        absurd (not_loose j w' l bt wants)

    put_freed : (a : Place) (l : Letter) (i : ℕ) → IsAt n a l → IsRequest p i l → IsPutOff a
        → IsPutOff (freed x q a)
        ⊎ ((b : Place) (k : Letter) → IsAt n b k → IsRequest p l.dest k → ⊥)
    put_freed (Underway s d w) l i at asks h = absurd h
    put_freed (Loose w) l i at asks h = absurd h
    put_freed (Aside s y w) l i at asks h = elim (same_or_other s y x q) [
      | inr other ↦
          inl (subst IsPutOff (sym (written-other (λ a b. Aside a b w) x q (Loose w) s y other)) tt)
      | inl same ↦ inr (λ b k bt wants. (
          let here : l.dest ≡ x = ap (λ (v : Letter). v.dest) at.2 ∙ same.0 in
          alone (sym same.1 ∙ put_page n s y w p i l at asks) b k bt
          (subst (λ v. IsRequest p v k) here wants)
          ))
    ]

    pub freed_order : IsInOrder m m' n freeing p o x (freed x q) IsNoPlace ⊥
    freed_order = record {
      stays = stays_freed;
      later = λ a ne. later_freed a;
      come = come_freed;
      order = λ a b k l i j at bt asks wants same one two h.
          order_freed a b k l i j at bt asks wants h;
      put = put_freed;
      entries = λ y ne. written-other n.entry x q z y p (inl ne);
      hints = hints;
    }

-- bytes are installed
pub installs_there : (n : Net) (x q : ℕ) (bytes : List ℕ) (a : Place) (l : Letter) → IsAt n a l
    → IsAt (installs n x q bytes) a l
installs_there n x q bytes (Underway i j k) l at = at
installs_there n x q bytes (Aside i y k) l at = at
installs_there n x q bytes (Loose k) l at = at

pub uninstalls : (n : Net) (x q : ℕ) (bytes : List ℕ) (a : Place) (l : Letter)
    → IsAt (installs n x q bytes) a l → IsAt n a l
uninstalls n x q bytes (Underway i j k) l at = at
uninstalls n x q bytes (Aside i y k) l at = at
uninstalls n x q bytes (Loose k) l at = at

module _ (m m' : ℕ → Hints) (n n' : Net) (p o x : ℕ) (now : Place → Place)
    (Gone : Place → Type 0) (Serves : Type 0) (y q : ℕ) (bytes : List ℕ) where
  pub installed_order : IsInOrder m m' n n' p o x now Gone Serves
      → IsInOrder m m' n (installs n' y q bytes) p o x now Gone Serves
  installed_order step = record {
    stays = λ i a l at asks. elim (step.stays i a l at asks) [
      | inr gone ↦ inr gone
      | inl k ↦ inl (
        record {
          letter = k.0.letter;
          there = installs_there n' y q bytes (now a) k.0.letter k.0.there;
          dest = k.0.dest;
          says = k.0.says;
          from = k.0.from;
        },
        k.1,
      )
    ];
    later = step.later;
    come = step.come;
    order = step.order;
    put = step.put;
    entries = step.entries;
    hints = step.hints;
  }

-- all stays as it is
pub same_order : (m : ℕ → Hints) (n : Net) (p o x : ℕ)
    → IsInOrder m m n n p o x (λ a. a) IsNoPlace ⊥
same_order m n p o x = record {
  stays = λ i a l at asks. inl (kept_so n a l at, λ f. f);
  later = λ a ne. inl refl;
  come = λ a h. h;
  order = λ a b k l i j at bt asks wants same one two h. h;
  put = λ a l i at asks h. inl h;
  entries = λ y ne. refl;
  hints = λ y ne. refl;
}
