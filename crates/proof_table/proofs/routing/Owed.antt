-- Each row keeps it that whoever waits has its message: told by keys, whatever the manager.
use Rattle.std.proofs.Common.{◌≡◌, ◌≢◌, ◌⊎◌, ℕ, true, List, [], slice_get, Some, sym, ap, ◌∙◌, subst, inl, inr, refl}
use Rattle.std.specs.FinSet as set
use Rattle.ivy_wire.specs.stated.Data.{Message, Parcel}
use Rattle.ivy_pagetable.specs.declared.Entry.{Entry}
use Rattle.ivy_pagetable.specs.declared.Entry.TheVariants as entry
use Rattle.ivy_pagetable.specs.declared.PutOff.{PutOff}
use Rattle.ivy_pagetable.specs.stated.Entries.{with_put_off}
use Rattle.proof_table.specs.stated.Letters.{Letter, Net}
use Rattle.proof_table.specs.transitions.Letters.{goes_on, installs}
use Rattle.proof_table.specs.stated.Orderly.{Key, Own, Order, key_of}
use Rattle.proof_table.specs.transitions.TableSteps.{taken}
use Rattle.proof_table.proofs.transitions.Needs.{key_origin, key_page}
use Rattle.proof_table.proofs.transitions.Places.{written_here, written-other, same_or_other}
use Rattle.proof_table.proofs.routing.Remaining.{HasKey, Remain, IsNothing, IsCounted, still_counted, installed_remain, taken_remain, taken_counted}

-- a word that waits at this entry of the node waits for a letter with this key
abbrev pub Wants : Entry → ℕ → ℕ → Key → Type 0
Wants (entry.Idle s) node page k = ⊥
Wants (entry.AwaitRead s) node page k = k ≡ Own node page
Wants (entry.AwaitWrite s) node page k = k ≡ Own node page
Wants (entry.AwaitAcks s) node page k =
    (target : ℕ) × (set.contains s.left target ≡ true) × (k ≡ Order node target page)

-- and the letter is there
pub record IsOwed (n : Net) : Type 0 where
  pub counted : IsCounted n
  pub owed : (i q : ℕ) (k : Key) → Wants (n.entry i q) i q k → HasKey n k

-- the key names the node and the page
wants_origin : (e : Entry) (i q : ℕ) (k : Key) → Wants e i q k → key_origin k ≡ i
wants_origin (entry.Idle s) i q k w = absurd w
wants_origin (entry.AwaitRead s) i q k w = ap key_origin w
wants_origin (entry.AwaitWrite s) i q k w = ap key_origin w
wants_origin (entry.AwaitAcks s) i q k w = ap key_origin w.2

wants_page : (e : Entry) (i q : ℕ) (k : Key) → Wants e i q k → key_page k ≡ q
wants_page (entry.Idle s) i q k w = absurd w
wants_page (entry.AwaitRead s) i q k w = ap key_page w
wants_page (entry.AwaitWrite s) i q k w = ap key_page w
wants_page (entry.AwaitAcks s) i q k w = ap key_page w.2

-- to put a message off changes nothing of what is waited for
pub put_wants : (e : Entry) (r : PutOff) (i q : ℕ) (k : Key) → Wants (with_put_off e r) i q k
    → Wants e i q k
put_wants (entry.Idle s) r i q k w = w
put_wants (entry.AwaitRead s) r i q k w = w
put_wants (entry.AwaitWrite s) r i q k w = w
put_wants (entry.AwaitAcks s) r i q k w = w

-- where no letter is gone, and the entries are the same
pub all_owed : (n n' : Net) → ((i q : ℕ) → n'.entry i q ≡ n.entry i q) → IsCounted n'
    → Remain n n' IsNothing → IsOwed n → IsOwed n'
all_owed n n' same counted remain o = record {
  counted = counted;
  owed = λ i q k w. (
      let h : HasKey n k = o.owed i q k (subst (λ e. Wants e i q k) (same i q) w) in
      elim (remain h.at h.letter h.there) [
        | inl there ↦ record { at = there.0; letter = h.letter; there = there.1; key = h.key }
        | inr none ↦ absurd none
      ]
      );
}

pub installed_owed : (n : Net) (x p : ℕ) (bytes : List ℕ) → IsOwed n → IsOwed (installs n x p bytes)
installed_owed n x p bytes o =
    all_owed n (installs n x p bytes) (λ i q. refl) o.counted (installed_remain n x p bytes) o

-- a letter is taken
module _ (n : Net) (s x : ℕ) (m : Message)
    (first : slice_get (n.posted s x) (n.delivered s x) ≡ Some m) (none : n.loose ≡ []) where
  abbrev after_taking : Net
  after_taking = taken n s x m

  pub taken_owed : IsOwed n → IsOwed after_taking
  taken_owed o =
      all_owed n after_taking (λ i q. refl) (taken_counted n s x m first none o.counted)
      (taken_remain n s x m first none) o

-- A node writes an entry, takes loose letters and posts parcels: what is waited for here was so
-- before, and is there, or is there now; and the letter that is gone was waited for here, or
-- another one takes its place.
module _ (n : Net) (x p : ℕ) (e z : Entry) (left : List Letter) (parcels : List Parcel)
    (is : n.entry x p ≡ e) (o : IsOwed n) (Gone : Letter → Type 0)
    (remain : Remain n (goes_on n x p z left parcels) Gone) where
  abbrev next : Net
  next = goes_on n x p z left parcels

  -- what is gone is not missed by who waits for this
  abbrev pub IsSpared : Key → Type 0
  IsSpared k = (l : Letter) → Gone l → key_of l ≡ k → HasKey next k

  spared : (k : Key) → IsSpared k → HasKey n k → HasKey next k
  spared k safe h = elim (remain h.at h.letter h.there) [
    | inl there ↦ record { at = there.0; letter = h.letter; there = there.1; key = h.key }
    | inr gone ↦ safe h.letter gone h.key
  ]

  pub step_owed : ((i q : ℕ) (k : Key) → (i ≢ x) ⊎ (q ≢ p) → Wants (n.entry i q) i q k → IsSpared k)
      → ((k : Key) → Wants z x p k → (Wants e x p k × IsSpared k) ⊎ HasKey next k) → IsOwed next
  step_owed others mine = record {
    counted = still_counted n x p z left parcels o.counted;
    owed = λ i q k w. elim (same_or_other i q x p) [
      | inr other ↦ (
          let was : Wants (n.entry i q) i q k =
          subst (λ y. Wants y i q k) (written-other n.entry x p z i q other) w in
          spared k (others i q k other was) (o.owed i q k was)
          )
      | inl same ↦ (
          let now : Wants z x p k =
          subst (λ b. Wants z x b k) same.1
          (subst (λ a. Wants z a q k) same.0
          (subst (λ y. Wants y i q k) (written_here n.entry x p z i q same.0 same.1) w)) in
          elim (mine k now) [
            | inr there ↦ there
            | inl old ↦ spared k old.1 (o.owed x p k (subst (λ y. Wants y x p k) (sym is) old.0))
          ]
          )
    ];
  }

  -- where what is gone has another one in its place
  pub stays_owed : ((k : Key) → IsSpared k)
      → ((k : Key) → Wants z x p k → Wants e x p k ⊎ HasKey next k) → IsOwed next
  stays_owed safe mine =
      step_owed (λ i q k other was. safe k)
      (λ k w. elim (mine k w) [ inl old ↦ inl (old, safe k) | inr new ↦ inr new ])

  -- where it is what this node waited for
  pub comes_owed : ((l : Letter) → Gone l → (key_origin (key_of l) ≡ x) × (key_page (key_of l) ≡ p))
      → ((k : Key) → Wants z x p k
      → (Wants e x p k × ((l : Letter) → Gone l → key_of l ≢ k)) ⊎ HasKey next k) → IsOwed next
  comes_owed about mine = step_owed
      (λ i q k other was l gone key. absurd (
      let f = about l gone in
      elim other [
        | inl ne ↦ ne (sym (wants_origin (n.entry i q) i q k was) ∙ ap key_origin (sym key) ∙ f.0)
        | inr ne ↦ ne (sym (wants_page (n.entry i q) i q k was) ∙ ap key_page (sym key) ∙ f.1)
      ]
      ))
      (λ k w. elim (mine k w) [
        | inl was ↦
            inl (was.0, λ l gone key. absurd (was.1 l gone key))
        | inr new ↦ inr new
      ])
