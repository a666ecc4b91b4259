-- A word that writes is carried out: no other node has a copy then, and none is on its way, so all
-- copies are those of the flat memory after it.
use Rattle.std.proofs.Common.{◌≡◌, ◌≢◌, ◌⊎◌, ◌<◌, ℕ, Bool, true, false, List, length, refl, sym, ap, ◌∙◌, subst, inl, inr, if◌then◌else◌}
use Rattle.std.proofs.lemmas.Bool.{cases_eq, eq-eqb, ne_eqb}
use Rattle.std.specs.Ordering.{nat_cmp}
use Rattle.std.specs.FinSet as set
use Rattle.std.specs.FinSet.{contains-empty}
use Rattle.ivy_model.specs.declared.Config.{Config}
use Rattle.ivy_wire.specs.declared.Content.TheVariants as content
use Rattle.ivy_pagetable.specs.declared.Access.{Access}
use Rattle.ivy_pagetable.specs.declared.Access.TheVariants.{Nil, Read, Write}
use Rattle.ivy_pagetable.specs.declared.Entry.TheVariants as entry
use Rattle.ivy_pagetable.specs.declared.Word.{Word}
use Rattle.ivy_pagetable.specs.stated.States.{IdleState}
use Rattle.ivy_pagetable.specs.stated.Accesses.{reads as can_read, writes as can_write, suffices}
use Rattle.ivy_pagetable.specs.stated.Entries.{readable, writable, is_owner, copies_of}
use Rattle.ivy_pagetable.specs.stated.Words.{IsWord, needs_write, carried_out}
use Rattle.ivy_pagetable.proofs.Words.{length-carried_out, unwritten_bytes}
use Rattle.proof_table.specs.stated.Letters.{Letter, Net, Place, Underway, Aside, Loose, IsAt}
use Rattle.proof_table.specs.transitions.Letters.{installs}
use Rattle.proof_table.specs.stated.Orderly.{AwaitsCopy, HasCopy, reads, comes, At, IsExpectedAs, IsOrderly}
use Rattle.proof_table.specs.transitions.TableSteps.{with_flat_page}
use Rattle.proof_table.proofs.transitions.Places.{written_here, written-other, same_or_other}
use Rattle.proof_table.proofs.transitions.Sole.{fits_as, no_other_owner, no_page_comes}
use Rattle.proof_worlds.specs.consistency.Copied.{HasBytes, CarriesCurrent, IsCopied}
use Rattle.proof_worlds.proofs.consistency.CopiedSteps.{carries_on}

-- who may write may read, and a word writes or leaves the bytes as they are
enough_reads : (a : Access) (write : Bool) → (if write then can_write a else can_read a) ≡ true
    → can_read a ≡ true
enough_reads Nil true h = h
enough_reads Read true h = refl
enough_reads Write true h = refl
enough_reads a false h = h

pub suffices_reads : (a : Access) (w : Word) → suffices a w ≡ true → can_read a ≡ true
suffices_reads a w h = enough_reads a (needs_write w) h

suffices_writes : (a : Access) (w : Word) → suffices a w ≡ true → needs_write w ≡ true
    → can_write a ≡ true
suffices_writes a w h write =
    ap (λ (b : Bool). if b then can_write a else can_read a) (sym write) ∙ h

writes_by : (w : Word) (bytes : List ℕ) (b : Bool) → needs_write w ≡ b
    → ((carried_out w bytes).bytes ≡ bytes) ⊎ (needs_write w ≡ true)
writes_by w bytes true is = inr is
writes_by w bytes false is = inl (unwritten_bytes w bytes is)

pub writes_or_reads : (w : Word) (bytes : List ℕ)
    → ((carried_out w bytes).bytes ≡ bytes) ⊎ (needs_write w ≡ true)
writes_or_reads w bytes = writes_by w bytes (needs_write w) refl

pub with_page-here : (f : ℕ → List ℕ) (p : ℕ) (bytes : List ℕ) (q : ℕ) → q ≡ p
    → with_flat_page f p bytes q ≡ bytes
with_page-here f p bytes q same = ap (λ (b : Bool). if b then bytes else f q) (eq-eqb q p same)

pub with_page-other : (f : ℕ → List ℕ) (p : ℕ) (bytes : List ℕ) (q : ℕ) → q ≢ p
    → with_flat_page f p bytes q ≡ f q
with_page-other f p bytes q ne = ap (λ (b : Bool). if b then bytes else f q) (ne_eqb q p ne)

module _ (c : Config) (n : Net) (f : ℕ → List ℕ) (x p : ℕ) (s : IdleState) (w : Word)
    (is : n.entry x p ≡ entry.Idle s) (enough : suffices s.access w ≡ true) where
  -- the bytes that the node has are the flat memory's
  pub bytes_there : IsCopied c n f → n.page x p ≡ f p
  bytes_there h = h.had x p (inl (ap readable is ∙ suffices_reads s.access w enough))

  module _ (o : IsOrderly c n) (write : needs_write w ≡ true) where
    sole : (is_owner (n.entry x p) ≡ true) × (copies_of (n.entry x p) ≡ set.empty)
    sole = o.alone x p (ap writable is ∙ suffices_writes s.access w enough write)

    no_copy : (i : ℕ) → i ≢ x → HasCopy n i p → ⊥
    no_copy i ne has = (
        let counted : set.contains (copies_of (n.entry x p)) i ≡ true =
        o.counted p x i (copies_of (n.entry x p)) (At x) (refl, sole.0, refl) ne has in
        let f : true ≡ false =
        sym counted ∙ ap (λ t. set.contains t i) sole.1 ∙ contains-empty nat_cmp i in
        cc
        )

    nobody_else : (i : ℕ) → i ≢ x → HasBytes (n.entry i p) → ⊥
    nobody_else i ne (inl h) = no_copy i ne (reads h)
    nobody_else i ne (inr h) = no_other_owner c n o x p sole.0 i ne h

    no_copy_comes : (a : Place) (l : Letter) (bytes : List ℕ) → IsAt n a l
        → l.message.content ≡ content.ReadRep p bytes → ⊥
    no_copy_comes a l bytes at body = elim (cases_eq l.dest x) [
      | inr ne ↦ no_copy l.dest ne (comes a l bytes at refl body)
      | inl same ↦ (
          let fit : IsExpectedAs c n l (content.ReadRep p bytes) =
          fits_as c n o a l (content.ReadRep p bytes) at body in
          subst (λ y. AwaitsCopy y l.message.call) (ap (λ i. n.entry i p) (sym fit.1 ∙ same) ∙ is)
          fit.2
          )
    ]

  module _ (o : IsOrderly c n) (h : IsCopied c n f) (here : x < c.nodes) (inside : p < c.pages)
      (lies : IsWord c.page_size w) where
    abbrev now : List ℕ
    now = (carried_out w (n.page x p)).bytes

    abbrev flat_now : List ℕ
    flat_now = (carried_out w (f p)).bytes

    same_now : now ≡ flat_now
    same_now = ap (λ b. (carried_out w b).bytes) (bytes_there h)

    -- the flat memory's bytes of a page that another has are those before
    flat_same : (q : ℕ) → (q ≡ p → needs_write w ≡ true → ⊥) → with_flat_page f p flat_now q ≡ f q
    flat_same q none = elim (cases_eq q p) [
      | inr ne ↦ with_page-other f p flat_now q ne
      | inl same ↦ with_page-here f p flat_now q same ∙ elim (writes_or_reads w (f p)) [
        | inl e ↦ e ∙ ap f (sym same)
        | inr write ↦ absurd (none same write)
      ]
    ]

    only_here : (i q : ℕ) → (i ≢ x) ⊎ (q ≢ p) → HasBytes (n.entry i q) → q ≡ p
        → needs_write w ≡ true → ⊥
    only_here i q other has same write = elim other [
      | inl ne ↦ nobody_else o write i ne (subst (λ r. HasBytes (n.entry i r)) same has)
      | inr ne ↦ ne same
    ]

    had : (i q : ℕ) → HasBytes (n.entry i q)
        → (installs n x p now).page i q ≡ with_flat_page f p flat_now q
    had i q has = elim (same_or_other i q x p) [
      | inl same ↦
          written_here n.page x p now i q same.0 same.1 ∙ same_now
          ∙ sym (with_page-here f p flat_now q same.1)
      | inr other ↦
          written-other n.page x p now i q other ∙ h.had i q has
          ∙ sym (flat_same q (only_here i q other has))
    ]

    carried : (a : Place) (l : Letter) → IsAt n a l
        → CarriesCurrent (with_flat_page f p flat_now) l.message.content
    carried a l at = carries_on f (with_flat_page f p flat_now) l.message.content
        (λ q bytes body. flat_same q
        (λ same write. no_copy_comes o write a l bytes at
        (body ∙ ap (λ r. content.ReadRep r bytes) same)))
        (λ q bits bytes body. flat_same q
        (λ same write. no_page_comes c n o x p (sole o write).0 a l bits bytes at
        (body ∙ ap (λ r. content.WriteRep r bits bytes) same)))
        (h.carried a l at)

    letters : (a : Place) (l : Letter) → IsAt (installs n x p now) a l
        → CarriesCurrent (with_flat_page f p flat_now) l.message.content
    letters (Underway i j k) l at = carried (Underway i j k) l at
    letters (Aside i q k) l at = carried (Aside i q k) l at
    letters (Loose k) l at = carried (Loose k) l at

    flat_long : length flat_now ≡ c.page_size
    flat_long =
        let long : length (f p) ≡ c.page_size = h.flat_sized p inside in
        length-carried_out w (f p) (subst (λ k. IsWord k w) (sym long) lies) ∙ long

    pub word_copied : IsCopied c (installs n x p now) (with_flat_page f p flat_now)
    word_copied = record {
      had = had;
      carried = letters;
      flat_sized = λ q within. elim (cases_eq q p) [
        | inl same ↦ ap length (with_page-here f p flat_now q same) ∙ flat_long
        | inr ne ↦ ap length (with_page-other f p flat_now q ne) ∙ h.flat_sized q within
      ];
      sized = λ i q low within. elim (same_or_other i q x p) [
        | inl same ↦
            ap length (written_here n.page x p now i q same.0 same.1 ∙ same_now) ∙ flat_long
        | inr other ↦ ap length (written-other n.page x p now i q other) ∙ h.sized i q low within
      ];
    }
