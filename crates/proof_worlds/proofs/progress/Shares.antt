-- Who is in a copy set has a copy, or gets one, or has given it up and its owner does not know yet;
-- and a copy set is empty only at an owner that may write.
use Rattle.std.proofs.Common.{◌≡◌, ◌≢◌, ◌⊎◌, ℕ, true, false, List, sym, ap, ◌∙◌, inl, inr, subst}
use Rattle.std.proofs.lemmas.Bool.{cases_eq}
use Rattle.std.specs.FinSet as set
use Rattle.ivy_wire.specs.declared.Content.TheVariants as content
use Rattle.ivy_pagetable.specs.declared.Entry.{Entry}
use Rattle.ivy_pagetable.specs.declared.Entry.TheVariants as entry
use Rattle.ivy_pagetable.specs.stated.NodeSets.{Nodes}
use Rattle.ivy_pagetable.specs.stated.Accesses.{writes}
use Rattle.ivy_pagetable.specs.stated.Entries.{readable, is_owner, copies_of}
use Rattle.proof_table.specs.stated.Letters.{Letter, Net, Place, IsAt}
use Rattle.proof_table.specs.stated.Orderly.{HasCopy, reads, comes, OwnerPlace, At, In, IsOwned}
use Rattle.proof_table.proofs.transitions.Needs.{page_of}
use Rattle.proof_table.proofs.transitions.Owners.{IsNoMove, owner_before}
use Rattle.proof_table.proofs.transitions.NetSteps.{IsStep}
use Rattle.proof_table.specs.stated.Sending.{IsPosted}
use Rattle.proof_table.proofs.routing.Remaining.{IsThere, Remain, IsNothing}

-- the node has a copy, or has given it up, of which the owner is being told
pub data HasShare (n : Net) (owner node page : ℕ) : Type 0 where
  has : HasCopy n node page → HasShare n owner node page
  gave : IsPosted n (content.InvalAck page) node owner → HasShare n owner node page

-- an owner that may not write has given copies, and one that collects acknowledgements misses some
abbrev pub IsOccupied : Entry → Type 0
IsOccupied (entry.Idle s) =
    s.owner ≡ true → writes s.access ≡ false → s.copies ≢ set.empty
IsOccupied (entry.AwaitRead s) = Unit {0}
IsOccupied (entry.AwaitWrite s) = Unit {0}
IsOccupied (entry.AwaitAcks s) = s.left ≢ set.empty

pub record HasAccurateCopySets (n : Net) : Type 0 where
  pub members : (p i y : ℕ) (s : Nodes) (a : OwnerPlace) → IsOwned n p i s a → set.contains s y ≡ true
      → HasShare n i y p
  pub occupied : (i p : ℕ) → IsOccupied (n.entry i p)

-- a letter that is a copy on its way to the node, or that tells the owner of its end
abbrev pub IsShareOf : Letter → ℕ → ℕ → ℕ → Type 0
IsShareOf l owner node page =
    ((l.dest ≡ node) × ((bytes : List ℕ) × (l.message.content ≡ content.ReadRep page bytes)))
    ⊎ ((l.source ≡ node) × (l.dest ≡ owner) × (l.message.content ≡ content.InvalAck page))

-- such a letter is about the page
pub share_page : (l : Letter) (i y q : ℕ) → IsShareOf l i y q → page_of l.message.content ≡ q
share_page l i y q (inl h) = ap page_of h.1.1
share_page l i y q (inr h) = ap page_of h.2

-- where the entries and the letters are the same
module _ (n n' : Net) (same : (i q : ℕ) → n'.entry i q ≡ n.entry i q)
    (old : (a : Place) (l : Letter) → IsAt n' a l → (b : Place) × IsAt n b l)
    (remain : Remain n n' IsNothing) where
  still : (a : Place) (l : Letter) → IsAt n a l → IsThere n' l
  still a l at = elim (remain a l at) [ inl h ↦ h | inr none ↦ absurd none ]

  shared : (i y q : ℕ) → HasShare n i y q → HasShare n' i y q
  shared i y q (has (reads h)) = has (reads (ap readable (same y q) ∙ h))
  shared i y q (has (comes a l bytes at dest is)) =
      (let h = still a l at in has (comes h.0 l bytes h.1 dest is))
  shared i y q (gave k) =
      let h = still k.at k.letter k.there in
      gave (record {
        at = h.0;
        letter = k.letter;
        there = h.1;
        from = k.from;
        dest = k.dest;
        says = k.says;
      })

  owned : (p i : ℕ) (s : Nodes) (a : OwnerPlace) → IsOwned n' p i s a → (b : OwnerPlace) × IsOwned n p i s b
  owned p i s (At w) h =
      (At w, (h.0, ap is_owner (sym (same i p)) ∙ h.1, h.2 ∙ ap copies_of (same i p)))
  owned p i s (In a) h =
      let b = old a h.0 h.3 in (In b.0, (h.0, h.1, h.2, b.1, h.4, h.5, h.6))

  pub part_covered : HasAccurateCopySets n → HasAccurateCopySets n'
  part_covered k = record {
    members = λ p i y s a h held.
        (let b = owned p i s a h in shared i y p (k.members p i y s b.0 b.1 held));
    occupied = λ i p. subst IsOccupied (sym (same i p)) (k.occupied i p);
  }

-- a step that writes an entry
module _ (n n' : Net) (x p : ℕ) (e z : Entry) (now : Place → Place) (New : Place → Letter → Type 0)
    (step : IsStep n n' x p e z now New) (Gone : Letter → Type 0) (remain : Remain n n' Gone) where
  -- a share stays, but for the reader whose entry is written and for the letter that goes
  pub share_stays : (i y q : ℕ) → (y ≡ x → q ≡ p → readable e ≡ true → HasShare n' i y q)
      → ((l : Letter) → Gone l → IsShareOf l i y q → HasShare n' i y q)
      → HasShare n i y q → HasShare n' i y q
  share_stays i y q here gone (has (reads h)) = elim (step.elsewhere y q) [
    | inl same ↦ here same.0 same.1
        (ap readable (sym step.before) ∙ ap (λ b. readable (n.entry x b)) (sym same.1)
        ∙ ap (λ a. readable (n.entry a q)) (sym same.0) ∙ h)
    | inr other ↦ has (reads (ap readable other.1 ∙ h))
  ]
  share_stays i y q here gone (has (comes a l bytes at dest is)) = elim (remain a l at) [
    | inl there ↦ has (comes there.0 l bytes there.1 dest is)
    | inr g ↦ gone l g (inl (dest, (bytes, is)))
  ]
  share_stays i y q here gone (gave k) = elim (remain k.at k.letter k.there) [
    | inl there ↦
        gave (record {
          at = there.0;
          letter = k.letter;
          there = there.1;
          from = k.from;
          dest = k.dest;
          says = k.says;
        })
    | inr g ↦ gone k.letter g (inr (k.from, k.dest, k.says))
  ]

  -- a step at this page alone: what has to be shown of it there
  pub record IsCovering : Type 0 where
    pub about : (l : Letter) → Gone l → page_of l.message.content ≡ p
    pub new_about : (a : Place) (l : Letter) → New a l → page_of l.message.content ≡ p
    pub entry : IsOccupied z
    pub here : (i y : ℕ) (s : Nodes) (a : OwnerPlace) → IsOwned n' p i s a → set.contains s y ≡ true
        → HasShare n' i y p

  module _ (covering : IsCovering) (k : HasAccurateCopySets n) where
    elsewhere : (q : ℕ) → q ≢ p → (i y : ℕ) (s : Nodes) (a : OwnerPlace) → IsOwned n' q i s a
        → set.contains s y ≡ true → HasShare n' i y q
    elsewhere q ne i y s a h held =
        let was = owner_before n n' x p e z now New step q
        (record {
          owner = λ same. absurd (ne same);
          moved = λ b l bits bytes new is. ne
              (ap page_of (sym is) ∙ covering.new_about b l new);
        }) i s a h in
        share_stays i y q (λ here same. absurd (ne same))
        (λ l gone share. absurd (ne (sym (share_page l i y q share) ∙ covering.about l gone)))
        (k.members q i y s was.0 was.1 held)

    pub step_covered : HasAccurateCopySets n'
    step_covered = record {
      members = λ q i y s a h held. elim (cases_eq q p) [
        | inl same ↦
            subst (λ b. HasShare n' i y b) (sym same)
            (covering.here i y s a (subst (λ b. IsOwned n' b i s a) same h) held)
        | inr ne ↦ elsewhere q ne i y s a h held
      ];
      occupied = λ i q. elim (step.elsewhere i q) [
        | inl same ↦
            subst IsOccupied
            (sym (ap (λ a. n'.entry a q) same.0 ∙ ap (n'.entry x) same.1 ∙ step.after))
            covering.entry
        | inr other ↦ subst IsOccupied (sym other.1) (k.occupied i q)
      ];
    }

  -- where neither the owner of the page nor its copies change, but for what is told of them
  pub stays_here : IsNoMove n n' x p e z now New step p → HasAccurateCopySets n
      → ((i y : ℕ) (s : Nodes) (b : OwnerPlace) → IsOwned n p i s b → set.contains s y ≡ true
      → HasShare n i y p → HasShare n' i y p)
      → (i y : ℕ) (s : Nodes) (a : OwnerPlace) → IsOwned n' p i s a → set.contains s y ≡ true
      → HasShare n' i y p
  stays_here none k stays i y s a h held =
      let was = owner_before n n' x p e z now New step p none i s a h in
      stays i y s was.0 was.1 held (k.members p i y s was.0 was.1 held)
