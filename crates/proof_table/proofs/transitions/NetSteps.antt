-- A step from one net to another: an entry is written, one loose letter may be served, and new
-- letters may come. What has to be shown of it so that an orderly net stays so.
use Rattle.std.proofs.Common.{◌≡◌, ◌≢◌, ◌⊎◌, ℕ, true, false, slice_get, Some, sym, ap, ◌∙◌, subst, inl, inr}
use Rattle.std.specs.FinSet as set
use Rattle.ivy_model.specs.declared.Config.{Config}
use Rattle.ivy_wire.specs.declared.Content.TheVariants as content
use Rattle.ivy_pagetable.specs.declared.Entry.{Entry}
use Rattle.ivy_pagetable.specs.declared.PutOff.{PutOff}
use Rattle.ivy_pagetable.specs.declared.Request.TheVariants as request
use Rattle.ivy_pagetable.specs.stated.NodeSets.{Nodes}
use Rattle.ivy_pagetable.specs.stated.Entries.{put_offs, writable, is_owner, copies_of}
use Rattle.proof_table.specs.stated.Letters.{Letter, Net, Place, Loose, IsAt}
use Rattle.proof_table.specs.stated.Orderly.{CanWait, HasCopy, OwnerPlace, IsOwned, key_of, IsExpected, IsOrderly}
use Rattle.proof_table.proofs.transitions.Places.{IsOld}
use Rattle.proof_table.proofs.transitions.Needs.{page_of, Needs, needs, refit}

-- the three conjuncts on who owns a page
pub record IsAccounted (n : Net) : Type 0 where
  pub one_owner : (p i j : ℕ) (s t : Nodes) (a b : OwnerPlace) → IsOwned n p i s a → IsOwned n p j t b
      → a ≡ b
  pub counted : (p i x : ℕ) (s : Nodes) (a : OwnerPlace) → IsOwned n p i s a → x ≢ i → HasCopy n x p
      → set.contains s x ≡ true
  pub others : (p i : ℕ) (s : Nodes) (a : OwnerPlace) → IsOwned n p i s a → set.contains s i ≡ false

-- one entry is written, and each letter is an old one or a new one
pub record IsStep (n n' : Net) (x p : ℕ) (e z : Entry) (now : Place → Place)
    (New : Place → Letter → Type 0) : Type 0 where
  pub before : n.entry x p ≡ e
  pub after : n'.entry x p ≡ z
  pub elsewhere : (i q : ℕ)
      → ((i ≡ x) × (q ≡ p)) ⊎ ((i ≢ x) ⊎ (q ≢ p)) × (n'.entry i q ≡ n.entry i q)
  pub letters : (a : Place) (l : Letter) → IsAt n' a l → IsOld n now a l ⊎ New a l

module _ (c : Config) (n n' : Net) (x p : ℕ) (e z : Entry) (now : Place → Place)
    (New : Place → Letter → Type 0) where
  -- the needs of the letters that stay are met, and the new ones fit, and have keys of their own
  pub record IsTidy : Type 0 where
    pub keeps : (b : Place) (l : Letter) → IsAt n b l → b ≢ Loose 0 → l.message.origin ≡ x
        → page_of l.message.content ≡ p
        → Needs e l l.message.content → Needs z l l.message.content
    pub acks : (b : Place) (l : Letter) (q : ℕ) → IsAt n b l → b ≢ Loose 0
        → l.message.content ≡ content.InvalAck q
        → HasCopy n' l.source q → HasCopy n l.source q
    pub news : (a : Place) (l : Letter) → New a l → IsExpected c n' l
    pub fresh : (a b : Place) (l m : Letter) → New a l → IsAt n b m → b ≢ Loose 0
        → key_of l ≡ key_of m → ⊥
    pub apart : (a b : Place) (l m : Letter) → New a l → New b m → key_of l ≡ key_of m → a ≡ b
    pub foreign : (k : ℕ) (q : PutOff) → slice_get (put_offs z) k ≡ Some q → q.origin ≢ x
    pub orders : (k : ℕ) (q : PutOff) → slice_get (put_offs z) k ≡ Some q
        → q.kind ≡ request.Invalidate → CanWait z
    pub accounted : IsAccounted n'
    pub alone : writable z ≡ true → (is_owner z ≡ true) × (copies_of z ≡ set.empty)

  module _ (step : IsStep n n' x p e z now New) where
    -- what holds of the entry that is written, and held of the others
    pub either_entry : (P : ℕ → ℕ → Entry → Type 0) (i q : ℕ) → P x p z → P i q (n.entry i q)
        → P i q (n'.entry i q)
    either_entry P i q here there = elim (step.elsewhere i q) [
      | inl same ↦
          subst (λ a. P a q (n'.entry a q)) (sym same.0)
          (subst (λ b. P x b (n'.entry x b)) (sym same.1) (subst (P x p) (sym step.after) here))
      | inr other ↦ subst (P i q) (sym other.1) there
    ]

    module _ (tidy : IsTidy) (o : IsOrderly c n) where
      still_needs : (b : Place) (l : Letter) → IsAt n b l → b ≢ Loose 0
          → Needs (n'.entry l.message.origin (page_of l.message.content)) l l.message.content
      still_needs b l at stays =
          let need : Needs (n.entry l.message.origin (page_of l.message.content)) l
          l.message.content = needs c n l l.message.content (o.fits b l at) in
          elim (step.elsewhere l.message.origin (page_of l.message.content)) [
            | inr other ↦ subst (λ y. Needs y l l.message.content) (sym other.1) need
            | inl same ↦
                subst (λ y. Needs y l l.message.content)
                (sym (ap (λ i. n'.entry i (page_of l.message.content)) same.0
                ∙ ap (n'.entry x) same.1 ∙ step.after))
                (tidy.keeps b l at stays same.0 same.1
                (subst (λ y. Needs y l l.message.content)
                (ap (λ i. n.entry i (page_of l.message.content)) same.0 ∙ ap (n.entry x) same.1
                ∙ step.before) need))
          ]

      fits_after : (a : Place) (l : Letter) → IsAt n' a l → IsExpected c n' l
      fits_after a l at = elim (step.letters a l at) [
        | inl h ↦
            refit c n n' l l.message.content (o.fits h.0 l h.1) (still_needs h.0 l h.1 h.3)
            (λ q is. tidy.acks h.0 l q h.1 h.3 is)
        | inr h ↦ tidy.news a l h
      ]

      one_letter_after : (a b : Place) (l m : Letter) → IsAt n' a l → IsAt n' b m
          → key_of l ≡ key_of m → a ≡ b
      one_letter_after a b l m at bt same = elim (step.letters a l at) [
        | inl h ↦ elim (step.letters b m bt) [
          | inl k ↦ h.2 ∙ ap now (o.one_letter h.0 k.0 l m h.1 k.1 same) ∙ sym k.2
          | inr k ↦ absurd (tidy.fresh b h.0 m l k h.1 h.3 (sym same))
        ]
        | inr h ↦ elim (step.letters b m bt) [
          | inl k ↦ absurd (tidy.fresh a k.0 l m h k.1 k.3 same)
          | inr k ↦ tidy.apart a b l m h k same
        ]
      ]

      pub step_orderly : IsOrderly c n'
      step_orderly = record {
        fits = fits_after;
        one_letter = one_letter_after;
        foreign =
            λ i q k r. either_entry (λ a b y. slice_get (put_offs y) k ≡ Some r → r.origin ≢ a) i q
            (tidy.foreign k r) (o.foreign i q k r);
        orders =
            λ i q k r. either_entry
            (λ a b y. slice_get (put_offs y) k ≡ Some r → r.kind ≡ request.Invalidate → CanWait y) i
            q (tidy.orders k r) (o.orders i q k r);
        one_owner = tidy.accounted.one_owner;
        counted = tidy.accounted.counted;
        others = tidy.accounted.others;
        alone = λ i q. either_entry
            (λ a b y. writable y ≡ true → (is_owner y ≡ true) × (copies_of y ≡ set.empty)) i q
            tidy.alone (o.alone i q);
      }
