-- Steps of an owner that gives a copy, or the page: who is in its copy set stays covered.
use Rattle.std.proofs.Common.{◌≡◌, ℕ, true, false, [], ◌∷◌, refl, sym, ap, ◌∙◌, inl, inr, subst}
use Rattle.std.proofs.lemmas.Bool.{cases_eq, cases_Bool, both_ways}
use Rattle.std.specs.Ordering.{nat_cmp}
use Rattle.std.specs.FinSet as set
use Rattle.std.specs.FinSet.{contains-empty}
use Rattle.ivy_model.specs.declared.Config.{Config}
use Rattle.ivy_model.specs.stated.Config.{IsConfig}
use Rattle.ivy_wire.specs.declared.Content.TheVariants as content
use Rattle.ivy_wire.specs.stated.Data.{Content}
use Rattle.ivy_pagetable.specs.declared.Entry.{Entry}
use Rattle.ivy_pagetable.specs.declared.Entry.TheVariants as entry
use Rattle.ivy_pagetable.specs.stated.NodeSets.{Nodes, IsBelow, bits_of, nodes_with}
use Rattle.ivy_pagetable.specs.stated.Entries.{readable, is_owner, copies_of, without, sharing}
use Rattle.ivy_pagetable.proofs.Bits.{with_bits_of, remove_below}
use Rattle.ivy_wire.specs.stated.Posts.{parcel_to}
use Rattle.proof_table.specs.stated.Letters.{Letter, Net}
use Rattle.proof_table.specs.transitions.Letters.{goes_on}
use Rattle.proof_table.specs.stated.Orderly.{Collects, HasCopy, reads, comes, OwnerPlace, At, In, IsOwned, IsOrderly}
use Rattle.proof_table.specs.transitions.TableSteps.{letter, Served}
use Rattle.proof_table.proofs.transitions.Members.{with_itself, with_no_other}
use Rattle.proof_table.proofs.transitions.Places.{served}
use Rattle.proof_table.proofs.transitions.Sole.{owned_here, no_other_owner, no_page_comes, no_acks}
use Rattle.proof_table.proofs.routing.OwedKept.{was_in}
use Rattle.proof_table.proofs.routing.Remaining.{IsOnly, IsCounted, letter_there}
use Rattle.proof_worlds.proofs.progress.Shares.{HasShare, has, gave, HasAccurateCopySets, share_stays}
use Rattle.proof_worlds.proofs.progress.Sharing.{answer, others_remain, answer_covered, only_no_share}

-- in an orderly net the node that owns a page is the only one
pub sole_owner : (c : Config) (n : Net) → IsOrderly c n → (x p : ℕ) (z : Entry) → n.entry x p ≡ z
    → is_owner z ≡ true → (i : ℕ) (s : Nodes) (a : OwnerPlace) → IsOwned n p i s a
    → (i ≡ x) × (s ≡ copies_of z)
sole_owner c n order x p z is own i s a h =
    let same : a ≡ At x =
    order.one_owner p i x s (copies_of (n.entry x p)) a (At x) h
    (owned_here c n order x p (ap is_owner is ∙ own)) in
    let at : IsOwned n p i s (At x) = subst (IsOwned n p i s) same h in (
      sym at.0,
      at.2 ∙ ap (λ v. copies_of (n.entry v p)) (sym at.0) ∙ ap copies_of is,
    )

pub empty_has : (s : Nodes) (y : ℕ) → s ≡ set.empty → set.contains s y ≡ true → ⊥
empty_has s y none held =
    both_ways (set.contains s y) (ap (λ t. set.contains t y) none ∙ contains-empty nat_cmp y) held

-- whom an owner counts has a share
module _ (n : Net) (k : HasAccurateCopySets n) (x p : ℕ) (e : Entry) (is : n.entry x p ≡ e) where
  pub held_by : is_owner e ≡ true → (y : ℕ) → set.contains (copies_of e) y ≡ true → HasShare n x y p
  held_by own y held =
      k.members p x y (copies_of e) (At x) (refl, ap is_owner is ∙ own, sym (ap copies_of is)) held

-- an owner gives a copy
module _ (c : Config) (n : Net) (order : IsOrderly c n) (counted : IsCounted n) (k : HasAccurateCopySets n)
    (r : Served c n entry.Idle content.ReadReq) (owner : r.state.owner ≡ true) where
  open r use {node as x, page as p, from, origin as o, call, state as s, rest, loose, foreign, is}

  abbrev shared : Entry
  shared = entry.Idle (sharing (set.insert s.copies o))

  abbrev shared_net : Net
  shared_net =
      goes_on n x p shared rest (parcel_to x o o call (content.ReadRep p (n.page x p)) ∷ [])

  share_here : IsOrderly c shared_net → (i y : ℕ) (w : Nodes) (a : OwnerPlace)
      → IsOwned shared_net p i w a → set.contains w y ≡ true → HasShare shared_net i y p
  share_here after i y w a h held =
      let step =
      answer c n k r shared o (content.ReadRep p (n.page x p)) (λ j q g. g) (λ j q g. g) in
      let sole = sole_owner c shared_net after x p shared step.after refl i w a h in
      elim (cases_eq o y) [
        | inl reader ↦ (
            let there =
            letter_there n x p shared rest o o call (content.ReadRep p (n.page x p)) counted in
            has (comes there.0 (letter x o o call (content.ReadRep p (n.page x p))) (n.page x p)
            there.1 reader refl)
            )
        | inr ne ↦ (
            let before : set.contains s.copies y ≡ true =
            elim (cases_Bool (set.contains s.copies y)) [
              | inl there ↦ there
              | inr out ↦
                  absurd (both_ways (set.contains w y) (ap (λ t. set.contains t y) sole.1 ∙ with_no_other s.copies o y ne out)
                  held)
            ] in
            subst (λ v. HasShare shared_net v y p) (sym sole.0)
            (share_stays n shared_net x p (entry.Idle s) shared served _ step
            (IsOnly (letter from x o call (content.ReadReq p)))
            (others_remain c n k r shared o (content.ReadRep p (n.page x p)) (λ j q g. g)
            (λ j q g. g)) x y p
            (λ here q read. has (reads
            (ap (λ v. readable (shared_net.entry v p)) here ∙ ap readable step.after)))
            (λ l gone share. absurd
            (only_no_share (letter from x o call (content.ReadReq p)) l x y p tt gone share))
            (held_by n k x p (entry.Idle s) is owner y before))
            )
      ]

  pub share_covered : IsOrderly c shared_net → HasAccurateCopySets shared_net
  share_covered after =
      answer_covered c n k r shared o (content.ReadRep p (n.page x p)) (λ j q g. g) (λ j q g. g)
      refl refl
      (λ own unwritten none. empty_has (set.insert s.copies o) o none (with_itself s.copies o))
      (share_here after)

-- an owner gives the page
module _ (c : Config) (config : IsConfig c) (n : Net) (order : IsOrderly c n) (k : HasAccurateCopySets n)
    (r : Served c n entry.Idle content.WriteReq) (owner : r.state.owner ≡ true)
    (low : IsBelow c.nodes r.state.copies) where
  open r use {node as x, page as p, from, origin as o, call, state as s, rest, loose, foreign, is}

  abbrev given : Content
  given = content.WriteRep p (bits_of (set.remove s.copies o)) (n.page x p)

  abbrev given_net : Net
  given_net = goes_on n x p (entry.Idle without) rest (parcel_to x o o call given ∷ [])

  own : is_owner (n.entry x p) ≡ true
  own = ap is_owner is ∙ owner

  -- the copies that go with the page
  given_copies : (i : ℕ) (w : Nodes) (a : OwnerPlace) → IsOwned given_net p i w a
      → w ≡ nodes_with (bits_of (set.remove s.copies o))
  given_copies i w (At v) h =
      let step = answer c n k r (entry.Idle without) o given (λ j q g. g) (λ j q g. g) in
      elim (step.elsewhere i p) [
        | inl same ↦
            absurd (
            let f : true ≡ false =
            sym h.1 ∙ ap (λ b. is_owner (given_net.entry b p)) same.0 ∙ ap is_owner step.after in
            cc
            )
        | inr other ↦ elim other.0 [
          | inl ne ↦
              absurd (no_other_owner c n order x p own i ne (ap is_owner (sym other.1) ∙ h.1))
          | inr ne ↦ absurd (ne refl)
        ]
      ]
  given_copies i w (In b) h =
      let step = answer c n k r (entry.Idle without) o given (λ j q g. g) (λ j q g. g) in
      elim (step.letters b h.0 h.3) [
        | inl old ↦ absurd (no_page_comes c n order x p own old.0 h.0 h.1 h.2 old.1 h.5)
        | inr new ↦ (
            let f : given ≡ content.WriteRep p h.1 h.2 =
            ap (λ (m : Letter). m.message.content) (sym new.1) ∙ h.5 in
            let g : bits_of (set.remove s.copies o) ≡ h.1 = cc in
            h.6 ∙ ap nodes_with (sym g)
            )
      ]

  give_here : (i y : ℕ) (w : Nodes) (a : OwnerPlace) → IsOwned given_net p i w a
      → set.contains w y ≡ true → HasShare given_net i y p
  give_here i y w a h held =
      let left : set.contains (set.remove s.copies o) y ≡ true =
      ap (λ t. set.contains t y)
      (sym (with_bits_of c.nodes (set.remove s.copies o)
      config.nodes_to
      (remove_below c.nodes s.copies o low)) ∙ sym (given_copies i w a h))
      ∙ held in
      let before : set.contains s.copies y ≡ true = was_in s.copies o y left in
      let copy : HasCopy n y p = had (held_by n k x p (entry.Idle s) is owner y before) in
      share_stays n given_net x p (entry.Idle s) (entry.Idle without) served _
      (answer c n k r (entry.Idle without) o given (λ j q g. g) (λ j q g. g))
      (IsOnly (letter from x o call (content.WriteReq p)))
      (others_remain c n k r (entry.Idle without) o given (λ j q g. g) (λ j q g. g)) i y p
      (λ here q read. absurd
      (both_ways (set.contains s.copies y) (ap (set.contains s.copies) here ∙ ap (λ v. set.contains (copies_of v) x) (sym is)
      ∙ order.others p x (copies_of (n.entry x p)) (At x) (owned_here c n order x p own))
      before))
      (λ l gone share. absurd
      (only_no_share (letter from x o call (content.WriteReq p)) l i y p tt gone share))
      (has copy)
    where
      had : {y : ℕ} → HasShare n x y p → HasCopy n y p
      had (has copy) = copy
      had (gave ack) = absurd
          (no_acks c n order x p (λ j node g. subst (λ v. Collects v j node) is g)
          (no_other_owner c n order x p own) ack.at ack.letter ack.there ack.says)

  pub give_covered : HasAccurateCopySets given_net
  give_covered =
      answer_covered c n k r (entry.Idle without) o given (λ j q g. g) (λ j q g. g) refl refl
      (λ owns. absurd (let f : false ≡ true = owns in cc)) give_here
