-- Where no letter is under way, no word waits (Li and Hudak 1989: a fault waits for the messages
-- that answer it): whoever waited would wait for a request that is put off where another one waits,
-- at a lower node.
use Rattle.std.proofs.Common.{◌≡◌, ◌<◌, ◌+◌, ℕ, zero, suc, true, false, [], slice_get, Some, refl, sym, ap, ◌∙◌, inl, inr, subst, arith}
use Rattle.std.proofs.lemmas.Bool.{cases_Bool, both_ways}
use Rattle.std.proofs.lemmas.Option.{none-some}
use Rattle.std.specs.Ordering.{nat_cmp}
use Rattle.std.specs.FinSet as set
use Rattle.std.specs.FinSet.{contains-empty}
use Rattle.ivy_model.specs.declared.Config.{Config}
use Rattle.ivy_wire.specs.declared.Content.TheVariants as content
use Rattle.ivy_wire.specs.stated.Data.{Content}
use Rattle.ivy_pagetable.specs.declared.Entry.{Entry}
use Rattle.ivy_pagetable.specs.declared.Entry.TheVariants as entry
use Rattle.ivy_pagetable.specs.declared.PutOff.{PutOff}
use Rattle.ivy_pagetable.specs.declared.Request.{Request}
use Rattle.ivy_pagetable.specs.declared.Request.TheVariants as request
use Rattle.ivy_pagetable.specs.stated.States.{AwaitAcksState}
use Rattle.ivy_pagetable.specs.stated.Entries.{put_offs, is_locked, is_owner, copies_of, readable}
use Rattle.ivy_pagetable.proofs.NodeSets.{sets_equal}
use Rattle.proof_table.specs.stated.Letters.{Letter, Net, Place, Underway, Aside, Loose, IsAt, content_of, letter_of}
use Rattle.proof_table.specs.stated.Orderly.{AwaitsCopy, AwaitsPage, Collects, CanWait, reads, comes, At, IsOrderly}
use Rattle.proof_table.proofs.transitions.Needs.{page_of}
use Rattle.proof_table.specs.stated.Descending.{IsAsked, GoDown}
use Rattle.proof_table.specs.stated.Sending.{IsPosted, HasPage, owns}
use Rattle.proof_table.specs.stated.Sending as sending
use Rattle.proof_table.specs.stated.Waiting.{IsAwaited, IsReadPending, asks_copy, gets_copy, IsWritePending, asks_page, gets_page, IsRecallPending, ordered, gave_up}
use Rattle.proof_worlds.proofs.progress.Shares.{HasShare, has, gave, IsOccupied, HasAccurateCopySets}
use Rattle.proof_worlds.proofs.progress.Sharing.{put_about}

-- no letter is under way, nor is one loose
pub record IsAtRest (n : Net) : Type 0 where
  pub underway : (i j k : ℕ) (l : Letter) → IsAt n (Underway i j k) l → ⊥
  pub loose : n.loose ≡ []

-- what can be put off
abbrev IsRequest : Content → Type 0
IsRequest (content.ReadReq page) = Unit {0}
IsRequest (content.WriteReq page) = Unit {0}
IsRequest (content.Inval page) = Unit {0}
IsRequest body = ⊥

put_request : (kind : Request) (p : ℕ) → IsRequest (content_of kind p)
put_request request.Read p = tt
put_request request.Write p = tt
put_request request.Invalidate p = tt

put_kind : (kind : Request) (p q : ℕ) → content_of kind p ≡ content.Inval q
    → kind ≡ request.Invalidate
put_kind request.Read p q h = cc
put_kind request.Write p q h = cc
put_kind request.Invalidate p q h = refl

put_locked : (e : Entry) (k : ℕ) (q : PutOff) → slice_get (put_offs e) k ≡ Some q
    → is_locked e ≡ true
put_locked (entry.Idle s) k q h = absurd (none-some q h)
put_locked (entry.AwaitRead s) k q h = refl
put_locked (entry.AwaitWrite s) k q h = refl
put_locked (entry.AwaitAcks s) k q h = refl

-- an order is put off only at a node that waits for a copy, which has none
wait_unread : (e : Entry) → CanWait e → readable e ≡ false
wait_unread (entry.Idle s) h = absurd h
wait_unread (entry.AwaitRead s) h = refl
wait_unread (entry.AwaitWrite s) h = absurd h
wait_unread (entry.AwaitAcks s) h = absurd h

module _ (c : Config) (n : Net) (rest : IsAtRest n) (order : IsOrderly c n) where
  -- each letter is put off at the node where it is
  aside : (a : Place) (l : Letter) → IsAt n a l
      → (x : ℕ) × (p : ℕ) × (k : ℕ) × (q : PutOff)
      × (slice_get (put_offs (n.entry x p)) k ≡ Some q) × (l ≡ letter_of x p q)
  aside (Underway i j k) l at = absurd (rest.underway i j k l at)
  aside (Aside x p k) l at = (x, p, k, at.0, at.1, at.2)
  aside (Loose k) l at = absurd (none-some l (ap (λ v. slice_get v k) (sym rest.loose) ∙ at))

  asks_only : (a : Place) (l : Letter) → IsAt n a l → IsRequest l.message.content
  asks_only a l at =
      let f = aside a l at in
      subst (λ (v : Letter). IsRequest v.message.content) (sym f.5) (put_request f.3.kind f.1)

  no_body : (a : Place) (l : Letter) (body : Content) → IsAt n a l → l.message.content ≡ body
      → IsRequest body
  no_body a l body at is = subst IsRequest is (asks_only a l at)

  -- so a word waits there
  locked_at : (a : Place) (l : Letter) (x p : ℕ) → IsAt n a l → l.dest ≡ x
      → page_of l.message.content ≡ p → is_locked (n.entry x p) ≡ true
  locked_at a l x p at dest page =
      let f = aside a l at in
      let node : f.0 ≡ x = ap (λ (v : Letter). v.dest) (sym f.5) ∙ dest in
      let about : f.1 ≡ p =
      sym (put_about f.3.kind f.1)
      ∙ ap (λ (v : Letter). page_of v.message.content) (sym f.5) ∙ page in
      ap (λ i. is_locked (n.entry i p)) (sym node) ∙ ap (λ q. is_locked (n.entry f.0 q)) (sym about)
      ∙ put_locked (n.entry f.0 f.1) f.2 f.3 f.4

  asked_locked : (body : Content) (p origin x : ℕ) → page_of body ≡ p → IsAsked n body origin x
      → is_locked (n.entry x p) ≡ true
  asked_locked body p origin x page k =
      locked_at k.at k.letter x p k.there k.dest (ap page_of k.asks ∙ page)

  -- who is ordered to give a copy up waits for one
  ordered_unread : (owner x p : ℕ) → IsPosted n (content.Inval p) owner x
      → readable (n.entry x p) ≡ false
  ordered_unread owner x p k =
      let f = aside k.at k.letter k.there in
      let says : content_of f.3.kind f.1 ≡ content.Inval p =
      ap (λ (v : Letter). v.message.content) (sym f.5) ∙ k.says in
      let node : f.0 ≡ x = ap (λ (v : Letter). v.dest) (sym f.5) ∙ k.dest in
      let about : f.1 ≡ p = sym (put_about f.3.kind f.1) ∙ ap page_of says in
      ap (λ i. readable (n.entry i p)) (sym node) ∙ ap (λ q. readable (n.entry f.0 q)) (sym about)
      ∙ wait_unread (n.entry f.0 f.1)
      (order.orders f.0 f.1 f.2 f.3 f.4 (put_kind f.3.kind f.1 p says))

  module _ (k : HasAccurateCopySets n) where
    -- nobody has a share in what is put off
    no_share_unread : (owner x p : ℕ) → readable (n.entry x p) ≡ false → HasShare n owner x p → ⊥
    no_share_unread owner x p unread (has (reads h)) = both_ways (readable (n.entry x p)) unread h
    no_share_unread owner x p unread (has (comes a l bytes at dest is)) =
        no_body a l (content.ReadRep p bytes) at is
    no_share_unread owner x p unread (gave ack) =
        no_body ack.at ack.letter (content.InvalAck p) ack.there ack.says

    -- nobody collects acknowledgements
    not_giving : (owner x p : ℕ) → HasShare n owner x p → IsRecallPending n owner x p → ⊥
    not_giving owner x p share (ordered o) =
        no_share_unread owner x p (ordered_unread owner x p o) share
    not_giving owner x p share (gave_up ack) =
        no_body ack.at ack.letter (content.InvalAck p) ack.there ack.says

    module _ (waits : IsAwaited n) (p : ℕ) (height : ℕ → ℕ) (down : GoDown n p height) where
      not_collecting : (x : ℕ) (s : AwaitAcksState) → n.entry x p ≡ entry.AwaitAcks s → ⊥
      not_collecting x s is =
          (subst IsOccupied is (k.occupied x p))
          (sets_equal s.left set.empty (λ y. elim (cases_Bool (set.contains s.left y)) [
            | inl held ↦ absurd (missed y held)
            | inr out ↦ out ∙ sym (contains-empty nat_cmp y)
          ]))
        where
          missed : (y : ℕ) → set.contains s.left y ≡ true → ⊥
          missed y held =
              not_giving x y p
              (k.members p x y s.left (At x) (refl, ap is_owner is, sym (ap copies_of is)) held)
              (waits.collectors x y p s.waiting.call
              (subst (λ e. Collects e s.waiting.call y) (sym is) (refl, held)))

      -- who waits for a copy, or for the page, waits for a lower node at which a word waits
      module _ (x : ℕ)
          (lower : (at : ℕ) → height at < height x → is_locked (n.entry at p) ≡ true → ⊥) where
        not_reading : IsReadPending n x p → ⊥
        not_reading (asks_copy at asked) =
            lower at (down.reads x at asked) (asked_locked (content.ReadReq p) p x at refl asked)
        not_reading (gets_copy source sent) =
            no_body sent.at sent.letter (content.ReadRep p sent.bytes) sent.there sent.brings

        page_away : is_owner (n.entry x p) ≡ false → HasPage n x p → ⊥
        page_away plain (owns own) = both_ways (is_owner (n.entry x p)) plain own
        page_away plain (sending.comes a l bits bytes at dest brings) =
            no_body a l (content.WriteRep p bits bytes) at brings

        not_writing : is_owner (n.entry x p) ≡ false → IsWritePending n x p → ⊥
        not_writing plain (asks_page at asked) =
            lower at (down.writes x at asked) (asked_locked (content.WriteReq p) p x at refl asked)
        not_writing plain (gets_page there) = page_away plain there

      -- no word waits below a height
      no_wait : (h x : ℕ) (e : Entry) → height x < h → n.entry x p ≡ e → is_locked e ≡ true → ⊥
      no_wait zero x e low is locked = omega (arith, low)
      no_wait (suc h) x (entry.Idle s) low is locked = (let f : false ≡ true = locked in cc)
      no_wait (suc h) x (entry.AwaitRead s) low is locked =
          not_reading x
          (λ at less there. no_wait h at (n.entry at p) (omega (arith, less, low)) refl there)
          (waits.readers x p s.call (subst (λ e. AwaitsCopy e s.call) (sym is) refl))
      no_wait (suc h) x (entry.AwaitWrite s) low is locked =
          not_writing x
          (λ at less there. no_wait h at (n.entry at p) (omega (arith, less, low)) refl there)
          (ap is_owner is)
          (waits.writers x p s.waiting.call
          (subst (λ e. AwaitsPage e s.waiting.call) (sym is) refl))
      no_wait (suc h) x (entry.AwaitAcks s) low is locked = not_collecting x s is

      -- no word waits at an entry of this page
      pub none_locked : (x : ℕ) → is_locked (n.entry x p) ≡ false
      none_locked x = elim (cases_Bool (is_locked (n.entry x p))) [
        | inl locked ↦ absurd (no_wait (height x + 1) x (n.entry x p) (omega arith) refl locked)
        | inr free ↦ free
      ]
