-- Steps by which comes what a word waits for: a copy, the page, an acknowledgement. What was put
-- off is loose then.
use Rattle.std.proofs.Common.{◌≡◌, ◌≢◌, ℕ, true, false, List, [], map, refl, sym, ap, ◌∙◌, subst, inl, inr}
use Rattle.std.proofs.lemmas.Bool.{cases_eq}
use Rattle.std.proofs.lemmas.Option.{none-some}
use Rattle.std.specs.Ordering.{nat_cmp}
use Rattle.std.specs.FinSet as set
use Rattle.std.specs.FinSet.{contains-empty}
use Rattle.ivy_model.specs.declared.Config.{Config}
use Rattle.ivy_wire.specs.declared.Content.TheVariants as content
use Rattle.ivy_pagetable.specs.declared.Entry.{Entry}
use Rattle.ivy_pagetable.specs.declared.Entry.TheVariants as entry
use Rattle.ivy_pagetable.specs.stated.NodeSets.{nodes_with}
use Rattle.ivy_pagetable.specs.stated.States.{IdleState}
use Rattle.ivy_pagetable.specs.stated.Entries.{readable, writable, is_owner, copies_of, copying, owning}
use Rattle.ivy_coherence.specs.stated.Serving.{invalidations}
use Rattle.proof_table.specs.stated.Letters.{Letter, Net, Place, Loose, IsAt, letter_of}
use Rattle.proof_table.specs.transitions.Letters.{goes_on}
use Rattle.proof_table.specs.stated.Orderly.{Collects, HasCopy, reads, comes, At, In, Own, Order, key_of, IsExpectedAs, IsOrderly}
use Rattle.proof_table.specs.transitions.TableSteps.{letter, Comes}
use Rattle.proof_table.proofs.transitions.Places.{served, freed}
use Rattle.proof_table.proofs.transitions.Needs.{page_of, Needs, read_key, write_key, acks_key, acks_still}
use Rattle.proof_table.proofs.transitions.Members.{without_others, without_any}
use Rattle.proof_table.proofs.transitions.NetSteps.{IsAccounted, IsStep}
use Rattle.proof_table.proofs.transitions.Owners.{copies_before, AreNoCopies, no_copies, accounted_still, IsMove, other_copies, accounted_moved}
use Rattle.proof_table.proofs.transitions.Sole.{first_there, first_fits, first_alone, no_other_owner, no_page_comes, page_under_way, no_owner_yet, no_other_page, no_acks}
use Rattle.proof_table.proofs.transitions.Parcels.{IsNone, IsOrder, free_step, stay_step, orders_step}
use Rattle.proof_table.proofs.transitions.Replies.{IsEntryOf, same_entry}
use Rattle.proof_table.proofs.transitions.Quiet.{AreGone, quiet_orderly, ordered_orderly}

-- an idle entry
come_entry : (x : ℕ) (s : IdleState)
    → (writable (entry.Idle s) ≡ true → (s.owner ≡ true) × (s.copies ≡ set.empty))
    → IsEntryOf x (entry.Idle s)
come_entry x s alone =
    record {
      foreign = λ k q h. absurd (none-some q h);
      orders = λ k q h. absurd (none-some q h);
      alone = alone;
    }

-- a copy comes
module _ (c : Config) (n : Net) (order : IsOrderly c n) (bytes : List ℕ)
    (r : Comes c n entry.AwaitRead (λ q. content.ReadRep q bytes)) where
  open r use {node as x, page as p, from, call, state as w, loose, is}

  pub copy_came : IsOrderly c
      (goes_on n x p (entry.Idle copying) (map (letter_of x p) w.put_off) [])
  copy_came =
      quiet_orderly c n n' x p (entry.AwaitRead w) (entry.Idle copying) (freed x p) order step
      (λ b l bt stays origin page h. absurd (first_alone c n order old [] loose b l bt stays
      (read_key w l l.message.content h ∙ ap (λ a. Own a (page_of l.message.content)) origin
      ∙ ap (Own x) page)))
      (λ b l q bt it. no_copies n n' x p (entry.AwaitRead w) (entry.Idle copying) (freed x p) IsNone
      step q (copies q) l.source)
      (come_entry x copying (λ h. absurd (let f : false ≡ true = h in cc)))
      (accounted_still n n' x p (entry.AwaitRead w) (entry.Idle copying) (freed x p) IsNone step c
      order (λ q. record {
        owner = λ same h. absurd (let f : false ≡ true = h in cc);
        moved = λ a l bits bytes new. absurd new;
      }) copies)
    where
      old : Letter
      old = letter from x x call (content.ReadRep p bytes)

      n' : Net
      n' = goes_on n x p (entry.Idle copying) (map (letter_of x p) w.put_off) []

      step : IsStep n n' x p (entry.AwaitRead w) (entry.Idle copying) (freed x p) IsNone
      step = free_step n x p (entry.AwaitRead w) (entry.Idle copying) w.put_off is refl refl

      copies : (q : ℕ)
          → AreNoCopies n n' x p (entry.AwaitRead w) (entry.Idle copying) (freed x p) IsNone step q
      copies q = record {
        reader = λ same h. comes (Loose 0) old bytes (first_there c n order old [] loose) refl refl;
        brought = λ a l bytes new. absurd new;
      }

-- the page comes, with the set of those that have a copy
module _ (c : Config) (n : Net) (order : IsOrderly c n) (bits : ℕ) (bytes : List ℕ)
    (r : Comes c n entry.AwaitWrite (λ q. content.WriteRep q bits bytes)) where
  open r use {node as x, page as p, from, call, state as s, loose, is}

  abbrev page_letter : Letter
  page_letter = letter from x x call (content.WriteRep p bits bytes)

  page_here : IsAt n (Loose 0) page_letter
  page_here = first_there c n order page_letter [] loose

  no_owner_here : (w : ℕ) → w ≢ x → is_owner (n.entry w p) ≡ true → ⊥
  no_owner_here w ne = no_owner_yet c n order (Loose 0) page_letter p bits bytes page_here refl w

  own_key : (b : Place) (l : Letter) → IsAt n b l → b ≢ Loose 0 → l.message.origin ≡ x
      → page_of l.message.content ≡ p → Needs (entry.AwaitWrite s) l l.message.content → ⊥
  own_key b l bt stays origin page h = first_alone c n order page_letter [] loose b l bt stays
      (write_key s l l.message.content h ∙ ap (λ a. Own a (page_of l.message.content)) origin
      ∙ ap (Own x) page)

  -- once the node is the owner, with these copies
  module _ (n' : Net) (z : Entry) (now : Place → Place) (New : Place → Letter → Type 0)
      (step : IsStep n n' x p (entry.AwaitWrite s) z now New)
      (orders : (a : Place) (l : Letter) → New a l → l.message.content ≡ content.Inval p)
      (same : copies_of z ≡ nodes_with bits) where
    no_copy_new : (q : ℕ) (a : Place) (l : Letter) (bytes' : List ℕ) → New a l
        → l.message.content ≡ content.ReadRep q bytes' → ⊥
    no_copy_new q a l bytes' new it =
        (let f : content.Inval p ≡ content.ReadRep q bytes' = sym (orders a l new) ∙ it in cc)

    came_counted : (y : ℕ) → y ≢ x → HasCopy n' y p → set.contains (copies_of z) y ≡ true
    came_counted y ne has =
        elim (copies_before n n' x p (entry.AwaitWrite s) z now New step y p has) [
          | inl old ↦ ap (λ t. set.contains t y) same
              ∙ order.counted p x y (nodes_with bits) (In (Loose 0))
              (page_under_way c n order (Loose 0) page_letter p bits bytes page_here refl) ne old
          | inr more ↦
              elim more [
                | inl here ↦ absurd (ne here.0)
                | inr new ↦
                    absurd (no_copy_new p new.0 new.1 new.2 new.3 new.5)
              ]
        ]

    came_move : IsMove n n' x p (entry.AwaitWrite s) z now New step x (copies_of z) (At x)
    came_move = record {
      nobody = no_owner_here;
      no_page =
          λ b l bits' bytes' bt stays it. stays
          (no_other_page c n order (Loose 0) page_letter p bits bytes page_here refl b l bits'
          bytes' bt it);
      at_node = λ h. (refl, refl, refl);
      in_letter =
          λ a l bits' bytes' new it.
          (let f : content.Inval p ≡ content.WriteRep p bits' bytes' = sym (orders a l new) ∙ it in
          absurd cc);
      counted = came_counted;
      others = ap (λ t. set.contains t x) same
          ∙ order.others p x (nodes_with bits) (In (Loose 0))
          (page_under_way c n order (Loose 0) page_letter p bits bytes page_here refl);
      about = λ a l new. ap page_of (orders a l new);
    }

    came_accounted : IsAccounted n'
    came_accounted =
        accounted_moved n n' x p (entry.AwaitWrite s) z now New step x (copies_of z) (At x)
        came_move c order

    came_acks : AreGone c n n' x p (entry.AwaitWrite s) z now order
    came_acks b l q bt it h = elim (cases_eq q p) [
      | inl here ↦
          absurd (no_acks c n order x p (λ k node f. subst (λ y. Collects y k node) is f)
          no_owner_here b l bt (it ∙ ap (λ a. content.InvalAck a) here))
      | inr ne ↦ no_copies n n' x p (entry.AwaitWrite s) z now New step q
          (other_copies n n' x p (entry.AwaitWrite s) z now New step x (copies_of z) (At x)
          came_move q ne) l.source h
    ]

  -- nobody has a copy
  pub page_came : nodes_with bits ≡ set.empty
      → IsOrderly c (goes_on n x p (entry.Idle owning) (map (letter_of x p) s.waiting.put_off) [])
  page_came none =
      quiet_orderly c n n' x p (entry.AwaitWrite s) (entry.Idle owning) (freed x p) order step
      (λ b l bt stays origin page h. absurd (own_key b l bt stays origin page h))
      (came_acks n' (entry.Idle owning) (freed x p) IsNone step (λ a l new. absurd new) (sym none))
      (come_entry x owning (λ h. (refl, refl)))
      (came_accounted n' (entry.Idle owning) (freed x p) IsNone step (λ a l new. absurd new)
      (sym none))
    where
      n' : Net
      n' = goes_on n x p (entry.Idle owning) (map (letter_of x p) s.waiting.put_off) []

      step : IsStep n n' x p (entry.AwaitWrite s) (entry.Idle owning) (freed x p) IsNone
      step = free_step n x p (entry.AwaitWrite s) (entry.Idle owning) s.waiting.put_off is refl refl

  -- others have one: they are told to give it up
  pub page_came_shared : s.waiting.call ≡ call
      → IsOrderly c
      (goes_on n x p (entry.AwaitAcks (record { left = nodes_with bits; waiting = s.waiting }))
      [] (invalidations x p call (nodes_with bits)))
  page_came_shared same =
      ordered_orderly c n n' x p (entry.AwaitWrite s) z served order call (nodes_with bits) step
      (record { below = r.here; inside = r.inside })
      (λ target held. (same, held))
      (λ l target h key.
      (let f : Own l.message.origin (page_of l.message.content) ≡ Order x target p =
      sym (write_key s l l.message.content h) ∙ key in cc))
      (λ b l bt stays origin page h. absurd (own_key b l bt stays origin page h))
      (came_acks n' z served New step orders refl)
      (record {
        foreign = was.foreign;
        orders = was.orders;
        alone = λ h. absurd (let f : false ≡ true = h in cc);
      })
      (came_accounted n' z served New step orders refl)
    where
      z : Entry
      z = entry.AwaitAcks (record { left = nodes_with bits; waiting = s.waiting })

      n' : Net
      n' = goes_on n x p z [] (invalidations x p call (nodes_with bits))

      New : Place → Letter → Type 0
      New = IsOrder n x p call (nodes_with bits)

      step : IsStep n n' x p (entry.AwaitWrite s) z served New
      step = orders_step n x p (entry.AwaitWrite s) z call (nodes_with bits) is (λ k q h. h)

      orders : (a : Place) (l : Letter) → New a l → l.message.content ≡ content.Inval p
      orders a l new = ap (λ (m : Letter). m.message.content) new.3

      was : IsEntryOf x (entry.AwaitWrite s)
      was = same_entry c n x p (entry.AwaitWrite s) order is

-- an acknowledgement comes
module _ (c : Config) (n : Net) (order : IsOrderly c n)
    (r : Comes c n entry.AwaitAcks content.InvalAck) where
  open r use {node as x, page as p, from, call, state as s, loose, is}

  abbrev ack_letter : Letter
  ack_letter = letter from x x call (content.InvalAck p)

  owns : is_owner (n.entry x p) ≡ true
  owns = ap is_owner is

  gave_up : HasCopy n from p → ⊥
  gave_up =
      let fit : IsExpectedAs c n ack_letter (content.InvalAck p) =
      first_fits c n order ack_letter [] loose in
      fit.3

  -- of the letters that stay none is of the order that was acknowledged
  another : (b : Place) (l : Letter) (target : ℕ) → IsAt n b l → b ≢ Loose 0 → l.message.origin ≡ x
      → page_of l.message.content ≡ p
      → key_of l ≡ Order l.message.origin target (page_of l.message.content) → from ≢ target
  another b l target bt stays origin page key same =
      first_alone c n order ack_letter [] loose b l bt stays
      (key ∙ ap (λ a. Order a target (page_of l.message.content)) origin ∙ ap (Order x target) page
      ∙ ap (λ t. Order x t p) (sym same))

  module _ (n' : Net) (z : Entry) (now : Place → Place)
      (step : IsStep n n' x p (entry.AwaitAcks s) z now IsNone)
      (same : copies_of z ≡ set.remove s.left from) where
    fewer_copies : (q : ℕ) → AreNoCopies n n' x p (entry.AwaitAcks s) z now IsNone step q
    fewer_copies q =
        record { reader = λ here h. reads (ap readable is); brought = λ a l bytes new. absurd new }

    left_counted : (y : ℕ) → y ≢ x → HasCopy n' y p → set.contains (copies_of z) y ≡ true
    left_counted y ne has =
        let had : HasCopy n y p =
        no_copies n n' x p (entry.AwaitAcks s) z now IsNone step p (fewer_copies p) y has in
        ap (λ t. set.contains t y) same
        ∙ without_others s.left from y (λ h. gave_up (subst (λ a. HasCopy n a p) (sym h) had))
        (ap (λ v. set.contains (copies_of v) y) (sym is)
        ∙ order.counted p x y (copies_of (n.entry x p)) (At x) (refl, owns, refl) ne had)

    left_move : IsMove n n' x p (entry.AwaitAcks s) z now IsNone step x (copies_of z) (At x)
    left_move = record {
      nobody = no_other_owner c n order x p owns;
      no_page = λ b l bits bytes bt stays it. no_page_comes c n order x p owns b l bits bytes bt it;
      at_node = λ h. (refl, refl, refl);
      in_letter = λ a l bits bytes new. absurd new;
      counted = left_counted;
      others = ap (λ t. set.contains t x) same
          ∙ without_any s.left from x
          (ap (λ v. set.contains (copies_of v) x) (sym is)
          ∙ order.others p x (copies_of (n.entry x p)) (At x) (refl, owns, refl));
      about = λ a l new. absurd new;
    }

    left_accounted : IsAccounted n'
    left_accounted =
        accounted_moved n n' x p (entry.AwaitAcks s) z now IsNone step x (copies_of z) (At x)
        left_move c order

    left_acks : AreGone c n n' x p (entry.AwaitAcks s) z now order
    left_acks b l q bt it =
        no_copies n n' x p (entry.AwaitAcks s) z now IsNone step q (fewer_copies q) l.source

  pub acknowledged : IsOrderly c
      (goes_on n x p
      (entry.AwaitAcks (record { left = set.remove s.left from; waiting = s.waiting })) [] [])
  acknowledged = quiet_orderly c n n' x p (entry.AwaitAcks s) z served order step
      (λ b l bt stays origin page h. acks_still s (set.remove s.left from) l l.message.content h
      (λ target key held. without_others s.left from target
      (another b l target bt stays origin page key) held))
      (left_acks n' z served step refl)
      (record {
        foreign = was.foreign;
        orders = was.orders;
        alone = λ h. absurd (let f : false ≡ true = h in cc);
      })
      (left_accounted n' z served step refl)
    where
      z : Entry
      z = entry.AwaitAcks (record { left = set.remove s.left from; waiting = s.waiting })

      n' : Net
      n' = goes_on n x p z [] []

      step : IsStep n n' x p (entry.AwaitAcks s) z served IsNone
      step = stay_step n x p (entry.AwaitAcks s) z is (λ k q h. h)

      was : IsEntryOf x (entry.AwaitAcks s)
      was = same_entry c n x p (entry.AwaitAcks s) order is

  -- the last one
  pub all_acknowledged : set.remove s.left from ≡ set.empty
      → IsOrderly c (goes_on n x p (entry.Idle owning) (map (letter_of x p) s.waiting.put_off) [])
  all_acknowledged last =
      quiet_orderly c n n' x p (entry.AwaitAcks s) (entry.Idle owning) (freed x p) order step
      (λ b l bt stays origin page h. absurd
      (none_left b l bt stays origin page (acks_key s l l.message.content h)))
      (left_acks n' (entry.Idle owning) (freed x p) step (sym last))
      (come_entry x owning (λ h. (refl, refl)))
      (left_accounted n' (entry.Idle owning) (freed x p) step (sym last))
    where
      n' : Net
      n' = goes_on n x p (entry.Idle owning) (map (letter_of x p) s.waiting.put_off) []

      step : IsStep n n' x p (entry.AwaitAcks s) (entry.Idle owning) (freed x p) IsNone
      step = free_step n x p (entry.AwaitAcks s) (entry.Idle owning) s.waiting.put_off is refl refl

      none_left : (b : Place) (l : Letter) → IsAt n b l → b ≢ Loose 0 → l.message.origin ≡ x
          → page_of l.message.content ≡ p
          → (target : ℕ) × (key_of l ≡ Order l.message.origin target (page_of l.message.content))
          × (set.contains s.left target ≡ true) → ⊥
      none_left b l bt stays origin page f = (
          let held : set.contains (set.remove s.left from) f.0 ≡ true =
          without_others s.left from f.0 (another b l f.0 bt stays origin page f.1) f.2 in
          let g : true ≡ false =
          sym held ∙ ap (λ t. set.contains t f.0) last ∙ contains-empty nat_cmp f.0 in
          cc
          )
