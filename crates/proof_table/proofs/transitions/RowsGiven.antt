-- Steps of an owner that serves a request: it gives a copy, or the page itself.
use Rattle.std.proofs.Common.{◌≡◌, ◌≢◌, ℕ, true, false, List, [], ◌∷◌, length, refl, sym, ap, ◌∙◌, subst, inl, inr}
use Rattle.std.proofs.lemmas.Bool.{cases_eq}
use Rattle.std.proofs.lemmas.Option.{none-some}
use Rattle.std.specs.FinSet as set
use Rattle.ivy_model.specs.declared.Config.{Config}
use Rattle.ivy_model.specs.stated.Config.{IsConfig}
use Rattle.ivy_wire.specs.declared.Content.TheVariants as content
use Rattle.ivy_wire.specs.stated.Data.{Content}
use Rattle.ivy_wire.specs.stated.Posts.{parcel_to}
use Rattle.ivy_pagetable.specs.declared.Entry.{Entry}
use Rattle.ivy_pagetable.specs.declared.Entry.TheVariants as entry
use Rattle.ivy_pagetable.specs.stated.NodeSets.{Nodes, IsBelow, bits_of, nodes_with}
use Rattle.ivy_pagetable.specs.stated.Entries.{is_owner, copies_of, without, sharing}
use Rattle.ivy_pagetable.proofs.Bits.{with_bits_of, remove_below}
use Rattle.proof_table.specs.stated.Letters.{Letter, Net, Place, Underway, IsAt}
use Rattle.proof_table.specs.transitions.Letters.{goes_on}
use Rattle.proof_table.specs.stated.Orderly.{AwaitsCopy, AwaitsPage, Collects, HasCopy, At, In, IsExpectedAs, IsOrderly}
use Rattle.proof_table.specs.transitions.TableSteps.{letter, Served}
use Rattle.proof_table.proofs.transitions.Places.{written-other, served}
use Rattle.proof_table.proofs.transitions.Needs.{page_of, idle_needs}
use Rattle.proof_table.proofs.transitions.Members.{with_itself, with_others, with_no_other, without_itself, without_others}
use Rattle.proof_table.proofs.transitions.NetSteps.{IsStep}
use Rattle.proof_table.proofs.transitions.Owners.{copies_before, no_copies, IsMove, other_copies, accounted_moved}
use Rattle.proof_table.proofs.transitions.Sole.{first_fits, no_other_owner, no_page_comes, no_acks, copy_lost}
use Rattle.proof_table.proofs.transitions.Parcels.{IsThe, answer_step}
use Rattle.proof_table.proofs.transitions.Replies.{reply_orderly}
use Rattle.proof_table.proofs.transitions.RowsAsked.{idle_without}

module _ (c : Config) (n : Net) {ask : ℕ → Content} (r : Served c n entry.Idle ask)
    (order : IsOrderly c n) (owner : r.state.owner ≡ true) where
  open r use {node as x, page as p, state as s, is}

  own : is_owner (n.entry x p) ≡ true
  own = ap is_owner is ∙ owner

  was_counted : (y : ℕ) → y ≢ x → HasCopy n y p → set.contains s.copies y ≡ true
  was_counted y ne has =
      ap (λ v. set.contains (copies_of v) y) (sym is)
      ∙ order.counted p x y (copies_of (n.entry x p)) (At x) (refl, own, refl) ne has

  no_acks_here : (b : Place) (l : Letter) → IsAt n b l → l.message.content ≡ content.InvalAck p → ⊥
  no_acks_here =
      no_acks c n order x p (λ k node h. subst (λ y. Collects y k node) is h)
      (no_other_owner c n order x p own)

module _ (c : Config) (n : Net) (r : Served c n entry.Idle content.ReadReq) (order : IsOrderly c n)
    (owner : r.state.owner ≡ true) where
  open r use {node as x, page as p, from, origin as o, call, state as s, rest, loose, foreign, is}

  abbrev sharing_entry : Entry
  sharing_entry = entry.Idle (sharing (set.insert s.copies o))

  abbrev shared_net : Net
  shared_net =
      goes_on n x p sharing_entry rest (parcel_to x o o call (content.ReadRep p (n.page x p)) ∷ [])

  abbrev copy_letter : Letter
  copy_letter = letter x o o call (content.ReadRep p (n.page x p))

  abbrev to_reader : Place
  to_reader = Underway x o (length (n.posted x o))

  share_step : IsStep n shared_net x p (entry.Idle s) sharing_entry served
      (IsThe to_reader copy_letter)
  share_step =
      answer_step n x p (entry.Idle s) sharing_entry _ rest o o call
      (content.ReadRep p (n.page x p)) is loose (λ k q h. h)

  share_counted : (y : ℕ) → y ≢ x → HasCopy shared_net y p
      → set.contains (set.insert s.copies o) y ≡ true
  share_counted y ne has =
      elim (copies_before n shared_net x p (entry.Idle s) sharing_entry served
      (IsThe to_reader copy_letter) share_step y p has) [
        | inl old ↦ with_others s.copies o y (was_counted c n r order owner y ne old)
        | inr more ↦ elim more [
          | inl here ↦ absurd (ne here.0)
          | inr new ↦ (
              let same : o ≡ y = ap (λ (l : Letter). l.dest) (sym new.3.1) ∙ new.4 in
              subst (λ a. set.contains (set.insert s.copies o) a ≡ true) same (with_itself s.copies o)
              )
        ]
      ]

  share_move : IsMove n shared_net x p (entry.Idle s) sharing_entry served
      (IsThe to_reader copy_letter) share_step x (set.insert s.copies o) (At x)
  share_move = record {
    nobody = no_other_owner c n order x p (own c n r order owner);
    no_page =
        λ b l bits bytes' at stays it. no_page_comes c n order x p (own c n r order owner) b l bits
        bytes' at it;
    at_node = λ h. (refl, refl, refl);
    in_letter =
        λ a l bits bytes' new it.
        (let f : content.ReadRep p (n.page x p) ≡ content.WriteRep p bits bytes' =
        ap (λ (m : Letter). m.message.content) (sym new.1) ∙ it in absurd cc);
    counted = share_counted;
    others =
        with_no_other s.copies o x foreign
        (ap (λ v. set.contains (copies_of v) x) (sym is)
        ∙ order.others p x (copies_of (n.entry x p)) (At x) (refl, own c n r order owner, refl));
    about = λ a l new.
        (let f : l.message.content ≡ content.ReadRep p (n.page x p) =
        ap (λ (m : Letter). m.message.content) new.1 in ap page_of f);
  }

  pub copy_given : IsOrderly c shared_net
  copy_given =
      reply_orderly c n shared_net x p (entry.Idle s) sharing_entry to_reader
      (letter from x o call (content.ReadReq p)) copy_letter rest share_step order
      (record {
        loose = loose;
        same_key = refl;
        fits = (
          record { below = fit.0.below; inside = fit.0.inside },
          refl,
          subst (λ y. AwaitsCopy y call)
              (sym (written-other n.entry x p sharing_entry o p (inl foreign))) fit.1,
        );
        keeps = λ l h. absurd (idle_needs s l l.message.content h);
        entry = record {
          foreign = λ k q h. absurd (none-some q h);
          orders = λ k q h. absurd (none-some q h);
          alone = λ h. absurd (let f : false ≡ true = h in cc);
        };
      })
      (accounted_moved n shared_net x p (entry.Idle s) sharing_entry served
      (IsThe to_reader copy_letter) share_step x (set.insert s.copies o) (At x) share_move c
      order)
      (λ b l q at it h. elim (cases_eq q p) [
        | inl same ↦
            absurd (no_acks_here c n r order owner b l at (it ∙ ap (λ a. content.InvalAck a) same))
        | inr ne ↦
            no_copies n shared_net x p (entry.Idle s) sharing_entry served
            (IsThe to_reader copy_letter) share_step q
            (other_copies n shared_net x p (entry.Idle s) sharing_entry served
            (IsThe to_reader copy_letter) share_step x (set.insert s.copies o) (At x) share_move
            q ne) l.source h
      ])
    where
      fit : IsExpectedAs c n (letter from x o call (content.ReadReq p)) (content.ReadReq p)
      fit = first_fits c n order (letter from x o call (content.ReadReq p)) rest loose

module _ (c : Config) (n : Net) (r : Served c n entry.Idle content.WriteReq) (order : IsOrderly c n)
    (owner : r.state.owner ≡ true) (config : IsConfig c) (low : IsBelow c.nodes r.state.copies)
  where
    open r use {node as x, page as p, from, origin as o, call, state as s, rest, loose, foreign, is}

    abbrev left : Nodes
    left = set.remove s.copies o

    abbrev given_net : Net
    given_net =
        goes_on n x p (entry.Idle without) rest
        (parcel_to x o o call (content.WriteRep p (bits_of left) (n.page x p)) ∷ [])

    abbrev page_letter : Letter
    page_letter = letter x o o call (content.WriteRep p (bits_of left) (n.page x p))

    abbrev to_writer : Place
    to_writer = Underway x o (length (n.posted x o))

    same_left : nodes_with (bits_of left) ≡ left
    same_left =
        with_bits_of c.nodes left config.nodes_to (remove_below c.nodes s.copies o low)

    give_step : IsStep n given_net x p (entry.Idle s) (entry.Idle without) served
        (IsThe to_writer page_letter)
    give_step =
        answer_step n x p (entry.Idle s) (entry.Idle without) _ rest o o call
        (content.WriteRep p (bits_of left) (n.page x p)) is loose (λ k q h. h)

    no_copy_new : (q : ℕ) (a : Place) (l : Letter) (bytes' : List ℕ) → IsThe to_writer page_letter a l
        → l.message.content ≡ content.ReadRep q bytes' → ⊥
    no_copy_new q a l bytes' new it =
        (let f : content.WriteRep p (bits_of left) (n.page x p) ≡ content.ReadRep q bytes' =
        ap (λ (m : Letter). m.message.content) (sym new.1) ∙ it in cc)

    none_here : HasCopy given_net x p → ⊥
    none_here =
        copy_lost c n given_net x p (entry.Idle s) (entry.Idle without) served
        (IsThe to_writer page_letter) give_step order refl
        (λ k h. subst (λ y. AwaitsCopy y k) is h) (no_copy_new p)

    give_counted : (y : ℕ) → y ≢ o → HasCopy given_net y p
        → set.contains (nodes_with (bits_of left)) y ≡ true
    give_counted y ne has = elim (cases_eq y x) [
      | inl here ↦ absurd (none_here (subst (λ a. HasCopy given_net a p) here has))
      | inr other ↦
          elim (copies_before n given_net x p (entry.Idle s) (entry.Idle without) served
          (IsThe to_writer page_letter) give_step y p has) [
            | inl old ↦
                ap (λ t. set.contains t y) same_left
                ∙ without_others s.copies o y (λ h. ne (sym h))
                (was_counted c n r order owner y other old)
            | inr more ↦
                elim more [
                  | inl here ↦ absurd (other here.0)
                  | inr new ↦
                      absurd (no_copy_new p new.0 new.1 new.2 new.3 new.5)
                ]
          ]
    ]

    give_move : IsMove n given_net x p (entry.Idle s) (entry.Idle without) served
        (IsThe to_writer page_letter) give_step o (nodes_with (bits_of left)) (In to_writer)
    give_move = record {
      nobody = no_other_owner c n order x p (own c n r order owner);
      no_page =
          λ b l bits bytes' at stays it. no_page_comes c n order x p (own c n r order owner) b l bits
          bytes' at it;
      at_node = λ h. absurd (let f : false ≡ true = h in cc);
      in_letter = λ a l bits bytes' new it. (
          let f : content.WriteRep p (bits_of left) (n.page x p) ≡ content.WriteRep p bits bytes' =
          ap (λ (m : Letter). m.message.content) (sym new.1) ∙ it in
          let g : bits_of left ≡ bits = cc in
          (ap In (sym new.0), ap (λ (m : Letter). m.dest) (sym new.1), ap nodes_with g)
          );
      counted = give_counted;
      others = ap (λ t. set.contains t o) same_left ∙ without_itself s.copies o;
      about = λ a l new.
          (let f : l.message.content ≡ content.WriteRep p (bits_of left) (n.page x p) =
          ap (λ (m : Letter). m.message.content) new.1 in ap page_of f);
    }

    pub page_given : IsOrderly c given_net
    page_given =
        reply_orderly c n given_net x p (entry.Idle s) (entry.Idle without) to_writer
        (letter from x o call (content.WriteReq p)) page_letter rest give_step order
        (record {
          loose = loose;
          same_key = refl;
          fits = (
            record { below = fit.0.below; inside = fit.0.inside },
            refl,
            subst (λ y. AwaitsPage y call)
                (sym (written-other n.entry x p (entry.Idle without) o p (inl foreign))) fit.1,
            subst (IsBelow c.nodes) (sym same_left) (remove_below c.nodes s.copies o low),
          );
          keeps = λ l h. absurd (idle_needs s l l.message.content h);
          entry = idle_without x;
        })
        (accounted_moved n given_net x p (entry.Idle s) (entry.Idle without) served
        (IsThe to_writer page_letter) give_step o (nodes_with (bits_of left)) (In to_writer)
        give_move c order)
        (λ b l q at it h. elim (cases_eq q p) [
          | inl same ↦
              absurd (no_acks_here c n r order owner b l at (it ∙ ap (λ a. content.InvalAck a) same))
          | inr ne ↦
              no_copies n given_net x p (entry.Idle s) (entry.Idle without) served
              (IsThe to_writer page_letter) give_step q
              (other_copies n given_net x p (entry.Idle s) (entry.Idle without) served
              (IsThe to_writer page_letter) give_step o (nodes_with (bits_of left)) (In to_writer)
              give_move q ne) l.source h
        ])
      where
        fit : IsExpectedAs c n (letter from x o call (content.WriteReq p)) (content.WriteReq p)
        fit = first_fits c n order (letter from x o call (content.WriteReq p)) rest loose
