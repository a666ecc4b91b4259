-- A request to write is served under hints, given the page or sent on: its origin sinks directly
-- below the node.
use Rattle.std.proofs.Common.{◌≡◌, ◌≢◌, ◌⊎◌, ◌<◌, ℕ, true, false, List, [], ◌∷◌, length, slice_get, Some, refl, sym, ap, ◌∙◌, subst, inl, inr}
use Rattle.std.proofs.lemmas.Bool.{cases_eq, both_ways}
use Rattle.ivy_model.specs.declared.Config.{Config}
use Rattle.ivy_wire.specs.declared.Content.TheVariants as content
use Rattle.ivy_wire.specs.stated.Data.{Content}
use Rattle.ivy_wire.specs.stated.Posts.{parcel_to}
use Rattle.ivy_pagetable.specs.declared.Entry.{Entry}
use Rattle.ivy_pagetable.specs.declared.Entry.TheVariants as entry
use Rattle.ivy_pagetable.specs.declared.PutOff.{PutOff}
use Rattle.ivy_pagetable.specs.stated.Entries.{is_owner, put_offs, without}
use Rattle.ivy_dynamic.specs.stated.Dynamic.{Hints, hint_of, hinted, dynamic_ops}
use Rattle.proof_table.specs.stated.Letters.{Letter, Net, Place, Underway, Loose, IsAt}
use Rattle.proof_table.specs.transitions.Letters.{goes_on}
use Rattle.proof_table.specs.stated.Orderly.{AwaitsPage, Own, key_as, IsExpectedAs, IsOrderly}
use Rattle.proof_table.specs.transitions.TableSteps.{Served, letter, with_manager}
use Rattle.proof_table.proofs.transitions.Needs.{page_of}
use Rattle.proof_table.proofs.transitions.Places.{served}
use Rattle.proof_table.proofs.transitions.Sole.{fits_as, first_alone, no_other_owner, no_page_comes}
use Rattle.proof_table.proofs.transitions.NetSteps.{IsStep}
use Rattle.proof_table.proofs.transitions.Parcels.{IsThe, answer_step}
use Rattle.proof_table.specs.stated.Descending.{IsAsked}
use Rattle.proof_table.specs.routing.Claiming.{claims}
use Rattle.proof_table.specs.stated.Sending.{HasPage, owns, comes}
use Rattle.proof_table.specs.routing.Hinting.{LeadDown, IsHinted}
use Rattle.proof_table.proofs.routing.Asked.{IsOther, other_asker, asked_or_new, asked_others, writer_awaits}
use Rattle.proof_table.proofs.routing.Claims.{writer_claims, claims_else}
use Rattle.proof_table.proofs.routing.Managers.{hop_else}
use Rattle.proof_table.proofs.routing.HintedManagers.{told_hint, hint_now}
use Rattle.proof_table.proofs.routing.HintedSteps.{step_hinted}
use Rattle.proof_table.proofs.routing.HintedSunk.{sunk, IsSinking, sinking_leads}

-- who awaits the page does not own it
page_unowned : (e : Entry) (k : ℕ) → AwaitsPage e k → is_owner e ≡ false
page_unowned (entry.Idle s) k h = absurd h
page_unowned (entry.AwaitRead s) k h = absurd h
page_unowned (entry.AwaitWrite s) k h = refl
page_unowned (entry.AwaitAcks s) k h = absurd h

module _ (c : Config) (m : ℕ → Hints) (n : Net) (order : IsOrderly c n) (hints : IsHinted c m n)
    {T : Type 0} {form : T → Entry} (r : Served c n form content.WriteReq)
    (calm : (k : ℕ) → AwaitsPage (form r.state) k → ⊥) where
  open r use {
    node as x,
    page as p,
    from,
    origin as o,
    call,
    state as s,
    rest,
    here,
    inside as page,
    loose,
    foreign,
    is,
  }

  abbrev now_told : ℕ → Hints
  now_told = with_manager m x (hinted (m x) p o)

  abbrev first : Letter
  first = letter from x o call (content.WriteReq p)

  asked : IsAsked n (content.WriteReq p) o x
  asked = record {
    at = Loose 0;
    letter = first;
    there = ap (λ v. slice_get v 0) loose;
    dest = refl;
    asker = refl;
    asks = refl;
  }

  not_o : (body : Content) → ((l : Letter) → key_as l body ≡ Own l.message.origin p) → (i y : ℕ)
      → IsOther n body i y → i ≢ o
  not_o body own i y other = other_asker c n order first rest p i y body loose refl own other

  -- nothing is on its way to o
  no_copy : (b : Place) (l : Letter) (bytes : List ℕ) → IsAt n b l → b ≢ Loose 0
      → l.message.content ≡ content.ReadRep p bytes → l.dest ≢ o
  no_copy b l bytes at stays brings same = (
      let fit : IsExpectedAs c n l (content.ReadRep p bytes) =
      fits_as c n order b l (content.ReadRep p bytes) at brings in
      first_alone c n order first rest loose b l at stays
      (ap (key_as l) brings ∙ ap (λ j. Own j p) (sym fit.1 ∙ same))
      )

  no_page : (b : Place) (l : Letter) (bits : ℕ) (bytes : List ℕ) → IsAt n b l → b ≢ Loose 0
      → l.message.content ≡ content.WriteRep p bits bytes → l.dest ≢ o
  no_page b l bits bytes at stays brings same = (
      let fit : IsExpectedAs c n l (content.WriteRep p bits bytes) =
      fits_as c n order b l (content.WriteRep p bits bytes) at brings in
      first_alone c n order first rest loose b l at stays
      (ap (key_as l) brings ∙ ap (λ j. Own j p) (sym fit.1 ∙ same))
      )

  -- nor to x
  none_here : (b : Place) (l : Letter) (bits : ℕ) (bytes : List ℕ) → IsAt n b l
      → l.message.content ≡ content.WriteRep p bits bytes → l.dest ≢ x
  none_here b l bits bytes at brings same = (
      let fit : IsExpectedAs c n l (content.WriteRep p bits bytes) =
      fits_as c n order b l (content.WriteRep p bits bytes) at brings in
      calm l.message.call
      (subst (λ e. AwaitsPage e l.message.call) (ap (λ i. n.entry i p) (sym fit.1 ∙ same) ∙ is) fit.2)
      )

  module _ (n' : Net) (z : Entry) (at : Place) (new : Letter)
      (step : IsStep n n' x p (form s) z served (IsThe at new)) where
    sinking_hint : (y : ℕ) → claims (n'.entry y p) ≡ false
        → (y ≢ o)
        × (((claims (n.entry y p) ≡ false) × (hint_of (now_told y) p ≡ hint_of (m y) p))
        ⊎ ((y ≡ x) × (hint_of (now_told y) p ≡ o)))
    sinking_hint y plain = elim (cases_eq y x) [
      | inl same ↦ (
        λ h. foreign (sym h ∙ same),
        inr (
          same,
          ap (λ i. hint_of (now_told i) p) same
              ∙ hint_now m x p o (subst (λ k. p < k) (sym (hints.size x here)) page),
        ),
      )
      | inr ne ↦ (
          let was : claims (n.entry y p) ≡ false =
          sym (claims_else n n' x p (form s) z served (IsThe at new) step y p (inl ne))
          ∙ plain in (
            λ h. both_ways (claims (n.entry o p)) (ap (λ i. claims (n.entry i p)) (sym h) ∙ was)
                (writer_claims c n order p o x asked),
            inl (was, hop_else dynamic_ops m now_told x p (told_hint m x p o) y p (inl ne)),
          )
          )
    ]

    sinking : (g : ℕ → ℕ) → (new.message.content ≡ content.ReadReq p → ⊥)
        → ((bytes : List ℕ) → new.message.content ≡ content.ReadRep p bytes → ⊥)
        → (new.message.content ≡ content.WriteReq p → (new.message.origin ≡ o) × (g new.dest < g x))
        → ((r : ℕ) → HasPage n' r p
        → ((r ≡ o) × HasPage n x p) ⊎ (HasPage n r p × (r ≢ o) × (r ≢ x)))
        → IsSinking c m now_told n n' p x o g
    sinking g unread uncopied write holder = record {
      asked = asked;
      writes =
          λ i y k.
          elim (asked_or_new n n' x p (form s) z served at new step (content.WriteReq p) i y
          k) [
            | inl h ↦ inl (h.was, not_o (content.WriteReq p) (λ l. refl) i y h)
            | inr h ↦ (let w = write h.2 in inr (sym h.1 ∙ w.0, subst (λ v. g v < g x) h.0 w.1))
          ];
      reads = λ i y k. (
          let h = asked_others n n' x p (form s) z served at new step (content.ReadReq p)
          unread i y k in
          (h.was, not_o (content.ReadReq p) (λ l. refl) i y h)
          );
      copies = λ a y k. elim (step.letters k.at k.letter k.there) [
        | inl h ↦ (
          record {
            at = h.0;
            letter = k.letter;
            bytes = k.bytes;
            there = h.1;
            from = k.from;
            dest = k.dest;
            brings = k.brings;
          },
          λ same. no_copy h.0 k.letter k.bytes h.1 h.3 k.brings (k.dest ∙ same),
        )
        | inr h ↦
            absurd (uncopied k.bytes (ap (λ (v : Letter). v.message.content) (sym h.1) ∙ k.brings))
      ];
      hints = sinking_hint;
      holder = holder;
    }

    -- of the page there are heights then
    sinks : page_of new.message.content ≡ p → (new.message.content ≡ content.ReadReq p → ⊥)
        → ((bytes : List ℕ) → new.message.content ≡ content.ReadRep p bytes → ⊥)
        → (((g : ℕ → ℕ) → LeadDown c m n p g → new.message.content ≡ content.WriteReq p
        → (new.message.origin ≡ o) × (g new.dest < g x)))
        → ((r : ℕ) → HasPage n' r p
        → ((r ≡ o) × HasPage n x p) ⊎ (HasPage n r p × (r ≢ o) × (r ≢ x)))
        → IsHinted c now_told n'
    sinks about unread uncopied write holder =
        step_hinted c m now_told n n' x p (form s) z served (IsThe at new) step
        (told_hint m x p o)
        (λ a l it. ap (λ (v : Letter). page_of v.message.content) it.1 ∙ about)
        (λ g was. (
          sunk g x o,
          sinking_leads c m now_told n n' p x o g was
              (sinking g unread uncopied (write g was) holder),
        )) hints

  -- by the owner, which gives the page
  pub given_hinted : is_owner (form s) ≡ true
      → ((k : ℕ) (q : PutOff) → slice_get (put_offs (entry.Idle without)) k ≡ Some q
      → slice_get (put_offs (form s)) k ≡ Some q)
      → (bits : ℕ) (bytes : List ℕ)
      → IsHinted c now_told
      (goes_on n x p (entry.Idle without) rest
      (parcel_to x o o call (content.WriteRep p bits bytes) ∷ []))
  given_hinted mine still bits bytes =
      sinks n' (entry.Idle without) at new step refl (λ h. cc) (λ b h. cc)
      (λ g was h. (let f : content.WriteRep p bits bytes ≡ content.WriteReq p = h in cc)) holder
    where
      n' : Net
      n' = goes_on n x p (entry.Idle without) rest
          (parcel_to x o o call (content.WriteRep p bits bytes) ∷ [])

      at : Place
      at = Underway x o (length (n.posted x o))

      new : Letter
      new = letter x o o call (content.WriteRep p bits bytes)

      step : IsStep n n' x p (form s) (entry.Idle without) served (IsThe at new)
      step = answer_step n x p (form s) (entry.Idle without) _ rest o o call
          (content.WriteRep p bits bytes) is loose still

      own : is_owner (n.entry x p) ≡ true
      own = ap is_owner is ∙ mine

      holder : (r : ℕ) → HasPage n' r p
          → ((r ≡ o) × HasPage n x p) ⊎ (HasPage n r p × (r ≢ o) × (r ≢ x))
      holder r (owns h) = elim (step.elsewhere r p) [
        | inl same ↦
            absurd (both_ways (is_owner (n'.entry r p)) (ap (λ i. is_owner (n'.entry i p)) same.0 ∙ ap is_owner step.after)
            h)
        | inr other ↦ elim other.0 [
          | inl ne ↦ absurd (no_other_owner c n order x p own r ne (ap is_owner (sym other.1) ∙ h))
          | inr ne ↦ absurd (ne refl)
        ]
      ]
      holder r (comes a l bits' bytes' there dest brings) = elim (step.letters a l there) [
        | inl h ↦ absurd (no_page_comes c n order x p own h.0 l bits' bytes' h.1 brings)
        | inr h ↦ inl (sym dest ∙ ap (λ (v : Letter). v.dest) h.1, owns own)
      ]

  -- by another node, which sends the request on
  pub sent_hinted : (z : Entry) → claims (form s) ≡ false → is_owner (form s) ≡ false
      → is_owner z ≡ false
      → ((k : ℕ) (q : PutOff) → slice_get (put_offs z) k ≡ Some q
      → slice_get (put_offs (form s)) k ≡ Some q)
      → IsHinted c now_told
      (goes_on n x p z rest
      (parcel_to x (hint_of (m x) p) o call (content.WriteReq p) ∷ []))
  sent_hinted z away plain shut still =
      sinks n' z at new step refl (λ h. cc) (λ b h. cc)
      (λ g was h. (refl, was.hints x here (ap claims is ∙ away))) holder
    where
      n' : Net
      n' = goes_on n x p z rest
          (parcel_to x (hint_of (m x) p) o call (content.WriteReq p) ∷ [])

      at : Place
      at = Underway x (hint_of (m x) p) (length (n.posted x (hint_of (m x) p)))

      new : Letter
      new = letter x (hint_of (m x) p) o call (content.WriteReq p)

      step : IsStep n n' x p (form s) z served (IsThe at new)
      step = answer_step n x p (form s) z _ rest (hint_of (m x) p) o call
          (content.WriteReq p) is loose still

      unowned : is_owner (n.entry x p) ≡ false
      unowned = ap is_owner is ∙ plain

      unowned_there : is_owner (n.entry o p) ≡ false
      unowned_there =
          let f : (k : ℕ) × AwaitsPage (n.entry o p) k = writer_awaits c n order p o x asked in
          page_unowned (n.entry o p) f.0 f.1

      not_owner : (r i : ℕ) → is_owner (n.entry r p) ≡ true → is_owner (n.entry i p) ≡ false → r ≢ i
      not_owner r i owner isnt same =
          both_ways (is_owner (n.entry i p)) isnt (ap (λ j. is_owner (n.entry j p)) (sym same) ∙ owner)

      holder : (r : ℕ) → HasPage n' r p
          → ((r ≡ o) × HasPage n x p) ⊎ (HasPage n r p × (r ≢ o) × (r ≢ x))
      holder r (owns h) = elim (step.elsewhere r p) [
        | inl same ↦
            absurd (both_ways (is_owner (n'.entry r p)) (ap (λ i. is_owner (n'.entry i p)) same.0 ∙ ap is_owner step.after ∙ shut)
            h)
        | inr other ↦ (
            let was : is_owner (n.entry r p) ≡ true = ap is_owner (sym other.1) ∙ h in
            inr (owns was, not_owner r o was unowned_there, not_owner r x was unowned)
            )
      ]
      holder r (comes a l bits bytes there dest brings) = elim (step.letters a l there) [
        | inl h ↦ inr (
          comes h.0 l bits bytes h.1 dest brings,
          λ same. no_page h.0 l bits bytes h.1 h.3 brings (dest ∙ same),
          λ same. none_here h.0 l bits bytes h.1 brings (dest ∙ same),
        )
        | inr h ↦
            absurd (let f : content.WriteReq p ≡ content.WriteRep p bits bytes =
            ap (λ (v : Letter). v.message.content) (sym h.1) ∙ brings in cc)
      ]
