-- Steps by which a word begins to wait: for a copy, for the page, for the others to give their
-- copies up.
use Rattle.std.proofs.Common.{◌≡◌, ℕ, true, false, List, [], ◌∷◌, length, slice_get, refl, sym, ap, ◌∙◌, subst}
use Rattle.std.proofs.lemmas.Option.{none-some}
use Rattle.ivy_model.specs.declared.Config.{Config}
use Rattle.ivy_wire.specs.declared.Content.TheVariants as content
use Rattle.ivy_wire.specs.stated.Data.{Content}
use Rattle.ivy_wire.specs.stated.Posts.{parcel_to}
use Rattle.ivy_pagetable.specs.declared.Entry.{Entry}
use Rattle.ivy_pagetable.specs.declared.Entry.TheVariants as entry
use Rattle.ivy_pagetable.specs.stated.Accesses.{reads as can_read}
use Rattle.ivy_pagetable.specs.stated.Entries.{put_offs, readable, writable, is_owner}
use Rattle.ivy_coherence.specs.stated.Serving.{invalidations}
use Rattle.ivy_coherence.specs.stated.PageFaults.{waiting_from}
use Rattle.proof_table.specs.stated.Letters.{Letter, Net, Place, Underway}
use Rattle.proof_table.specs.transitions.Letters.{goes_on}
use Rattle.proof_table.specs.stated.Orderly.{AwaitsCopy, AwaitsPage, reads, Own, key_of, IsExpected, IsOrderly}
use Rattle.proof_table.specs.transitions.TableSteps.{letter, Begins}
use Rattle.proof_table.proofs.transitions.Places.{served, written_here}
use Rattle.proof_table.proofs.transitions.Needs.{idle_needs, key_origin, key_page}
use Rattle.proof_table.proofs.transitions.NetSteps.{IsStep, step_orderly}
use Rattle.proof_table.proofs.transitions.Owners.{AreNoCopies, no_copies, accounted_still}
use Rattle.proof_table.proofs.transitions.Parcels.{IsThe, IsOrder, ask_step, orders_step}
use Rattle.proof_table.proofs.transitions.Replies.{IsEntryOf}
use Rattle.proof_table.proofs.transitions.Quiet.{needs_here, ordered_orderly}

-- an entry at which nothing is put off, and at which no word is carried out
pub no_put_offs : (x : ℕ) (z : Entry) → put_offs z ≡ [] → writable z ≡ false → IsEntryOf x z
no_put_offs x z none shut = record {
  foreign = λ k q h. absurd (none-some q (ap (λ v. slice_get v k) (sym none) ∙ h));
  orders = λ k q h. absurd (none-some q (ap (λ v. slice_get v k) (sym none) ∙ h));
  alone = λ h. absurd (let f : true ≡ false = sym h ∙ shut in cc);
}

module _ (c : Config) (n : Net) (r : Begins c n) (order : IsOrderly c n) where
  open r use {node as x, page as p, call, state as s, word as w, is, loose}

  -- a request is posted
  asked : (hop : ℕ) (body : Content) (z : Entry) → put_offs z ≡ [] → writable z ≡ false
      → is_owner z ≡ false → (readable z ≡ true → can_read s.access ≡ true)
      → key_of (letter x hop x call body) ≡ Own x p
      → ((q : ℕ) (bytes : List ℕ) → body ≡ content.ReadRep q bytes → ⊥)
      → ((q bits : ℕ) (bytes : List ℕ) → body ≡ content.WriteRep q bits bytes → ⊥)
      → IsExpected c (goes_on n x p z [] (parcel_to x hop x call body ∷ []))
      (letter x hop x call body)
      → IsOrderly c (goes_on n x p z [] (parcel_to x hop x call body ∷ []))
  asked hop body z none shut plain reader key no_copy no_page fits =
      step_orderly c n n' x p (entry.Idle s) z served (IsThe at new) step (record {
        keeps = λ b l bt stays origin page h. absurd (idle_needs s l l.message.content h);
        acks = λ b l q bt stays it. no_copies n n' x p (entry.Idle s) z served (IsThe at new) step q
            (copies q) l.source;
        news = λ a l it. subst (IsExpected c n') (sym it.1) fits;
        fresh = λ a b l m it bt stays same. (
            let mine : key_of m ≡ Own x p = sym same ∙ ap key_of it.1 ∙ key in
            idle_needs s m m.message.content
            (needs_here c n x p (entry.Idle s) order is b m bt (ap key_origin mine)
            (ap key_page mine))
            );
        apart = λ a b l m it too same. it.0 ∙ sym too.0;
        foreign = written.foreign;
        orders = written.orders;
        accounted =
            accounted_still n n' x p (entry.Idle s) z served (IsThe at new) step c order (λ q. record {
              owner = λ same h. absurd (let f : true ≡ false = sym h ∙ plain in cc);
              moved = λ a l bits bytes it its. no_page q bits bytes
                  (ap (λ (m : Letter). m.message.content) (sym it.1) ∙ its);
            }) copies;
        alone = written.alone;
      }) order
    where
      n' : Net
      n' = goes_on n x p z [] (parcel_to x hop x call body ∷ [])

      at : Place
      at = Underway x hop (length (n.posted x hop))

      new : Letter
      new = letter x hop x call body

      step : IsStep n n' x p (entry.Idle s) z served (IsThe at new)
      step = ask_step n x p (entry.Idle s) z hop x call body is loose
          (λ k q h. absurd (none-some q (ap (λ v. slice_get v k) (sym none) ∙ h)))

      copies : (q : ℕ) → AreNoCopies n n' x p (entry.Idle s) z served (IsThe at new) step q
      copies q = record {
        reader = λ same h. reads (ap readable is ∙ reader h);
        brought =
            λ a l bytes it its. no_copy q bytes
            (ap (λ (m : Letter). m.message.content) (sym it.1) ∙ its);
      }

      written : IsEntryOf x z
      written = no_put_offs x z none shut

  pub copy_asked : (hop : ℕ)
      → IsOrderly c
      (goes_on n x p (entry.AwaitRead (waiting_from w call)) []
      (parcel_to x hop x call (content.ReadReq p) ∷ []))
  copy_asked hop =
      asked hop (content.ReadReq p) (entry.AwaitRead (waiting_from w call)) refl refl refl
      (λ h. absurd (let f : false ≡ true = h in cc)) refl
      (λ q bytes h. cc) (λ q bits bytes h. cc) (
        record { below = r.here; inside = r.inside },
        subst (λ y. AwaitsCopy y call)
            (sym (written_here n.entry x p (entry.AwaitRead (waiting_from w call)) x p refl refl))
            refl,
      )

  pub page_asked : (hop : ℕ)
      → IsOrderly c
      (goes_on n x p
      (entry.AwaitWrite
      (record { had_copy = can_read s.access; waiting = waiting_from w call })) []
      (parcel_to x hop x call (content.WriteReq p) ∷ []))
  page_asked hop =
      asked hop (content.WriteReq p)
      (entry.AwaitWrite (record { had_copy = can_read s.access; waiting = waiting_from w call }))
      refl refl refl (λ h. h) refl
      (λ q bytes h. cc) (λ q bits bytes h. cc) (
        record { below = r.here; inside = r.inside },
        subst (λ y. AwaitsPage y call)
            (sym (written_here n.entry x p
            (entry.AwaitWrite
            (record { had_copy = can_read s.access; waiting = waiting_from w call })) x p refl
            refl)) refl,
      )

  -- orders to give copies up are posted
  pub copies_ordered_back : s.owner ≡ true → can_read s.access ≡ true
      → IsOrderly c
      (goes_on n x p
      (entry.AwaitAcks (record { left = s.copies; waiting = waiting_from w call })) []
      (invalidations x p call s.copies))
  copies_ordered_back owner reader =
      ordered_orderly c n n' x p (entry.Idle s) z served order call s.copies step
      (record { below = r.here; inside = r.inside })
      (λ target held. (refl, held))
      (λ l target h key. idle_needs s l l.message.content h)
      (λ b l bt stays origin page h. absurd (idle_needs s l l.message.content h))
      (λ b l q bt it. no_copies n n' x p (entry.Idle s) z served New step q (copies q) l.source)
      (no_put_offs x z refl refl)
      (accounted_still n n' x p (entry.Idle s) z served New step c order (λ q. record {
        owner = λ same h. (owner, refl);
        moved = λ a l bits bytes it its.
            (let f : content.Inval p ≡ content.WriteRep q bits bytes =
            ap (λ (m : Letter). m.message.content) (sym it.3) ∙ its in cc);
      }) copies)
    where
      z : Entry
      z = entry.AwaitAcks (record { left = s.copies; waiting = waiting_from w call })

      n' : Net
      n' = goes_on n x p z [] (invalidations x p call s.copies)

      New : Place → Letter → Type 0
      New = IsOrder n x p call s.copies

      step : IsStep n n' x p (entry.Idle s) z served New
      step = orders_step n x p (entry.Idle s) z call s.copies is (λ k q h. absurd (none-some q h))

      copies : (q : ℕ) → AreNoCopies n n' x p (entry.Idle s) z served New step q
      copies q = record {
        reader = λ same h. reads (ap readable is ∙ reader);
        brought =
            λ a l bytes it its.
            (let f : content.Inval p ≡ content.ReadRep q bytes =
            ap (λ (m : Letter). m.message.content) (sym it.3) ∙ its in cc);
      }
