-- A step by which a word joins the fetch of its page: the entry stays as it is, but for the word.
use Rattle.std.proofs.Common.{◌≡◌, ℕ, [], slice_get, Some, refl, sym, ap, ◌∙◌}
use Rattle.ivy_model.specs.declared.Config.{Config}
use Rattle.ivy_pagetable.specs.declared.Entry.{Entry}
use Rattle.ivy_pagetable.specs.declared.Entry.TheVariants as entry
use Rattle.ivy_pagetable.specs.declared.PutOff.{PutOff}
use Rattle.ivy_pagetable.specs.declared.Word.{Word}
use Rattle.ivy_pagetable.specs.stated.Entries.{put_offs, readable, is_owner, is_locked}
use Rattle.ivy_coherence.specs.stated.Fetching.{joined_by}
use Rattle.proof_table.specs.stated.Letters.{Net}
use Rattle.proof_table.specs.transitions.Letters.{goes_on}
use Rattle.proof_table.specs.stated.Orderly.{reads, Collects, IsOrderly}
use Rattle.proof_table.specs.transitions.TableSteps.{Joins}
use Rattle.proof_table.specs.routing.Claiming.{claims}
use Rattle.proof_table.proofs.transitions.Places.{served}
use Rattle.proof_table.proofs.transitions.Needs.{needs_met}
use Rattle.proof_table.proofs.transitions.NetSteps.{IsStep}
use Rattle.proof_table.proofs.transitions.Owners.{AreNoCopies, no_copies, accounted_still}
use Rattle.proof_table.proofs.transitions.Parcels.{IsNone, stay_step}
use Rattle.proof_table.proofs.transitions.Quiet.{quiet_orderly}
use Rattle.proof_table.proofs.transitions.Replies.{same_entry}
use Rattle.proof_table.proofs.transitions.RowsAsked.{IsStill, same_still}

pub joined_still : (e : Entry) (w : Word) → IsStill e (joined_by e w)
joined_still (entry.Idle s) w = same_still (entry.Idle s)
joined_still (entry.AwaitRead s) w = record {
  put_off = refl;
  needs = λ l. needs_met (entry.AwaitRead s) (joined_by (entry.AwaitRead s) w) l l.message.content
      (λ k h. h) (λ k h. h) (λ k node h. h);
  entry = λ x h. record { foreign = h.foreign; orders = h.orders; alone = h.alone };
  owner = λ h. (h, refl);
  reader = λ h. h;
}
joined_still (entry.AwaitWrite s) w = record {
  put_off = refl;
  needs = λ l. needs_met (entry.AwaitWrite s) (joined_by (entry.AwaitWrite s) w) l
      l.message.content (λ k h. h) (λ k h. h) (λ k node h. h);
  entry = λ x h. record { foreign = h.foreign; orders = h.orders; alone = h.alone };
  owner = λ h. (h, refl);
  reader = λ h. h;
}
joined_still (entry.AwaitAcks s) w = record {
  put_off = refl;
  needs = λ l. needs_met (entry.AwaitAcks s) (joined_by (entry.AwaitAcks s) w) l l.message.content
      (λ k h. h) (λ k h. h) (λ k node h. h);
  entry = λ x h. record { foreign = h.foreign; orders = h.orders; alone = h.alone };
  owner = λ h. (h, refl);
  reader = λ h. h;
}

pub joined_owner : (e : Entry) (w : Word) → is_owner (joined_by e w) ≡ is_owner e
joined_owner (entry.Idle s) w = refl
joined_owner (entry.AwaitRead s) w = refl
joined_owner (entry.AwaitWrite s) w = refl
joined_owner (entry.AwaitAcks s) w = refl

pub joined_locked : (e : Entry) (w : Word) → is_locked (joined_by e w) ≡ is_locked e
joined_locked (entry.Idle s) w = refl
joined_locked (entry.AwaitRead s) w = refl
joined_locked (entry.AwaitWrite s) w = refl
joined_locked (entry.AwaitAcks s) w = refl

pub joined_collects : (e : Entry) (w : Word) (k target : ℕ) → Collects (joined_by e w) k target
    → Collects e k target
joined_collects (entry.Idle s) w k target h = h
joined_collects (entry.AwaitRead s) w k target h = h
joined_collects (entry.AwaitWrite s) w k target h = h
joined_collects (entry.AwaitAcks s) w k target h = h

pub joined_claims : (e : Entry) (w : Word) → claims (joined_by e w) ≡ claims e
joined_claims (entry.Idle s) w = refl
joined_claims (entry.AwaitRead s) w = refl
joined_claims (entry.AwaitWrite s) w = refl
joined_claims (entry.AwaitAcks s) w = refl

-- what is put off there was, and what was is
pub joined_kept : (e : Entry) (w : Word) (k : ℕ) (q : PutOff)
    → slice_get (put_offs (joined_by e w)) k ≡ Some q → slice_get (put_offs e) k ≡ Some q
joined_kept e w k q h = ap (λ l. slice_get l k) (sym (joined_still e w).put_off) ∙ h

pub joined_stays : (e : Entry) (w : Word) (k : ℕ) (q : PutOff)
    → slice_get (put_offs e) k ≡ Some q → slice_get (put_offs (joined_by e w)) k ≡ Some q
joined_stays e w k q h = ap (λ l. slice_get l k) (joined_still e w).put_off ∙ h

module _ (c : Config) (n : Net) (r : Joins c n) (order : IsOrderly c n) where
  open r use {node as x, page as p, word as w, before as e, is}

  pub word_joined : IsOrderly c (goes_on n x p (joined_by e w) [] [])
  word_joined =
      quiet_orderly c n n' x p e z served order step (λ b l at stays origin page h. still.needs l h)
      (λ b l q at it. no_copies n n' x p e z served IsNone step q (copies q) l.source)
      (still.entry x (same_entry c n x p e order is))
      (accounted_still n n' x p e z served IsNone step c order (λ q. record {
        owner = λ same h. still.owner h;
        moved = λ a l bits bytes it its. it;
      }) copies)
    where
      z : Entry
      z = joined_by e w

      n' : Net
      n' = goes_on n x p z [] []

      still : IsStill e z
      still = joined_still e w

      step : IsStep n n' x p e z served IsNone
      step = stay_step n x p e z is (joined_kept e w)

      copies : (q : ℕ) → AreNoCopies n n' x p e z served IsNone step q
      copies q = record {
        reader = λ same h. reads (ap readable is ∙ still.reader h);
        brought = λ a l bytes it its. it;
      }
