-- A loose letter is served, and one new letter takes its place: a reply, an acknowledgement, or the
-- request sent on or put off.
use Rattle.std.proofs.Common.{◌≡◌, ◌≢◌, ℕ, true, List, ◌∷◌, slice_get, Some, sym, ap, ◌∙◌, subst}
use Rattle.std.specs.FinSet as set
use Rattle.ivy_model.specs.declared.Config.{Config}
use Rattle.ivy_wire.specs.declared.Content.TheVariants as content
use Rattle.ivy_pagetable.specs.declared.Entry.{Entry}
use Rattle.ivy_pagetable.specs.declared.PutOff.{PutOff}
use Rattle.ivy_pagetable.specs.declared.Request.TheVariants as request
use Rattle.ivy_pagetable.specs.stated.Entries.{put_offs, readable, writable, is_owner, copies_of}
use Rattle.proof_table.specs.stated.Letters.{Letter, Net, Place, IsAt}
use Rattle.proof_table.specs.stated.Orderly.{CanWait, HasCopy, reads, key_of, IsExpected, IsOrderly}
use Rattle.proof_table.proofs.transitions.Places.{served}
use Rattle.proof_table.proofs.transitions.Needs.{Needs}
use Rattle.proof_table.proofs.transitions.NetSteps.{IsAccounted, IsStep, step_orderly}
use Rattle.proof_table.proofs.transitions.Owners.{AreNoCopies, no_copies, accounted_still}
use Rattle.proof_table.proofs.transitions.Sole.{first_alone}
use Rattle.proof_table.proofs.transitions.Parcels.{IsThe}

-- what is put off at the entry that is written, and who may write there
pub record IsEntryOf (x : ℕ) (z : Entry) : Type 0 where
  pub foreign : (k : ℕ) (q : PutOff) → slice_get (put_offs z) k ≡ Some q → q.origin ≢ x
  pub orders : (k : ℕ) (q : PutOff) → slice_get (put_offs z) k ≡ Some q
      → q.kind ≡ request.Invalidate → CanWait z
  pub alone : writable z ≡ true → (is_owner z ≡ true) × (copies_of z ≡ set.empty)

-- the entry as it was
pub same_entry : (c : Config) (n : Net) (x p : ℕ) (e : Entry) → IsOrderly c n → n.entry x p ≡ e
    → IsEntryOf x e
same_entry c n x p e o is = record {
  foreign = λ k q h. o.foreign x p k q (ap (λ y. slice_get (put_offs y) k) is ∙ h);
  orders =
      λ k q h order. subst CanWait is
      (o.orders x p k q (ap (λ y. slice_get (put_offs y) k) is ∙ h) order);
  alone = subst (λ y. writable y ≡ true → (is_owner y ≡ true) × (copies_of y ≡ set.empty)) is
      (o.alone x p);
}

module _ (c : Config) (n n' : Net) (x p : ℕ) (e z : Entry) (at : Place) (old new : Letter)
    (rest : List Letter) where
  pub record IsReply : Type 0 where
    pub loose : n.loose ≡ old ∷ rest
    pub same_key : key_of new ≡ key_of old
    pub fits : IsExpected c n' new
    pub keeps : (l : Letter) → Needs e l l.message.content → Needs z l l.message.content
    pub entry : IsEntryOf x z

  module _ (step : IsStep n n' x p e z served (IsThe at new)) (o : IsOrderly c n) (reply : IsReply)
    where
      pub reply_orderly : IsAccounted n'
          → ((b : Place) (l : Letter) (q : ℕ) → IsAt n b l → l.message.content ≡ content.InvalAck q
          → HasCopy n' l.source q → HasCopy n l.source q)
          → IsOrderly c n'
      reply_orderly accounted acks = step_orderly c n n' x p e z served (IsThe at new) step (record {
        keeps = λ b l bt stays origin page. reply.keeps l;
        acks = λ b l q bt stays is. acks b l q bt is;
        news = λ a l is. subst (IsExpected c n') (sym is.1) reply.fits;
        fresh = λ a b l m is bt stays same. first_alone c n o old rest reply.loose b m bt stays
            (sym same ∙ ap key_of is.1 ∙ reply.same_key);
        apart = λ a b l m is it same. is.0 ∙ sym it.0;
        foreign = reply.entry.foreign;
        orders = reply.entry.orders;
        accounted = accounted;
        alone = reply.entry.alone;
      }) o

      -- where neither a copy nor the page is sent, and the entry stays as to who owns it
      pub record IsCalm : Type 0 where
        pub no_copy : (q : ℕ) (bytes : List ℕ) → new.message.content ≡ content.ReadRep q bytes → ⊥
        pub no_page : (q bits : ℕ) (bytes : List ℕ)
            → new.message.content ≡ content.WriteRep q bits bytes → ⊥
        pub owner : is_owner z ≡ true → (is_owner e ≡ true) × (copies_of z ≡ copies_of e)
        pub reader : readable z ≡ true → readable e ≡ true

      calm_copies : IsCalm → (q : ℕ) → AreNoCopies n n' x p e z served (IsThe at new) step q
      calm_copies calm q = record {
        reader = λ same h. reads (ap readable step.before ∙ calm.reader h);
        brought =
            λ a l bytes is it. calm.no_copy q bytes
            (ap (λ (m : Letter). m.message.content) (sym is.1) ∙ it);
      }

      pub calm_orderly : IsCalm → IsOrderly c n'
      calm_orderly calm = reply_orderly
          (accounted_still n n' x p e z served (IsThe at new) step c o (λ q. record {
            owner = λ same. calm.owner;
            moved = λ a l bits bytes is it. calm.no_page q bits bytes
                (ap (λ (m : Letter). m.message.content) (sym is.1) ∙ it);
          }) (calm_copies calm))
          (λ b l q bt is. no_copies n n' x p e z served (IsThe at new) step q (calm_copies calm q)
          l.source)
