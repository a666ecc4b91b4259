-- In an orderly net a letter with the key that is waited for is of the kind that is waited for.
use Rattle.std.proofs.Common.{◌≡◌, ℕ, refl, ap, ◌∙◌, subst, inl, inr, arith}
use Rattle.ivy_model.specs.declared.Config.{Config}
use Rattle.ivy_wire.specs.declared.Content.TheVariants as content
use Rattle.ivy_wire.specs.stated.Data.{Content}
use Rattle.ivy_pagetable.specs.declared.Entry.{Entry}
use Rattle.ivy_pagetable.specs.declared.Entry.TheVariants as entry
use Rattle.proof_table.specs.stated.Letters.{Letter, Net, Place, IsAt}
use Rattle.proof_table.specs.stated.Orderly.{AwaitsCopy, AwaitsPage, Collects, Own, Order, key_as, IsExpectedAs, IsOrderly}
use Rattle.proof_table.proofs.transitions.Opening.{IsFirst}
use Rattle.proof_table.specs.stated.Sending.{comes}
use Rattle.proof_table.specs.stated.Waiting.{IsReadPending, asks_copy, gets_copy, IsWritePending, asks_page, gets_page, IsRecallPending, ordered, gave_up, IsAwaited}
use Rattle.proof_table.proofs.routing.Remaining.{HasKey}
use Rattle.proof_table.proofs.routing.Owed.{Wants, IsOwed}

-- what is waited for, as a key
copy_wanted : (e : Entry) (call node page : ℕ) → AwaitsCopy e call
    → Wants e node page (Own node page)
copy_wanted (entry.Idle s) call node page a = a
copy_wanted (entry.AwaitRead s) call node page a = refl
copy_wanted (entry.AwaitWrite s) call node page a = absurd a
copy_wanted (entry.AwaitAcks s) call node page a = absurd a

page_wanted : (e : Entry) (call node page : ℕ) → AwaitsPage e call
    → Wants e node page (Own node page)
page_wanted (entry.Idle s) call node page a = a
page_wanted (entry.AwaitRead s) call node page a = absurd a
page_wanted (entry.AwaitWrite s) call node page a = refl
page_wanted (entry.AwaitAcks s) call node page a = absurd a

ack_wanted : (e : Entry) (call node page target : ℕ) → Collects e call target
    → Wants e node page (Order node target page)
ack_wanted (entry.Idle s) call node page target a = a
ack_wanted (entry.AwaitRead s) call node page target a = absurd a
ack_wanted (entry.AwaitWrite s) call node page target a = absurd a
ack_wanted (entry.AwaitAcks s) call node page target a = (target, a.1, refl)

-- a word waits for a copy or for the page, not for both
not_both : (e : Entry) (k j : ℕ) → AwaitsCopy e k → AwaitsPage e j → ⊥
not_both (entry.Idle s) k j a b = a
not_both (entry.AwaitRead s) k j a b = b
not_both (entry.AwaitWrite s) k j a b = a
not_both (entry.AwaitAcks s) k j a b = a

-- two keys that are one
own_origin : (a b p q : ℕ) → Own a p ≡ Own b q → a ≡ b
own_origin a b p q h = cc

own_page : (a b p q : ℕ) → Own a p ≡ Own b q → p ≡ q
own_page a b p q h = cc

order_origin : (a b s t p q : ℕ) → Order a s p ≡ Order b t q → a ≡ b
order_origin a b s t p q h = cc

order_target : (a b s t p q : ℕ) → Order a s p ≡ Order b t q → s ≡ t
order_target a b s t p q h = cc

order_page : (a b s t p q : ℕ) → Order a s p ≡ Order b t q → p ≡ q
order_page a b s t p q h = cc

-- a letter of the node about the page
module _ (c : Config) (n : Net) (node page : ℕ) where
  copy_there : (i q k : ℕ) → Own i q ≡ Own node page → AwaitsCopy (n.entry i q) k
      → AwaitsCopy (n.entry node page) k
  copy_there i q k key h =
      subst (λ j. AwaitsCopy (n.entry node j) k) (own_page i node q page key)
      (subst (λ j. AwaitsCopy (n.entry j q) k) (own_origin i node q page key) h)

  page_there : (i q k : ℕ) → Own i q ≡ Own node page → AwaitsPage (n.entry i q) k
      → AwaitsPage (n.entry node page) k
  page_there i q k key h =
      subst (λ j. AwaitsPage (n.entry node j) k) (own_page i node q page key)
      (subst (λ j. AwaitsPage (n.entry j q) k) (own_origin i node q page key) h)

  -- where the node waits for a copy
  reading_as : (call : ℕ) → AwaitsCopy (n.entry node page) call
      → (a : Place) (l : Letter) (m : Content) → IsAt n a l → l.message.content ≡ m
      → IsExpectedAs c n l m
      → key_as l m ≡ Own node page → IsReadPending n node page
  reading_as call waits a l (content.ReadReq q) at is fit key = asks_copy l.dest (record {
    at = a;
    letter = l;
    there = at;
    dest = refl;
    asker = own_origin l.message.origin node q page key;
    asks = is ∙ ap (λ v. content.ReadReq v) (own_page l.message.origin node q page key);
  })
  reading_as call waits a l (content.ReadRep q bytes) at is fit key = gets_copy l.source (record {
    at = a;
    letter = l;
    bytes = bytes;
    there = at;
    from = refl;
    dest = fit.1 ∙ own_origin l.message.origin node q page key;
    brings = is ∙ ap (λ v. content.ReadRep v bytes) (own_page l.message.origin node q page key);
  })
  reading_as call waits a l (content.WriteReq q) at is fit key =
      absurd (not_both (n.entry node page) call l.message.call waits
      (page_there l.message.origin q l.message.call key fit.1))
  reading_as call waits a l (content.WriteRep q copies bytes) at is fit key =
      absurd (not_both (n.entry node page) call l.message.call waits
      (page_there l.message.origin q l.message.call key fit.2))
  reading_as call waits a l (content.Inval q) at is fit key = cc
  reading_as call waits a l (content.InvalAck q) at is fit key = cc
  reading_as call waits a l (content.AllocReq size) at is fit key = absurd fit
  reading_as call waits a l (content.AllocRep code addr) at is fit key = absurd fit
  reading_as call waits a l (content.FreeReq addr) at is fit key = absurd fit
  reading_as call waits a l (content.FreeRep code) at is fit key = absurd fit

  -- where it waits for the page
  writing_as : (call : ℕ) → AwaitsPage (n.entry node page) call
      → (a : Place) (l : Letter) (m : Content) → IsAt n a l → l.message.content ≡ m
      → IsExpectedAs c n l m
      → key_as l m ≡ Own node page → IsWritePending n node page
  writing_as call waits a l (content.WriteReq q) at is fit key = asks_page l.dest (record {
    at = a;
    letter = l;
    there = at;
    dest = refl;
    asker = own_origin l.message.origin node q page key;
    asks = is ∙ ap (λ v. content.WriteReq v) (own_page l.message.origin node q page key);
  })
  writing_as call waits a l (content.WriteRep q copies bytes) at is fit key =
      gets_page (comes a l copies bytes at
      (fit.1 ∙ own_origin l.message.origin node q page key)
      (is ∙ ap (λ v. content.WriteRep v copies bytes) (own_page l.message.origin node q page key)))
  writing_as call waits a l (content.ReadReq q) at is fit key =
      absurd (not_both (n.entry node page) l.message.call call
      (copy_there l.message.origin q l.message.call key fit.1) waits)
  writing_as call waits a l (content.ReadRep q bytes) at is fit key =
      absurd (not_both (n.entry node page) l.message.call call
      (copy_there l.message.origin q l.message.call key fit.2) waits)
  writing_as call waits a l (content.Inval q) at is fit key = cc
  writing_as call waits a l (content.InvalAck q) at is fit key = cc
  writing_as call waits a l (content.AllocReq size) at is fit key = absurd fit
  writing_as call waits a l (content.AllocRep code addr) at is fit key = absurd fit
  writing_as call waits a l (content.FreeReq addr) at is fit key = absurd fit
  writing_as call waits a l (content.FreeRep code) at is fit key = absurd fit

  -- where another node is to give its copy up
  giving_up_as : (target : ℕ) (a : Place) (l : Letter) (m : Content) → IsAt n a l
      → l.message.content ≡ m → IsExpectedAs c n l m
      → key_as l m ≡ Order node target page → IsRecallPending n node target page
  giving_up_as target a l (content.Inval q) at is fit key = ordered (record {
    at = a;
    letter = l;
    there = at;
    from = fit.1 ∙ order_origin l.message.origin node l.dest target q page key;
    dest = order_target l.message.origin node l.dest target q page key;
    says = is
        ∙ ap (λ v. content.Inval v) (order_page l.message.origin node l.dest target q page key);
  })
  giving_up_as target a l (content.InvalAck q) at is fit key = gave_up (record {
    at = a;
    letter = l;
    there = at;
    from = order_target l.message.origin node l.source target q page key;
    dest = fit.1 ∙ order_origin l.message.origin node l.source target q page key;
    says = is
        ∙ ap (λ v. content.InvalAck v)
        (order_page l.message.origin node l.source target q page key);
  })
  giving_up_as target a l (content.ReadReq q) at is fit key = cc
  giving_up_as target a l (content.ReadRep q bytes) at is fit key = cc
  giving_up_as target a l (content.WriteReq q) at is fit key = cc
  giving_up_as target a l (content.WriteRep q copies bytes) at is fit key = cc
  giving_up_as target a l (content.AllocReq size) at is fit key = absurd fit
  giving_up_as target a l (content.AllocRep code addr) at is fit key = absurd fit
  giving_up_as target a l (content.FreeReq addr) at is fit key = absurd fit
  giving_up_as target a l (content.FreeRep code) at is fit key = absurd fit

pub awaited : (c : Config) (n : Net) → IsOrderly c n → IsOwed n → IsAwaited n
awaited c n order owed = record {
  readers = λ node page call waits. (
      let h : HasKey n (Own node page) =
      owed.owed node page (Own node page)
      (copy_wanted (n.entry node page) call node page waits) in
      reading_as c n node page call waits h.at h.letter h.letter.message.content h.there refl
      (order.fits h.at h.letter h.there) h.key
      );
  writers = λ node page call waits. (
      let h : HasKey n (Own node page) =
      owed.owed node page (Own node page)
      (page_wanted (n.entry node page) call node page waits) in
      writing_as c n node page call waits h.at h.letter h.letter.message.content h.there refl
      (order.fits h.at h.letter h.there) h.key
      );
  collectors = λ owner node page call waits. (
      let h : HasKey n (Order owner node page) =
      owed.owed owner page (Order owner node page)
      (ack_wanted (n.entry owner page) call owner page node waits) in
      giving_up_as c n owner page node h.at h.letter h.letter.message.content h.there refl
      (order.fits h.at h.letter h.there) h.key
      );
}

-- in the first net nobody waits
module _ (n : Net) (first : IsFirst n) (none : (i j : ℕ) → n.delivered i j ≡ 0) where
  pub first_owed : IsOwed n
  first_owed = record {
    counted = λ i j. (let f : n.delivered i j ≡ 0 = none i j in omega (arith, f));
    owed = λ i q k w. elim (first.entries i q) [
      | inl y ↦ absurd (subst (λ e. Wants e i q k) y.1 w)
      | inr y ↦ absurd (subst (λ e. Wants e i q k) y w)
    ];
  }
