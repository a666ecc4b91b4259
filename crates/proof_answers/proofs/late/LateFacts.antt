-- What an orderly net tells of requests, of who asked, and of the chain of a request.
use Rattle.std.proofs.Common.{◌≡◌, ◌<◌, ℕ, slice_get, Some, refl, sym, ap, ◌∙◌, subst, inl, inr, arith}
use Rattle.std.proofs.lemmas.Option.{none-some, same_Some}
use Rattle.ivy_model.specs.declared.Config.{Config}
use Rattle.ivy_wire.specs.declared.Content.TheVariants as content
use Rattle.ivy_pagetable.specs.declared.Entry.{Entry}
use Rattle.ivy_pagetable.specs.declared.Entry.TheVariants as entry
use Rattle.ivy_pagetable.specs.declared.Request.{Request}
use Rattle.ivy_pagetable.specs.declared.Request.TheVariants as request
use Rattle.ivy_pagetable.specs.stated.States.{IdleState, WaitingState, AwaitWriteState, AwaitAcksState}
use Rattle.ivy_pagetable.specs.stated.Entries.{put_offs}
use Rattle.proof_table.specs.stated.Letters.{Letter, Net, Place, Underway, Aside, Loose, content_of, letter_of, IsAt}
use Rattle.proof_table.specs.stated.Orderly.{AwaitsCopy, AwaitsPage, Own, key_of, key_as, IsExpectedAs, IsOrderly}
use Rattle.proof_table.specs.waiting.Readers.{IsBefore}
use Rattle.proof_table.proofs.transitions.Sole.{fits_as}
use Rattle.proof_answers.specs.late.Late.{IsRequest, IsOut, IsPutOff, HasCome, IsAfter, PutOffOrders}
use Rattle.proof_answers.proofs.late.LateSteps.{chained_asks, chained_at}
use Rattle.proof_answers.proofs.late.LateNets.{put_page}

-- the states of an entry are apart
pub idle_reading : {e : Entry} {s : IdleState} {t : WaitingState} → e ≡ entry.Idle s
    → e ≡ entry.AwaitRead t → ⊥
idle_reading {e} {s} {t} h k = (let f : entry.Idle s ≡ entry.AwaitRead t = sym h ∙ k in cc)

pub idle_writing : {e : Entry} {s : IdleState} {t : AwaitWriteState} → e ≡ entry.Idle s
    → e ≡ entry.AwaitWrite t → ⊥
idle_writing {e} {s} {t} h k = (let f : entry.Idle s ≡ entry.AwaitWrite t = sym h ∙ k in cc)

pub idle_collecting : {e : Entry} {s : IdleState} {t : AwaitAcksState} → e ≡ entry.Idle s
    → e ≡ entry.AwaitAcks t → ⊥
idle_collecting {e} {s} {t} h k = (let f : entry.Idle s ≡ entry.AwaitAcks t = sym h ∙ k in cc)

pub reading_writing : {e : Entry} {s : WaitingState} {t : AwaitWriteState}
    → e ≡ entry.AwaitRead s → e ≡ entry.AwaitWrite t → ⊥
reading_writing {e} {s} {t} h k =
    (let f : entry.AwaitRead s ≡ entry.AwaitWrite t = sym h ∙ k in cc)

pub reading_collecting : {e : Entry} {s : WaitingState} {t : AwaitAcksState}
    → e ≡ entry.AwaitRead s → e ≡ entry.AwaitAcks t → ⊥
reading_collecting {e} {s} {t} h k =
    (let f : entry.AwaitRead s ≡ entry.AwaitAcks t = sym h ∙ k in cc)

pub writing_collecting : {e : Entry} {s : AwaitWriteState} {t : AwaitAcksState}
    → e ≡ entry.AwaitWrite s → e ≡ entry.AwaitAcks t → ⊥
writing_collecting {e} {s} {t} h k =
    (let f : entry.AwaitWrite s ≡ entry.AwaitAcks t = sym h ∙ k in cc)

pub same_idle : {e : Entry} {s t : IdleState} → e ≡ entry.Idle s → e ≡ entry.Idle t → s ≡ t
same_idle {e} {s} {t} h k = (let f : entry.Idle s ≡ entry.Idle t = sym h ∙ k in cc)

pub same_reading : {e : Entry} {s t : WaitingState} → e ≡ entry.AwaitRead s
    → e ≡ entry.AwaitRead t → s ≡ t
same_reading {e} {s} {t} h k =
    (let f : entry.AwaitRead s ≡ entry.AwaitRead t = sym h ∙ k in cc)

-- a node that asked
pub data IsAsking (e : Entry) : Type 0 where
  for_copy : (s : WaitingState) → e ≡ entry.AwaitRead s → IsAsking e
  for_page : (s : AwaitWriteState) → e ≡ entry.AwaitWrite s → IsAsking e

copy_awaited : (e : Entry) (k : ℕ) → AwaitsCopy e k → (s : WaitingState) × (e ≡ entry.AwaitRead s)
copy_awaited (entry.Idle s) k h = absurd h
copy_awaited (entry.AwaitRead s) k h = (s, refl)
copy_awaited (entry.AwaitWrite s) k h = absurd h
copy_awaited (entry.AwaitAcks s) k h = absurd h

page_awaited : (e : Entry) (k : ℕ) → AwaitsPage e k
    → (s : AwaitWriteState) × (e ≡ entry.AwaitWrite s)
page_awaited (entry.Idle s) k h = absurd h
page_awaited (entry.AwaitRead s) k h = absurd h
page_awaited (entry.AwaitWrite s) k h = (s, refl)
page_awaited (entry.AwaitAcks s) k h = absurd h

-- what is put off at an entry that is a request waits for the page, or for acknowledgements
pub data IsHolding (e : Entry) : Type 0 where
  awaiting : (s : AwaitWriteState) → e ≡ entry.AwaitWrite s → IsHolding e
  collecting : (s : AwaitAcksState) → e ≡ entry.AwaitAcks s → IsHolding e

pub request_key : (p i : ℕ) (l : Letter) → IsRequest p i l → key_of l ≡ Own i p
request_key p i l asks = elim asks.1 [
  | inl h ↦ ap (key_as l) h ∙ ap (λ v. Own v p) asks.0
  | inr h ↦ ap (key_as l) h ∙ ap (λ v. Own v p) asks.0
]

order_asks_none : (k : Request) (q p i : ℕ) (l : Letter) → k ≡ request.Invalidate
    → l.message.content ≡ content_of k q → IsRequest p i l → ⊥
order_asks_none k q p i l is says asks =
    let order : l.message.content ≡ content.Inval q = says ∙ ap (λ v. content_of v q) is in
    elim asks.1 [
      | inl h ↦ (let f : content.Inval q ≡ content.ReadReq p = sym order ∙ h in cc)
      | inr h ↦ (let f : content.Inval q ≡ content.WriteReq p = sym order ∙ h in cc)
    ]

-- a place has one letter
pub one_at : (n : Net) (b : Place) (k v : Letter) → IsAt n b k → IsAt n b v → k ≡ v
one_at n (Underway s d w) k v one two =
    let says : k.message ≡ v.message = same_Some k.message v.message (sym one.1 ∙ two.1) in
    ap (λ a. record { source = a; dest = k.dest; message = k.message }) (one.2 ∙ sym two.2)
    ∙ ap (λ a. record { source = v.source; dest = a; message = k.message }) (one.3 ∙ sym two.3)
    ∙ ap (λ a. record { source = v.source; dest = v.dest; message = a }) says
one_at n (Aside s q w) k v one two =
    one.2 ∙ ap (letter_of s q) (same_Some one.0 two.0 (sym one.1 ∙ two.1)) ∙ sym two.2
one_at n (Loose w) k v one two = same_Some k v (sym one ∙ two)

module _ (c : Config) (n : Net) (order : IsOrderly c n) (p : ℕ) where
  -- two requests of a node are one
  pub one_request : (i : ℕ) (a b : Place) (k l : Letter) → IsAt n a k → IsAt n b l
      → IsRequest p i k → IsRequest p i l → a ≡ b
  one_request i a b k l at bt one two =
      order.one_letter a b k l at bt (request_key p i k one ∙ sym (request_key p i l two))

  -- the answer to a node is there: so it has no request
  pub answered_out : (i : ℕ) (a : Place) (l : Letter) → IsAt n a l → key_of l ≡ Own i p
      → ((j : ℕ) → IsRequest p j l → ⊥) → IsOut n p i → ⊥
  answered_out i a l at key none out =
      let same : out.at ≡ a =
      order.one_letter out.at a out.letter l out.there at
      (request_key p i out.letter out.asks ∙ sym key) in
      let it : out.letter ≡ l =
      one_at n a out.letter l (subst (λ v. IsAt n v out.letter) same out.there) at in
      none i (subst (IsRequest p i) it out.asks)

  reader_asks : (a : Place) (l : Letter) → IsAt n a l → l.message.content ≡ content.ReadReq p
      → (s : WaitingState) × (n.entry l.message.origin p ≡ entry.AwaitRead s)
  reader_asks a l at is =
      let fit : IsExpectedAs c n l (content.ReadReq p) =
      fits_as c n order a l (content.ReadReq p) at is in
      copy_awaited (n.entry l.message.origin p) l.message.call fit.1

  writer_asks : (a : Place) (l : Letter) → IsAt n a l → l.message.content ≡ content.WriteReq p
      → (s : AwaitWriteState) × (n.entry l.message.origin p ≡ entry.AwaitWrite s)
  writer_asks a l at is =
      let fit : IsExpectedAs c n l (content.WriteReq p) =
      fits_as c n order a l (content.WriteReq p) at is in
      page_awaited (n.entry l.message.origin p) l.message.call fit.1

  pub asker_below : (i : ℕ) (a : Place) (l : Letter) → IsAt n a l → IsRequest p i l → i < c.nodes
  asker_below i a l at asks = subst (λ v. v < c.nodes) asks.0 (elim asks.1 [
    | inl h ↦
        (let fit : IsExpectedAs c n l (content.ReadReq p) =
        fits_as c n order a l (content.ReadReq p) at h in fit.0.below)
    | inr h ↦
        (let fit : IsExpectedAs c n l (content.WriteReq p) =
        fits_as c n order a l (content.WriteReq p) at h in fit.0.below)
  ])

  pub reader_of : (i : ℕ) (a : Place) (l : Letter) → IsAt n a l → l.message.origin ≡ i
      → l.message.content ≡ content.ReadReq p
      → (s : WaitingState) × (n.entry i p ≡ entry.AwaitRead s)
  reader_of i a l at from is =
      subst (λ v. (s : WaitingState) × (n.entry v p ≡ entry.AwaitRead s)) from
      (reader_asks a l at is)

  pub writer_of : (i : ℕ) (a : Place) (l : Letter) → IsAt n a l → l.message.origin ≡ i
      → l.message.content ≡ content.WriteReq p
      → (s : AwaitWriteState) × (n.entry i p ≡ entry.AwaitWrite s)
  writer_of i a l at from is =
      subst (λ v. (s : AwaitWriteState) × (n.entry v p ≡ entry.AwaitWrite s)) from
      (writer_asks a l at is)

  -- whoever asked waits
  pub asking_of : (i : ℕ) → IsOut n p i → IsAsking (n.entry i p)
  asking_of i out = elim out.asks.1 [
    | inl h ↦
        (let s = reader_of i out.at out.letter out.there out.asks.0 h in for_copy s.0 s.1)
    | inr h ↦
        (let s = writer_of i out.at out.letter out.there out.asks.0 h in for_page s.0 s.1)
  ]

  pub idle_out : (i : ℕ) (s : IdleState) → n.entry i p ≡ entry.Idle s → IsOut n p i → ⊥
  idle_out i s is out = by_asking (asking_of i out)
    where
      by_asking : IsAsking (n.entry i p) → ⊥
      by_asking (for_copy t h) = idle_reading is h
      by_asking (for_page t h) = idle_writing is h

  module _ (orders : PutOffOrders n) where
    -- a request is put off where the page or acknowledgements are awaited
    pub put_waits : (x q k i : ℕ) (l : Letter) → IsAt n (Aside x q k) l → IsRequest p i l
        → IsHolding (n.entry x p)
    put_waits x q k i l at asks =
        let page : q ≡ p = put_page n x q k p i l at asks in
        let was : slice_get (put_offs (n.entry x p)) k ≡ Some at.0 =
        ap (λ v. slice_get (put_offs (n.entry x v)) k) (sym page) ∙ at.1 in
        by_entry (n.entry x p) refl was
      where
        by_entry : (e : Entry) → n.entry x p ≡ e → slice_get (put_offs e) k ≡ Some at.0
            → IsHolding (n.entry x p)
        by_entry (entry.Idle s) is h = absurd (none-some at.0 h)
        by_entry (entry.AwaitRead s) is h =
            absurd (order_asks_none at.0.kind q p i l (orders x p k s at.0 is h)
            (ap (λ (v : Letter). v.message.content) at.2) asks)
        by_entry (entry.AwaitWrite s) is h = awaiting s is
        by_entry (entry.AwaitAcks s) is h = collecting s is

    -- so does the node of a request that is put off
    pub put_off_waits : (a : Place) (l : Letter) (i : ℕ) → IsAt n a l → IsRequest p i l
        → IsPutOff a → IsHolding (n.entry l.dest p)
    put_off_waits (Underway s d w) l i at asks put = absurd put
    put_off_waits (Loose w) l i at asks put = absurd put
    put_off_waits (Aside x q w) l i at asks put =
        subst (λ v. IsHolding (n.entry v p)) (ap (λ (v : Letter). v.dest) (sym at.2))
        (put_waits x q w i l at asks)

    -- the chain goes on by requests to write
    pub next_writes : (a b : Place) (k l : Letter) (i : ℕ) → IsAt n a k → IsRequest p i k
        → IsPutOff a → IsAt n b l → IsRequest p k.dest l → l.message.content ≡ content.WriteReq p
    next_writes a b k l i at one put bt two = elim two.1 [
      | inr h ↦ h
      | inl h ↦ (
          let s = reader_of k.dest b l bt two.0 h in
          absurd (by_holding (put_off_waits a k i at one put) s.0 s.1)
          )
    ]
      where
        by_holding : IsHolding (n.entry k.dest p) → (s : WaitingState)
            → n.entry k.dest p ≡ entry.AwaitRead s → ⊥
        by_holding (awaiting t h) s is = reading_writing is h
        by_holding (collecting t h) s is = reading_collecting is h

    -- nothing that asks comes before the first loose letter where nobody waits for the page
    pub none_before : (o : ℕ) (l : Letter) → IsAfter n p o (Loose 0) l
        → IsHolding (n.entry l.dest p)
    none_before o l f =
        by_place f.at f.letter (chained_at n p o f.chained) (chained_asks n p o f.chained) f.dest
        f.before
      where
        by_place : (a : Place) (k : Letter) → IsAt n a k → (i : ℕ) × IsRequest p i k
            → k.dest ≡ l.dest → IsBefore a (Loose 0) → IsHolding (n.entry l.dest p)
        by_place (Underway s d w) k at asks same h = absurd h
        by_place (Loose w) k at asks same h = absurd (omega (arith, h))
        by_place (Aside x q w) k at asks same h =
            subst (λ v. IsHolding (n.entry v p)) same
            (put_off_waits (Aside x q w) k asks.0 at asks.1 tt)

pub come_put : (a : Place) → IsPutOff a → HasCome a
come_put (Underway s d w) h = absurd h
come_put (Aside x q w) h = tt
come_put (Loose w) h = absurd h

pub holding_idle : {e : Entry} {s : IdleState} → e ≡ entry.Idle s → IsHolding e → ⊥
holding_idle is (awaiting t h) = idle_writing is h
holding_idle is (collecting t h) = idle_collecting is h

pub holding_reading : {e : Entry} {s : WaitingState} → e ≡ entry.AwaitRead s → IsHolding e → ⊥
holding_reading is (awaiting t h) = reading_writing is h
holding_reading is (collecting t h) = reading_collecting is h
