-- The chain of a request goes down: each of it is at a lower node than the one before, so there is
-- one alone at each node. It ends where a letter is under way, at a node to which the page is under
-- way, or at one that collects acknowledgements.
use Rattle.std.proofs.Common.{◌≡◌, ◌⊎◌, ◌<◌, ℕ, zero, suc, slice_get, Some, refl, sym, ap, ◌∙◌, subst, inl, inr, arith}
use Rattle.std.proofs.lemmas.Bool.{cases_eq, cases_lt, both_ways}
use Rattle.std.proofs.lemmas.Option.{none-some}
use Rattle.ivy_model.specs.declared.Config.{Config}
use Rattle.ivy_wire.specs.declared.Content.TheVariants as content
use Rattle.ivy_wire.specs.stated.Data.{Content}
use Rattle.ivy_pagetable.specs.declared.Entry.{Entry}
use Rattle.ivy_pagetable.specs.declared.Entry.TheVariants as entry
use Rattle.ivy_pagetable.specs.declared.PutOff.{PutOff}
use Rattle.ivy_pagetable.specs.declared.Request.{Request}
use Rattle.ivy_pagetable.specs.declared.Request.TheVariants as request
use Rattle.ivy_pagetable.specs.stated.Entries.{put_offs, is_owner}
use Rattle.ivy_pagetable.specs.stated.States.{AwaitWriteState, AwaitAcksState}
use Rattle.proof_table.specs.stated.Letters.{Letter, Net, Place, Underway, Aside, Loose, IsAt, content_of}
use Rattle.proof_table.specs.stated.Orderly.{AwaitsPage, IsOrderly}
use Rattle.proof_table.specs.stated.Descending.{GoDown}
use Rattle.proof_table.specs.stated.Sending.{owns, comes}
use Rattle.proof_table.specs.stated.Waiting.{IsWritePending, asks_page, gets_page, IsAwaited}
use Rattle.proof_table.proofs.waiting.Onward.{IsComing}
use Rattle.proof_answers.specs.late.Late.{IsRequest, IsPutOff, IsChained, first, next, PutOffOrders}
use Rattle.proof_answers.proofs.late.LateFacts.{one_at, request_key}
use Rattle.proof_answers.proofs.late.LateSteps.{chained_at, chained_asks}

-- what is put off, and is a request for the page
abbrev AsksAs : ℕ → Content → Type 0
AsksAs p body = (body ≡ content.ReadReq p) ⊎ (body ≡ content.WriteReq p)

put_page : (k : Request) (q p : ℕ) → AsksAs p (content_of k q)
    → (q ≡ p) × (k ≡ request.Invalidate → ⊥)
put_page request.Read q p (inl is) =
    ((let e : content.ReadReq q ≡ content.ReadReq p = is in cc), λ h. cc)
put_page request.Read q p (inr is) =
    absurd (let e : content.ReadReq q ≡ content.WriteReq p = is in cc)
put_page request.Write q p (inl is) =
    absurd (let e : content.WriteReq q ≡ content.ReadReq p = is in cc)
put_page request.Write q p (inr is) =
    ((let e : content.WriteReq q ≡ content.WriteReq p = is in cc), λ h. cc)
put_page request.Invalidate q p (inl is) =
    absurd (let e : content.Inval q ≡ content.ReadReq p = is in cc)
put_page request.Invalidate q p (inr is) =
    absurd (let e : content.Inval q ≡ content.WriteReq p = is in cc)

-- a request that is put off is so at the entry of its node for the page
pub record IsPutAt (n : Net) (p x : ℕ) : Type 0 where
  pub number : ℕ
  pub later : PutOff
  pub there : slice_get (put_offs (n.entry x p)) number ≡ Some later
  pub asks : later.kind ≡ request.Invalidate → ⊥

pub put_at : (n : Net) (a : Place) (l : Letter) (p i : ℕ) → IsAt n a l → IsRequest p i l
    → IsPutOff a → IsPutAt n p l.dest
put_at n (Underway i j k) l p o at asks put = absurd put
put_at n (Loose k) l p o at asks put = absurd put
put_at n (Aside x q k) l p o at asks put =
    let is : AsksAs p (content_of at.0.kind q) =
    subst (λ (v : Letter). AsksAs p v.message.content) at.2 asks.1 in
    let kind = put_page at.0.kind q p is in
    record {
      number = k;
      later = at.0;
      there =
          ap (λ v. slice_get (put_offs (n.entry v p)) k) (ap (λ (v : Letter). v.dest) at.2)
          ∙ ap (λ v. slice_get (put_offs (n.entry x v)) k) (sym kind.0) ∙ at.1;
      asks = kind.1;
    }

-- how the chain ends: with a letter that is not put off, or with one that is put off where the page
-- comes, or where acknowledgements are collected
pub data IsEnd (n : Net) (p : ℕ) (a : Place) (l : Letter) : Type 0 where
  arrives : (IsPutOff a → ⊥) → IsEnd n p a l
  gets : IsPutOff a → (s : AwaitWriteState) → n.entry l.dest p ≡ entry.AwaitWrite s
      → IsComing n p l.dest → IsEnd n p a l
  collects : IsPutOff a → (s : AwaitAcksState) → n.entry l.dest p ≡ entry.AwaitAcks s
      → IsEnd n p a l

pub record HasEnd (n : Net) (p o : ℕ) : Type 0 where
  pub at : Place
  pub letter : Letter
  pub chained : IsChained n p o at letter
  pub ends : IsEnd n p at letter

module _ (c : Config) (n : Net) (order : IsOrderly c n) (p o : ℕ) (height : ℕ → ℕ)
    (down : GoDown n p height) where
  pub one_request : (a b : Place) (l k : Letter) (i : ℕ) → IsAt n a l → IsRequest p i l → IsAt n b k
      → IsRequest p i k → a ≡ b
  one_request a b l k i at asks bt wants =
      order.one_letter a b l k at bt (request_key p i l asks ∙ sym (request_key p i k wants))

  pub request_down : (a : Place) (l : Letter) (i : ℕ) → IsAt n a l → IsRequest p i l
      → height l.dest < height i
  request_down a l i at asks = elim asks.1 [
    | inl is ↦
        down.reads i l.dest
        (record { at = a; letter = l; there = at; dest = refl; asker = asks.0; asks = is })
    | inr is ↦
        down.writes i l.dest
        (record { at = a; letter = l; there = at; dest = refl; asker = asks.0; asks = is })
  ]

  -- one of the chain, with so many before it
  abbrev ChainAt : ℕ → Place → Letter → Type 0
  ChainAt zero a l = IsAt n a l × IsRequest p o l
  ChainAt (suc d) b l =
      (a : Place) × (k : Letter) × ChainAt d a k × IsPutOff a × IsAt n b l × IsRequest p k.dest l

  number : {a : Place} {l : Letter} → IsChained n p o a l → (d : ℕ) × ChainAt d a l
  number (first a l there asks) = (0, (there, asks))
  number (next a b k l before put there asks) =
      let h = number before in (suc h.0, (a, k, h.1, put, there, asks))

  there_at : (d : ℕ) (a : Place) (l : Letter) → ChainAt d a l → IsAt n a l
  there_at zero a l h = h.0
  there_at (suc d) a l h = h.4

  same_chain : (d : ℕ) (a b : Place) (l k : Letter) → ChainAt d a l → ChainAt d b k → a ≡ b
  same_chain zero a b l k x y = one_request a b l k o x.0 x.1 y.0 y.1
  same_chain (suc d) a b l k x y =
      let letters : x.1 ≡ y.1 =
      one_at n y.0 x.1 y.1
      (subst (λ v. IsAt n v x.1) (same_chain d x.0 y.0 x.1 y.1 x.2 y.2)
      (there_at d x.0 x.1 x.2)) (there_at d y.0 y.1 y.2) in
      one_request a b l k y.1.dest x.4
      (subst (λ (v : Letter). IsRequest p v.dest l) letters x.5) y.4 y.5

  below : (d : ℕ) (a : Place) (l : Letter) → ChainAt d a l → height l.dest < height o
  below zero a l h = request_down a l o h.0 h.1
  below (suc d) b l h =
      let one = request_down b l h.1.dest h.4 h.5 in
      let all = below d h.0 h.1 h.2 in
      omega (arith, one, all)

  -- of two, the later one is lower, and the earlier one is put off
  after : (d m : ℕ) (a b : Place) (l k : Letter) → ChainAt d a l → d < m → ChainAt m b k
      → (height k.dest < height l.dest) × IsPutOff a
  after d zero a b l k x less y = absurd (omega (arith, less))
  after d (suc m) a b l k x less y = elim (cases_eq d m) [
    | inl same ↦ (
        let now : ChainAt m a l = subst (λ v. ChainAt v a l) same x in
        let places : y.0 ≡ a = same_chain m y.0 a y.1 l y.2 now in
        let letters : y.1 ≡ l =
        one_at n a y.1 l (subst (λ v. IsAt n v y.1) places (there_at m y.0 y.1 y.2))
        (there_at m a l now) in (
          subst (λ (v : Letter). height k.dest < height v.dest) letters
              (request_down b k y.1.dest y.4 y.5),
          subst IsPutOff places y.3,
        )
        )
    | inr ne ↦ (
        let one = request_down b k y.1.dest y.4 y.5 in
        let rest = after d m a y.0 l y.1 x (omega (arith, less, ne)) y.2 in
        let lower = rest.0 in
        (omega (arith, one, lower), rest.1)
        )
  ]

  -- one that is not the lowest is put off
  pub above_put : {a b : Place} {l k : Letter} → IsChained n p o a l → IsChained n p o b k
      → height k.dest < height l.dest → IsPutOff a
  above_put {a = a} {b = b} {l = l} {k = k} x y low = elim (cases_lt (number x).0 (number y).0) [
    | inl less ↦ (after (number x).0 (number y).0 a b l k (number x).1 less (number y).1).1
    | inr more ↦ elim (cases_eq (number y).0 (number x).0) [
      | inl same ↦ absurd (
          let now : ChainAt (number x).0 b k =
          subst (λ v. ChainAt v b k) same (number y).1 in
          let places : b ≡ a = same_chain (number x).0 b a k l now (number x).1 in
          let letters : k ≡ l =
          one_at n a k l (subst (λ v. IsAt n v k) places (there_at (number x).0 b k now))
          (there_at (number x).0 a l (number x).1) in
          let level : height k.dest ≡ height l.dest = ap (λ (v : Letter). height v.dest) letters in
          omega (arith, level, low)
          )
      | inr ne ↦ absurd (
          let e = after (number y).0 (number x).0 b a k l (number y).1
          (omega (arith, more, ne)) (number x).1 in
          let lower = e.0 in
          omega (arith, lower, low)
          )
    ]
  ]

  -- there is one of it at a node
  pub one_each : {a b : Place} {l k : Letter} → IsChained n p o a l → IsChained n p o b k
      → l.dest ≡ k.dest → a ≡ b
  one_each {a = a} {b = b} {l = l} {k = k} x y same = elim (cases_eq (number x).0 (number y).0) [
    | inl alike ↦
        same_chain (number y).0 a b l k (subst (λ v. ChainAt v a l) alike (number x).1) (number y).1
    | inr ne ↦ absurd (
        let level : height l.dest ≡ height k.dest = ap height same in
        elim (cases_lt (number x).0 (number y).0) [
          | inl less ↦
              (let e = (after (number x).0 (number y).0 a b l k (number x).1 less (number y).1).0 in
              omega (arith, e, level))
          | inr more ↦
              (let e = (after (number y).0 (number x).0 b a k l (number y).1
              (omega (arith, more, ne)) (number x).1).0 in
              omega (arith, e, level))
        ]
        )
  ]

  -- and no node of it is as high as the one that asks
  pub chained_below : {a : Place} {l : Letter} → IsChained n p o a l → height l.dest < height o
  chained_below {a = a} {l = l} x = below (number x).0 a l (number x).1

  module _ (awaited : IsAwaited n) (orders : PutOffOrders n) where
    -- one of the chain is its end, or it goes on, as `on` says, at a lower node
    module _ (l : Letter)
        (on : (b : Place) (k : Letter) → IsChained n p o b k → height k.dest < height l.dest
        → HasEnd n p o) where
      by_request : (b : Place) → IsChained n p o b l → IsPutOff b → IsWritePending n l.dest p
          → (s : AwaitWriteState) → n.entry l.dest p ≡ entry.AwaitWrite s → HasEnd n p o
      by_request b y put (asks_page at k) s is =
          on k.at k.letter (next b k.at l k.letter y put k.there (k.asker, inr k.asks))
          (request_down k.at k.letter l.dest k.there (k.asker, inr k.asks))
      by_request b y put (gets_page (owns h)) s is =
          absurd (both_ways (is_owner (n.entry l.dest p)) (ap is_owner is) h)
      by_request b y put (gets_page (comes at m bits bytes there to says)) s is = record {
        at = b;
        letter = l;
        chained = y;
        ends = gets put s is
            (record {
              at = at;
              letter = m;
              bits = bits;
              bytes = bytes;
              there = there;
              dest = to;
              brings = says;
            });
      }

      by_entry : (b : Place) → IsChained n p o b l → IsPutOff b → (h : IsPutAt n p l.dest)
          → (e : Entry) → n.entry l.dest p ≡ e → HasEnd n p o
      by_entry b y put h (entry.Idle s) is =
          absurd (none-some h.later
          (ap (λ v. slice_get (put_offs v) h.number) (sym is) ∙ h.there))
      by_entry b y put h (entry.AwaitRead s) is =
          absurd (h.asks (orders l.dest p h.number s h.later is
          (ap (λ v. slice_get (put_offs v) h.number) (sym is) ∙ h.there)))
      by_entry b y put h (entry.AwaitWrite s) is =
          by_request b y put
          (awaited.writers l.dest p s.waiting.call
          (subst (λ v. AwaitsPage v s.waiting.call) (sym is) refl)) s is
      by_entry b y put h (entry.AwaitAcks s) is =
          record { at = b; letter = l; chained = y; ends = collects put s is }

      by_place : (b : Place) → IsChained n p o b l → (IsPutOff b → IsPutAt n p l.dest)
          → HasEnd n p o
      by_place (Underway i j k) y put =
          record { at = Underway i j k; letter = l; chained = y; ends = arrives (λ h. h) }
      by_place (Loose k) y put =
          record { at = Loose k; letter = l; chained = y; ends = arrives (λ h. h) }
      by_place (Aside i q k) y put =
          by_entry (Aside i q k) y tt (put tt) (n.entry l.dest p) refl

    -- by so many heights at most it goes on
    end_from : (fuel : ℕ) (a : Place) (l : Letter) → IsChained n p o a l → height l.dest < fuel
        → HasEnd n p o
    end_from zero a l x low = absurd (omega (arith, low))
    end_from (suc fuel) a l x low =
        by_place l (λ b k y less. end_from fuel b k y (omega (arith, less, low))) a x
        (λ put. put_at n a l p (chained_asks n p o x).0 (chained_at n p o x)
        (chained_asks n p o x).1 put)

    -- the chain of a request that is out has an end
    pub chain_end : (a : Place) (l : Letter) → IsAt n a l → IsRequest p o l → HasEnd n p o
    chain_end a l there asks =
        end_from (suc (height l.dest)) a l (first a l there asks) (omega arith)
