-- At the end of a round what came soon has come: each number of rounds is one less, and none is
-- left at none.
use Rattle.std.proofs.Common.{◌≡◌, ◌⊎◌, ◌≤◌, ◌*◌, ◌-◌, ℕ, zero, suc, true, false, List, [], length, slice_get, refl, sym, ap, ◌∙◌, subst, inl, inr, arith}
use Rattle.std.proofs.lemmas.Bool.{cases_Bool}
use Rattle.std.proofs.lemmas.Option.{none-some, slice_get_within}
use Rattle.ivy_model.specs.declared.Config.{Config}
use Rattle.ivy_wire.specs.declared.Content.TheVariants as content
use Rattle.ivy_wire.specs.stated.Data.{Content}
use Rattle.ivy_pagetable.specs.declared.Entry.{Entry}
use Rattle.ivy_pagetable.specs.declared.Entry.TheVariants as entry
use Rattle.ivy_pagetable.specs.declared.Request.{Request}
use Rattle.ivy_pagetable.specs.declared.Request.TheVariants as request
use Rattle.ivy_pagetable.specs.stated.Entries.{readable, is_locked, is_owner}
use Rattle.proof_table.specs.stated.Letters.{Letter, Net, Place, Underway, Aside, Loose, IsAt, content_of}
use Rattle.proof_table.specs.stated.Orderly.{Collects, CanWait, HasCopy, IsExpectedAs, IsOrderly}
use Rattle.proof_table.specs.stated.Orderly.{reads as has_bytes, comes as gets_bytes}
use Rattle.proof_table.proofs.transitions.Sole.{fits_as}
use Rattle.proof_table.specs.stated.Sending.{IsPosted}
use Rattle.proof_table.specs.stated.Waiting.{IsAwaited, IsRecallPending, ordered, gave_up}
use Rattle.proof_table.proofs.waiting.Onward.{IsArrived, IsComing, AsksFor}
use Rattle.proof_table.proofs.waiting.Ranks.{IsSoon, IsOrdered, IsRecalled, AreRecalled, IsHeld, IsServedBy, holds, behind, IsBroughtIn, copies, comes, collects, IsAnsweredIn, brought, reads, writes, IsReachedIn, near, waits, free, nears, unlocked_loose}

-- what can be put off
abbrev pub IsPut : Content → Type 0
IsPut (content.ReadReq page) = Unit {0}
IsPut (content.WriteReq page) = Unit {0}
IsPut (content.ReadRep page bytes) = ⊥
IsPut (content.WriteRep page bits bytes) = ⊥
IsPut (content.Inval page) = Unit {0}
IsPut (content.InvalAck page) = ⊥
IsPut (content.AllocReq size) = ⊥
IsPut (content.AllocRep code addr) = ⊥
IsPut (content.FreeReq addr) = ⊥
IsPut (content.FreeRep code) = ⊥

put_is : (k : Request) (p : ℕ) → IsPut (content_of k p)
put_is request.Read p = tt
put_is request.Write p = tt
put_is request.Invalidate p = tt

-- an owner that collects acknowledgements misses some; and whom it misses has a copy, or gets one,
-- or has given it up
pub record AreMissed (n : Net) (p : ℕ) : Type 0 where
  pub some : (y : ℕ) → is_owner (n.entry y p) ≡ true → is_locked (n.entry y p) ≡ true
      → ((x call : ℕ) → Collects (n.entry y p) call x → ⊥) → ⊥
  pub has : (y x call : ℕ) → Collects (n.entry y p) call x
      → HasCopy n x p ⊎ IsPosted n (content.InvalAck p) x y

order_kind : (k : Request) (p q : ℕ) → content_of k p ≡ content.Inval q → k ≡ request.Invalidate
order_kind request.Read p q h = absurd cc
order_kind request.Write p q h = absurd cc
order_kind request.Invalidate p q h = refl

waiting_unread : (e : Entry) → CanWait e → readable e ≡ true → ⊥
waiting_unread (entry.Idle s) can h = can
waiting_unread (entry.AwaitRead s) can h = (let f : false ≡ true = h in cc)
waiting_unread (entry.AwaitWrite s) can h = can
waiting_unread (entry.AwaitAcks s) can h = can

-- the next round
abbrev pub next_due : Net → ℕ → ℕ → ℕ
next_due n i j = length (n.posted i j)

-- all that was posted comes soon then
pub all_next : (n : Net) (a : Place) (l : Letter) → IsAt n a l → IsSoon (next_due n) a
all_next n (Underway i j k) l at = slice_get_within (n.posted i j) k l.message at.1
all_next n (Aside i q k) l at = tt
all_next n (Loose k) l at = tt

module _ (c : Config) (n : Net) (order : IsOrderly c n) (awaited : IsAwaited n) (due : ℕ → ℕ → ℕ)
    (ended : (i j : ℕ) → due i j ≤ n.delivered i j) (none : n.loose ≡ []) (p w : ℕ)
    (missed : AreMissed n p) where
  abbrev due' : ℕ → ℕ → ℕ
  due' = next_due n

  pub all_soon : (a : Place) (l : Letter) → IsAt n a l → IsSoon due' a
  all_soon = all_next n

  -- what came soon is put off now
  pub soon_put : (a : Place) (l : Letter) → IsAt n a l → IsSoon due a
      → IsPut l.message.content × IsArrived a
  soon_put (Underway i j k) l at soon =
      absurd (let e = ended i j in let low = at.0 in omega (arith, e, low, soon))
  soon_put (Loose k) l at soon = absurd (none-some l (ap (λ v. slice_get v k) (sym none) ∙ at))
  soon_put (Aside i q k) l at soon = (
    subst (λ (v : Letter). IsPut v.message.content) (sym at.2) (put_is at.0.kind q),
    tt,
  )

  no_ack : (y x : ℕ) (k : IsPosted n (content.InvalAck p) x y) → IsSoon due k.at → ⊥
  no_ack y x k soon = subst IsPut k.says (soon_put k.at k.letter k.there soon).0

  pub no_page : (y : ℕ) (k : IsComing n p y) → IsSoon due k.at → ⊥
  no_page y k soon = subst IsPut k.brings (soon_put k.at k.letter k.there soon).0

  pub no_copy : (a : Place) (l : Letter) (bytes : List ℕ) → IsAt n a l
      → l.message.content ≡ content.ReadRep p bytes → IsSoon due a → ⊥
  no_copy a l bytes at says soon = subst IsPut says (soon_put a l at soon).0

  pub recalled_none : (y : ℕ) → is_owner (n.entry y p) ≡ true → is_locked (n.entry y p) ≡ true
      → AreRecalled n due p w 0 y → ⊥
  recalled_none y own shut recalled =
      missed.some y own shut
      (λ x call col. (let back = recalled x call col in no_ack y x back.0 back.1))

  -- an order that came is put off where a copy is awaited, and none is on its way
  order_at : (a : Place) (l : Letter) → IsAt n a l → l.message.content ≡ content.Inval p
      → IsArrived a → CanWait (n.entry l.dest p)
  order_at (Underway i j k) l at says arrived = absurd arrived
  order_at (Loose k) l at says arrived =
      absurd (none-some l (ap (λ v. slice_get v k) (sym none) ∙ at))
  order_at (Aside i q k) l at says arrived =
      let is : content_of at.0.kind q ≡ content.Inval p =
      ap (λ (v : Letter). v.message.content) (sym at.2) ∙ says in
      let kind : at.0.kind ≡ request.Invalidate = order_kind at.0.kind q p is in
      let page : q ≡ p = (
      let e : content.Inval q ≡ content.Inval p = ap (λ v. content_of v q) (sym kind) ∙ is in cc
      ) in
      subst (λ v. CanWait (n.entry v p)) (ap (λ (v : Letter). v.dest) (sym at.2))
      (subst (λ v. CanWait (n.entry i v)) page (order.orders i q k at.0 at.1 kind))

  no_order : (y x : ℕ) (k : IsOrdered n due p w y x) → HasCopy n x p → ⊥
  no_order y x k (has_bytes h) =
      waiting_unread (n.entry x p)
      (subst (λ v. CanWait (n.entry v p)) k.dest
      (order_at k.at k.letter k.there k.says (soon_put k.at k.letter k.there k.soon).1)) h
  no_order y x k (gets_bytes b l bytes at to says) =
      no_copy b l bytes at says (k.before b l bytes at to says)

  order_origin : (y x : ℕ) (k : IsPosted n (content.Inval p) y x) → k.letter.message.origin ≡ y
  order_origin y x k =
      let fit : IsExpectedAs c n k.letter (content.Inval p) =
      fits_as c n order k.at k.letter (content.Inval p) k.there k.says in
      sym fit.1 ∙ k.from

  pub recalled_less : (e y : ℕ) → AreRecalled n due p w (suc e) y → AreRecalled n due' p w e y
  recalled_less zero y recalled x call col = elim (recalled x call col) [
    | inl back ↦ (back, all_soon back.at back.letter back.there)
    | inr k ↦ elim (missed.has y x call col) [
      | inl copy ↦ absurd (no_order y x k copy)
      | inr back ↦ (back, all_soon back.at back.letter back.there)
    ]
  ]
  recalled_less (suc zero) y recalled x call col = recalled_from (awaited.collectors y x p call col)
    where
      recalled_from : IsRecallPending n y x p → IsRecalled n due' p w 1 y x
      recalled_from (gave_up k) = inl k
      recalled_from (ordered k) = inr (record {
        at = k.at;
        letter = k.letter;
        there = k.there;
        soon = all_soon k.at k.letter k.there;
        dest = k.dest;
        asker = order_origin y x k;
        says = k.says;
        before = λ b l bytes at to says. all_soon b l at;
      })
  recalled_less (suc (suc e)) y recalled x call col = tt

  -- a request that came is put off at a locked entry
  pub put_locked : (a : Place) (l : Letter) (y : ℕ) → IsAt n a l → l.dest ≡ y → AsksFor p l
      → IsArrived a → is_locked (n.entry y p) ≡ true
  put_locked a l y at to asks arrived = elim (cases_Bool (is_locked (n.entry y p))) [
    | inl shut ↦ shut
    | inr opened ↦ absurd (unlocked_loose n a l y p at to asks arrived opened none)
  ]

  module _ (a : Place) (l : Letter) (y : ℕ) (at : IsAt n a l) (to : l.dest ≡ y) (asks : AsksFor p l)
    where
      held_none : IsHeld n due p w a y 0 → ⊥
      held_none h = recalled_none y h.1 (put_locked a l y at to asks h.0) h.2

      held_less : (e : ℕ) → IsHeld n due p w a y (suc e) → IsHeld n due' p w a y e
      held_less zero h = (h.0, h.1, recalled_less 0 y h.2)
      held_less (suc zero) h = (
        (soon_put a l at h.0).1,
        elim h.1 [ inl own ↦ own | inr k ↦ absurd (no_page y k.0 k.1) ],
        recalled_less 1 y (λ x call col. tt),
      )
      held_less (suc (suc zero)) h = (
        all_soon a l at,
        elim h [
          | inl own ↦ inl own
          | inr k ↦ inr (k, all_soon k.at k.letter k.there)
        ],
      )
      held_less (suc (suc (suc e))) h = h

  served_none : (d : ℕ) (a : Place) (y s : ℕ) (l : Letter) → s ≡ 0 → IsAt n a l → l.dest ≡ y
      → AsksFor p l → IsServedBy n due p w d a y s → ⊥
  served_none zero a y s l is at to asks h = h
  served_none (suc d) a y s l is at to asks (holds zero h le) = held_none a l y at to asks h
  served_none (suc d) a y s l is at to asks (holds (suc e) h le) = omega (arith, is, le)
  served_none (suc d) a y s l is at to asks (behind b k j bt origin says ne rest le) =
      omega (arith, is, le)

  served_less : (d : ℕ) (a : Place) (y s r : ℕ) (l : Letter) → s ≡ suc r → IsAt n a l → l.dest ≡ y
      → AsksFor p l → IsServedBy n due p w d a y s → IsServedBy n due' p w d a y r
  served_less zero a y s r l is at to asks h = h
  served_less (suc d) a y s r l is at to asks (holds zero h le) =
      absurd (held_none a l y at to asks h)
  served_less (suc d) a y s r l is at to asks (holds (suc e) h le) =
      holds e (held_less a l y at to asks e h) (omega (arith, is, le))
  served_less (suc d) a y s r l is at to asks (behind b k zero bt origin says ne rest le) =
      absurd (served_none d b k.dest 0 k refl bt refl (inr says) rest)
  served_less (suc d) a y s r l is at to asks (behind b k (suc j) bt origin says ne rest le) =
      behind b k j bt origin says ne
      (served_less d b k.dest (suc j) j k refl bt refl (inr says) rest) (omega (arith, is, le))

  pub brought_none : (o s : ℕ) → s ≡ 0 → is_locked (n.entry o p) ≡ true
      → IsBroughtIn n due p w o s → ⊥
  brought_none o s is shut (copies a l bytes at to says less) = elim less [
    | inl soon ↦ no_copy a l bytes at says soon
    | inr le ↦ omega (arith, is, le)
  ]
  brought_none o s is shut (comes k less) = elim less [
    | inl h ↦ no_page o k h.0
    | inr le ↦ omega (arith, is, le)
  ]
  brought_none o s is shut (collects zero own recalled le) = recalled_none o own shut recalled
  brought_none o s is shut (collects (suc e) own recalled le) = omega (arith, is, le)

  pub brought_less : (o s r : ℕ) → s ≡ suc r → is_locked (n.entry o p) ≡ true
      → IsBroughtIn n due p w o s → IsBroughtIn n due' p w o r
  brought_less o s r is shut (copies a l bytes at to says less) =
      copies a l bytes at to says (inl (all_soon a l at))
  brought_less o s r is shut (comes k less) = elim less [
    | inl h ↦ absurd (no_page o k h.0)
    | inr le ↦ comes k (inl (all_soon k.at k.letter k.there, omega (arith, is, le)))
  ]
  brought_less o s r is shut (collects zero own recalled le) =
      absurd (recalled_none o own shut recalled)
  brought_less o s r is shut (collects (suc e) own recalled le) =
      collects e own (recalled_less e o recalled) (omega (arith, is, le))

  pub answered_none : (o s : ℕ) → s ≡ 0 → is_locked (n.entry o p) ≡ true
      → IsAnsweredIn n due p w o s → ⊥
  answered_none o s is shut (brought h) = brought_none o s is shut h
  answered_none o s is shut (reads a l k at origin says ne rest le) = omega (arith, is, le)
  answered_none o s is shut (writes a l k at origin says ne rest le) = omega (arith, is, le)

  pub answered_less : (o s r : ℕ) → s ≡ suc r → is_locked (n.entry o p) ≡ true
      → IsAnsweredIn n due p w o s → IsAnsweredIn n due' p w o r
  answered_less o s r is shut (brought h) = brought (brought_less o s r is shut h)
  answered_less o s r is shut (reads a l zero at origin says ne rest le) =
      absurd (served_none rest.0 a l.dest 0 l refl at refl (inl says) rest.1)
  answered_less o s r is shut (reads a l (suc k) at origin says ne rest le) =
      reads a l k at origin says ne
      (rest.0, served_less rest.0 a l.dest (suc k) k l refl at refl (inl says) rest.1)
      (omega (arith, is, le))
  answered_less o s r is shut (writes a l zero at origin says ne rest le) =
      absurd (served_none rest.0 a l.dest 0 l refl at refl (inr says) rest.1)
  answered_less o s r is shut (writes a l (suc k) at origin says ne rest le) =
      writes a l k at origin says ne
      (rest.0, served_less rest.0 a l.dest (suc k) k l refl at refl (inr says) rest.1)
      (omega (arith, is, le))

  pub reached_none : (nodes o s : ℕ) → s ≡ 0 → 2 ≤ nodes → is_locked (n.entry o p) ≡ true
      → IsReachedIn n due p w nodes o s → ⊥
  reached_none nodes o s is some shut (near h) = answered_none o s is shut h
  reached_none nodes o s is some shut (waits a l k at origin asks to arrived closed before le) =
      omega (arith, is, some, le)
  reached_none nodes o s is some shut (free a l at origin asks to arrived opened le) =
      omega (arith, is, some, le)
  reached_none nodes o s is some shut (nears a l at origin asks to less) = elim less [
    | inl h ↦ (let le = h.1 in omega (arith, is, some, le))
    | inr le ↦ omega (arith, is, some, le)
  ]

  pub reached_less : (nodes o s r : ℕ) → s ≡ suc r → 2 ≤ nodes → is_locked (n.entry o p) ≡ true
      → (is_locked (n.entry w p) ≡ true → IsAnsweredIn n due p w w (3 * nodes))
      → IsReachedIn n due p w nodes o s → IsReachedIn n due' p w nodes o r
  reached_less nodes o s r is some shut own (near h) = near (answered_less o s r is shut h)
  reached_less nodes o s r is some shut own
      (waits a l zero at origin asks to arrived closed before le) =
      absurd (answered_none w 0 refl closed before)
  reached_less nodes o s r is some shut own
      (waits a l (suc k) at origin asks to arrived closed before le) =
      waits a l k at origin asks to arrived closed
      (answered_less w (suc k) k refl closed before) (omega (arith, is, le))
  reached_less nodes o s r is some shut own (free a l at origin asks to arrived opened le) =
      absurd (unlocked_loose n a l w p at to asks arrived opened none)
  reached_less nodes o s r is some shut own (nears a l at origin asks to less) = elim less [
    | inr le ↦ nears a l at origin asks to (inl (all_soon a l at, omega (arith, is, le)))
    | inl h ↦ (
        let arrived = (soon_put a l at h.0).1 in
        let closed = put_locked a l w at to asks arrived in
        let le = h.1 in
        waits a l (3 * nodes - 1) at origin asks to arrived closed
        (answered_less w (3 * nodes) (3 * nodes - 1) (omega (arith, some)) closed (own closed))
        (omega (arith, is, le, some))
        )
  ]
