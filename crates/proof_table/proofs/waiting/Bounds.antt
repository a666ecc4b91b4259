-- Each word that waits is answered in some number of rounds. The nodes that are to have the page
-- before another one had earlier turns, so there are no more of them than nodes.
use Rattle.std.proofs.Common.{◌≡◌, ◌≢◌, ◌⊎◌, ◌<◌, ◌≤◌, ◌+◌, ◌*◌, ◌%◌, ◌==◌, if◌then◌else◌, ℕ, zero, suc, Bool, true, false, nat_lt, refl, sym, ap, ◌∙◌, subst, inl, inr, arith, mod-lt}
use Rattle.std.proofs.lemmas.Bool.{cases_eq, cases_lt, both_ways, eq-eqb, ne_eqb, lt-ltb, le-ltb, ltb-true}
use Rattle.ivy_model.specs.declared.Config.{Config}
use Rattle.ivy_model.specs.stated.Config.{IsConfig}
use Rattle.ivy_wire.specs.declared.Content.TheVariants as content
use Rattle.ivy_pagetable.specs.declared.Entry.{Entry}
use Rattle.ivy_pagetable.specs.declared.Entry.TheVariants as entry
use Rattle.ivy_pagetable.specs.stated.Entries.{is_locked, is_owner}
use Rattle.ivy_fixed.specs.stated.Fixed.{Owners, hop_of}
use Rattle.proof_table.specs.stated.Letters.{Letter, Net, Place, IsAt}
use Rattle.proof_table.specs.stated.Orderly.{AwaitsCopy, AwaitsPage, IsOrderly}
use Rattle.proof_table.specs.stated.Descending.{IsAsked}
use Rattle.proof_table.specs.routing.Claiming.{claims, IsReader, asking}
use Rattle.proof_table.specs.routing.Managing.{IsRoutedByManaging, WriteTurns, HasTurns, IsManaged}
use Rattle.proof_table.specs.stated.Sending.{HasPage}
use Rattle.proof_table.specs.stated.Sending.{owns as owns_page, comes as page_comes}
use Rattle.proof_table.specs.stated.Waiting.{IsReadPending, asks_copy, gets_copy, IsWritePending, asks_page, gets_page, IsAwaited}
use Rattle.proof_table.specs.waiting.Readers.{IsFair}
use Rattle.proof_table.proofs.waiting.Readers.{asked_at}
use Rattle.proof_table.proofs.waiting.Onward.{AsksFor, IsBounded}
use Rattle.proof_table.proofs.waiting.Ranks.{IsSoon, IsServedBy, IsServedIn, holds, behind, copies, comes, collects, IsAnsweredIn, brought, reads, writes, IsReachedIn, near, nears}

-- how many of the first numbers pass
abbrev bit : Bool → ℕ
bit true = 1
bit false = 0

abbrev tally : ℕ → (ℕ → Bool) → ℕ
tally zero f = 0
tally (suc k) f = bit (f k) + tally k f

one_more : (a b : Bool) (x y : ℕ) → (a ≡ true → b ≡ true) → x ≤ y
    → bit a + x ≤ bit b + y
one_more true true x y h le = omega (arith, le)
one_more true false x y h le = absurd (let f : false ≡ true = h refl in cc)
one_more false true x y h le = omega (arith, le)
one_more false false x y h le = omega (arith, le)

tally_more : (k : ℕ) (f g : ℕ → Bool) → ((z : ℕ) → f z ≡ true → g z ≡ true)
    → tally k f ≤ tally k g
tally_more zero f g h = omega arith
tally_more (suc k) f g h = one_more (f k) (g k) _ _ (h k) (tally_more k f g h)

tally_less : (k : ℕ) (f g : ℕ → Bool) → ((z : ℕ) → f z ≡ true → g z ≡ true) → (j : ℕ) → j < k
    → f j ≡ false → g j ≡ true → tally k f + 1 ≤ tally k g
tally_less zero f g h j low fails does = absurd (omega (arith, low))
tally_less (suc k) f g h j low fails does = elim (cases_eq j k) [
  | inl same ↦ (
      let a : bit (f k) ≡ 0 =
      ap bit (ap f (sym same) ∙ fails) in
      let b : bit (g k) ≡ 1 =
      ap bit (ap g (sym same) ∙ does) in
      let le = tally_more k f g h in
      omega (arith, a, b, le)
      )
  | inr ne ↦ (
      let rest = tally_less k f g h j (omega (arith, low, ne)) fails does in
      let le = one_more (f k) (g k) (tally k f + 1) (tally k g) (h k) rest in
      omega (arith, le)
      )
]

tally_most : (k : ℕ) (f : ℕ → Bool) → tally k f ≤ k
tally_most zero f = omega arith
tally_most (suc k) f =
    let le = one_more (f k) true (tally k f) k (λ h. refl) (tally_most k f) in omega (arith, le)

tally_one : (k : ℕ) (f : ℕ → Bool) (j : ℕ) → j < k → f j ≡ false → tally k f + 1 ≤ k
tally_one zero f j low fails = absurd (omega (arith, low))
tally_one (suc k) f j low fails = elim (cases_eq j k) [
  | inl same ↦ (
      let a : bit (f k) ≡ 0 =
      ap bit (ap f (sym same) ∙ fails) in
      let le = tally_most k f in
      omega (arith, a, le)
      )
  | inr ne ↦ (
      let rest = tally_one k f j (omega (arith, low, ne)) fails in
      let le = one_more (f k) true (tally k f + 1) k (λ h. refl) rest in
      omega (arith, le)
      )
]

tally_two : (k : ℕ) (f : ℕ → Bool) (i j : ℕ) → i ≢ j → i < k → j < k → f i ≡ false → f j ≡ false
    → tally k f + 2 ≤ k
tally_two zero f i j apart li lj fails misses = absurd (omega (arith, li))
tally_two (suc k) f i j apart li lj fails misses = elim (cases_eq i k) [
  | inl same ↦ (
      let a : bit (f k) ≡ 0 =
      ap bit (ap f (sym same) ∙ fails) in
      let le = tally_one k f j (omega (arith, lj, same, apart)) misses in
      omega (arith, a, le)
      )
  | inr ne ↦ elim (cases_eq j k) [
    | inl same ↦ (
        let a : bit (f k) ≡ 0 =
        ap bit (ap f (sym same) ∙ misses) in
        let le = tally_one k f i (omega (arith, li, ne)) fails in
        omega (arith, a, le)
        )
    | inr other ↦ (
        let rest =
        tally_two k f i j apart (omega (arith, li, ne)) (omega (arith, lj, other)) fails misses in
        let le = one_more (f k) true (tally k f + 2) k (λ h. refl) rest in
        omega (arith, le)
        )
  ]
]

module _ (c : Config) (config : IsConfig c) (m : ℕ → Owners) (n : Net) (order : IsOrderly c n)
    (managed : IsManaged c m n) (awaited : IsAwaited n) (fair : IsFair c n) (bounded : IsBounded c n)
    (due : ℕ → ℕ → ℕ) (p : ℕ) (inside : p < c.pages) where
  abbrev w : ℕ
  w = p % c.nodes

  routed : IsRoutedByManaging (λ y. claims (n.entry y p)) (IsAsked n (content.WriteReq p))
      (IsReader n p) w (hop_of (m w) p)
  routed = managed.routed p inside

  abbrev t : WriteTurns
  t = (managed.turns p inside).0

  turns : HasTurns (λ y. claims (n.entry y p)) (IsAsked n (content.WriteReq p)) (IsReader n p) w
      (hop_of (m w) p) t
  turns = (managed.turns p inside).1

  some_nodes : 2 ≤ c.nodes
  some_nodes = config.nodes_from

  manager_below : w < c.nodes
  manager_below = mod-lt p (let some = some_nodes in omega (arith, some))

  -- the nodes with an earlier turn than this one, but for the managing one
  abbrev earlier : ℕ → ℕ → Bool
  earlier y z = if z == w then false else nat_lt (t.turn z) (t.turn y)

  abbrev ahead : ℕ → ℕ
  ahead y = tally c.nodes (earlier y)

  earlier_manager : (y z : ℕ) → z ≡ w → earlier y z ≡ false
  earlier_manager y z same =
      ap (λ (b : Bool). if b then false else nat_lt (t.turn z) (t.turn y)) (eq-eqb z w same)

  earlier_not : (y z : ℕ) → t.turn y ≤ t.turn z → earlier y z ≡ false
  earlier_not y z le = elim (cases_eq z w) [
    | inl same ↦ earlier_manager y z same
    | inr ne ↦
        ap (λ (b : Bool). if b then false else nat_lt (t.turn z) (t.turn y)) (ne_eqb z w ne)
        ∙ le-ltb (t.turn z) (t.turn y) le
  ]

  earlier_is : (y z : ℕ) → z ≢ w → t.turn z < t.turn y → earlier y z ≡ true
  earlier_is y z ne less =
      ap (λ (b : Bool). if b then false else nat_lt (t.turn z) (t.turn y)) (ne_eqb z w ne)
      ∙ lt-ltb (t.turn z) (t.turn y) less

  earlier_gives : (y z : ℕ) → earlier y z ≡ true → (z ≢ w) × (t.turn z < t.turn y)
  earlier_gives y z h = elim (cases_eq z w) [
    | inl same ↦ absurd (both_ways (earlier y z) (earlier_manager y z same) h)
    | inr ne ↦ (
      ne,
      ltb-true (t.turn z) (t.turn y)
          (sym (ap (λ (b : Bool). if b then false else nat_lt (t.turn z) (t.turn y))
          (ne_eqb z w ne)) ∙ h),
    )
  ]

  -- who is ahead of one that is ahead is ahead, and it is not ahead of itself
  ahead_less : (y z : ℕ) → z ≢ w → z < c.nodes → t.turn z < t.turn y → ahead z + 1 ≤ ahead y
  ahead_less y z ne low less =
      tally_less c.nodes (earlier z) (earlier y)
      (λ v h. (let g = earlier_gives z v h in
      let lower = g.1 in
      earlier_is y v g.0 (omega (arith, lower, less))))
      z low (earlier_not z z (omega arith)) (earlier_is y z ne less)

  ahead_few : (y : ℕ) → y ≢ w → y < c.nodes → ahead y + 2 ≤ c.nodes
  ahead_few y ne low =
      tally_two c.nodes (earlier y) y w ne low manager_below
      (earlier_not y y (omega arith)) (earlier_manager y w refl)

  claimer_below : (y : ℕ) → claims (n.entry y p) ≡ true → y < c.nodes
  claimer_below y claim = elim (cases_lt y c.nodes) [
    | inl low ↦ low
    | inr past ↦ absurd (both_ways (claims (n.entry y p)) (bounded y p past) claim)
  ]

  -- a request is served in so many rounds, three for each node before
  abbrev Served : Place → ℕ → Type 0
  Served a y =
      (k : ℕ) × IsServedIn n due p w a y k × (k ≤ 3 * ahead y + 3) × (k + 3 ≤ 3 * c.nodes)

  by_owner : (a : Place) (y : ℕ) → is_owner (n.entry y p) ≡ true → Served a y
  by_owner a y own =
      (let some = some_nodes in
      (3, (1, holds 3 (inl own) (omega arith)), omega arith, omega (arith, some)))

  by_page : (a : Place) (y : ℕ) → HasPage n y p → Served a y
  by_page a y (owns_page h) = by_owner a y h
  by_page a y (page_comes at l bits bytes there to is) =
      (let some = some_nodes in (
        3,
        (
          1,
          holds 3
              (inr (record {
                at = at;
                letter = l;
                bits = bits;
                bytes = bytes;
                there = there;
                dest = to;
                brings = is;
              })) (omega arith),
        ),
        omega arith,
        omega (arith, some),
      ))

  claimed_by : (a : Place) (l : Letter) (y : ℕ) → IsAt n a l → l.dest ≡ y → AsksFor p l → y ≢ w
      → claims (n.entry y p) ≡ true
  claimed_by a l y at to (inl says) ne =
      (fair p).reader_claimed l.message.origin y ne
      (subst (IsAsked n (content.ReadReq p) l.message.origin) to
      (asked_at n a l (content.ReadReq p) at says))
  claimed_by a l y at to (inr says) ne =
      routed.claimed l.message.origin y ne
      (subst (IsAsked n (content.WriteReq p) l.message.origin) to
      (asked_at n a l (content.WriteReq p) at says))

  -- who is asked is not queued
  unqueued : (a : Place) (l : Letter) (y : ℕ) → IsAt n a l → l.dest ≡ y → AsksFor p l → y ≢ w
      → IsAsked n (content.WriteReq p) y w → ⊥
  unqueued a l y at to (inl says) ne k =
      (fair p).queued_unread y l.message.origin ne k
      (subst (IsAsked n (content.ReadReq p) l.message.origin) to
      (asked_at n a l (content.ReadReq p) at says))
  unqueued a l y at to (inr says) ne k =
      routed.queued_unasked y l.message.origin k
      (subst (IsAsked n (content.WriteReq p) l.message.origin) to
      (asked_at n a l (content.WriteReq p) at says))

  -- those with fewer nodes ahead
  abbrev Earlier : ℕ → Type 0
  Earlier fuel = (z : ℕ) → ahead z < fuel → z ≢ w → (b : Place) (k : Letter) → IsAt n b k
      → k.dest ≡ z → AsksFor p k → Served b z

  served_from : (fuel y : ℕ) → ahead y < fuel → y ≢ w → (a : Place) (l : Letter) → IsAt n a l
      → l.dest ≡ y → AsksFor p l → Served a y
  served_from zero y few ne a l at to asks = absurd (omega (arith, few))
  served_from (suc fuel) y few ne a l at to asks =
      by_entry
      (λ z less away b k bt there says. served_from fuel z less away b k bt there says)
      (n.entry y p) refl
    where
      claim : claims (n.entry y p) ≡ true
      claim = claimed_by a l y at to asks ne

      by_writer : Earlier fuel → IsWritePending n y p → Served a y
      by_writer before (gets_page k) = by_page a y k
      by_writer before (asks_page z k) =
          let away : z ≢ w = λ same. unqueued a l y at to asks ne
          (subst (IsAsked n (content.WriteReq p) y) same k) in
          let less = turns.writer_later y z away ne k in
          let low = claimer_below z (routed.claimed y z away k) in
          let fewer = ahead_less y z away low less in
          let next : Served k.at z =
          before z (omega (arith, few, fewer)) away k.at k.letter k.there k.dest
          (inr k.asks) in
          let most = next.2 in
          let bound = ahead_few y ne (claimer_below y claim) in (
            next.0 + 3,
            (
              suc next.1.0,
              behind k.at k.letter next.0 k.there k.asker k.asks
                  (λ same. away (sym k.dest ∙ same))
                  (subst (λ v. IsServedBy n due p w next.1.0 k.at v next.0) (sym k.dest) next.1.1)
                  (omega arith),
            ),
            omega (arith, most, fewer),
            omega (arith, most, fewer, bound),
          )

      by_entry : Earlier fuel → (e : Entry) → n.entry y p ≡ e → Served a y
      by_entry before (entry.Idle s) is = by_owner a y (ap is_owner is ∙ sym (ap claims is) ∙ claim)
      by_entry before (entry.AwaitRead s) is =
          absurd (both_ways (claims (n.entry y p)) (ap claims is) claim)
      by_entry before (entry.AwaitAcks s) is = by_owner a y (ap is_owner is)
      by_entry before (entry.AwaitWrite s) is =
          by_writer before (awaited.writers y p s.waiting.call
          (subst (λ v. AwaitsPage v s.waiting.call) (sym is) refl))

  pub served_soon : (a : Place) (l : Letter) → IsAt n a l → AsksFor p l → l.dest ≢ w
      → (k : ℕ) × IsServedIn n due p w a l.dest k × (k + 3 ≤ 3 * c.nodes)
  served_soon a l at asks ne =
      let s = served_from (suc (ahead l.dest)) l.dest (omega arith) ne a l at refl asks in
      (s.0, s.1, s.3)

  reads_near : (o at : ℕ) → at ≢ w → IsAsked n (content.ReadReq p) o at
      → IsAnsweredIn n due p w o (3 * c.nodes)
  reads_near o at ne k =
      let away : k.letter.dest ≢ w = λ same. ne (sym k.dest ∙ same) in
      let s = served_soon k.at k.letter k.there (inl k.asks) away in
      let le = s.2 in
      reads k.at k.letter s.0 k.there k.asker k.asks away s.1 (omega (arith, le))

  writes_near : (o at : ℕ) → at ≢ w → IsAsked n (content.WriteReq p) o at
      → IsAnsweredIn n due p w o (3 * c.nodes)
  writes_near o at ne k =
      let away : k.letter.dest ≢ w = λ same. ne (sym k.dest ∙ same) in
      let s = served_soon k.at k.letter k.there (inr k.asks) away in
      let le = s.2 in
      writes k.at k.letter s.0 k.there k.asker k.asks away s.1 (omega (arith, le))

  -- who waits: its request is at the managing node, or it is answered in so many rounds
  module _ (o : ℕ) where
    abbrev IsEither : Type 0
    IsEither = IsAnsweredIn n due p w o (3 * c.nodes)
        ⊎ ((a : Place) × (l : Letter) × IsAt n a l × (l.message.origin ≡ o) × AsksFor p l
        × (l.dest ≡ w))

    by_reader : IsReadPending n o p → IsEither
    by_reader (gets_copy source k) =
        inl (brought (copies k.at k.letter k.bytes k.there k.dest k.brings
        (inr (let some = some_nodes in omega (arith, some)))))
    by_reader (asks_copy at k) = elim (cases_eq at w) [
      | inr ne ↦ inl (reads_near o at ne k)
      | inl same ↦ inr (k.at, k.letter, k.there, k.asker, inl k.asks, k.dest ∙ same)
    ]

    by_waiter : is_owner (n.entry o p) ≡ false → IsWritePending n o p → IsEither
    by_waiter plain (gets_page (owns_page h)) = absurd (both_ways (is_owner (n.entry o p)) plain h)
    by_waiter plain (gets_page (page_comes at l bits bytes there to is)) =
        inl (brought (comes (record {
          at = at;
          letter = l;
          bits = bits;
          bytes = bytes;
          there = there;
          dest = to;
          brings = is;
        }) (inr (let some = some_nodes in omega (arith, some)))))
    by_waiter plain (asks_page at k) = elim (cases_eq at w) [
      | inr ne ↦ inl (writes_near o at ne k)
      | inl same ↦ inr (k.at, k.letter, k.there, k.asker, inr k.asks, k.dest ∙ same)
    ]

    either_by : (e : Entry) → n.entry o p ≡ e → is_locked e ≡ true → IsEither
    either_by (entry.Idle s) is shut = absurd (let f : false ≡ true = shut in cc)
    either_by (entry.AwaitRead s) is shut =
        by_reader (awaited.readers o p s.call (subst (λ v. AwaitsCopy v s.call) (sym is) refl))
    either_by (entry.AwaitWrite s) is shut =
        by_waiter (ap is_owner is)
        (awaited.writers o p s.waiting.call
        (subst (λ v. AwaitsPage v s.waiting.call) (sym is) refl))
    either_by (entry.AwaitAcks s) is shut =
        inl (brought (collects 2 (ap is_owner is) (λ target call missed. tt)
        (let some = some_nodes in omega (arith, some))))

    -- where all that is under way comes soon
    pub first_reached : ((a : Place) (l : Letter) → IsAt n a l → IsSoon due a)
        → is_locked (n.entry o p) ≡ true → IsReachedIn n due p w c.nodes o (6 * c.nodes)
    first_reached soon shut = elim (either_by (n.entry o p) refl shut) [
      | inl h ↦ near (more (3 * c.nodes) (omega arith) h)
      | inr h ↦
          nears h.0 h.1 h.2 h.3 h.4 h.5 (inl (soon h.0 h.1 h.2, omega arith))
    ]
      where
        more : (r : ℕ) → r ≤ 6 * c.nodes → IsAnsweredIn n due p w o r
            → IsAnsweredIn n due p w o (6 * c.nodes)
        more r le (brought (copies a l bytes at to says less)) =
            brought (copies a l bytes at to says
            (inr (let some = some_nodes in omega (arith, some))))
        more r le (brought (comes k less)) =
            brought (comes k (inr (let some = some_nodes in omega (arith, some))))
        more r le (brought (collects e own recalled few)) =
            brought (collects e own recalled (omega (arith, le, few)))
        more r le (reads a l k at origin says ne rest few) =
            reads a l k at origin says ne rest (omega (arith, le, few))
        more r le (writes a l k at origin says ne rest few) =
            writes a l k at origin says ne rest (omega (arith, le, few))

  -- the managing node's own word
  pub manager_answered : is_locked (n.entry w p) ≡ true → IsAnsweredIn n due p w w (3 * c.nodes)
  manager_answered shut = elim (either_by w (n.entry w p) refl shut) [
    | inl h ↦ h
    | inr h ↦ absurd (away h.0 h.1 h.2 h.3 h.4 h.5)
  ]
    where
      away : (a : Place) (l : Letter) → IsAt n a l → l.message.origin ≡ w → AsksFor p l → l.dest ≡ w
          → ⊥
      away a l at origin (inl says) to =
          routed.reader_away w w
          (asking (subst (λ v. IsAsked n (content.ReadReq p) v w) origin
          (subst (IsAsked n (content.ReadReq p) l.message.origin) to
          (asked_at n a l (content.ReadReq p) at says)))) refl
      away a l at origin (inr says) to =
          routed.writer_away w w
          (subst (λ v. IsAsked n (content.WriteReq p) v w) origin
          (subst (IsAsked n (content.WriteReq p) l.message.origin) to
          (asked_at n a l (content.WriteReq p) at says))) refl
