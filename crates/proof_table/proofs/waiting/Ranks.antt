-- In how many rounds a word that waits is answered, at most, and that no step makes them more. In
-- a round some messages of each pair are to be delivered: they come soon.
use Rattle.std.proofs.Common.{◌≡◌, ◌≢◌, ◌⊎◌, ◌<◌, ◌≤◌, ◌+◌, ◌*◌, ◌%◌, ℕ, zero, suc, true, false, List, [], slice_get, refl, sym, ap, ◌∙◌, subst, inl, inr, arith}
use Rattle.std.proofs.lemmas.Bool.{cases_Bool, cases_eq, both_ways}
use Rattle.std.proofs.lemmas.Option.{none-some}
use Rattle.ivy_model.specs.declared.Config.{Config}
use Rattle.ivy_wire.specs.declared.Content.TheVariants as content
use Rattle.ivy_wire.specs.stated.Data.{Message}
use Rattle.ivy_pagetable.specs.declared.Entry.{Entry}
use Rattle.ivy_pagetable.specs.declared.Entry.TheVariants as entry
use Rattle.ivy_pagetable.specs.stated.Entries.{put_offs, is_locked, is_owner}
use Rattle.ivy_fixed.specs.stated.Fixed.{Owners}
use Rattle.proof_table.specs.stated.Letters.{Letter, Net, Place, Underway, Aside, Loose, IsAt}
use Rattle.proof_table.specs.stated.Orderly.{Collects, IsOrderly}
use Rattle.proof_table.proofs.transitions.Needs.{page_of, put_about}
use Rattle.proof_table.proofs.transitions.Sole.{no_other_owner}
use Rattle.proof_table.specs.routing.Claiming.{claims}
use Rattle.proof_table.specs.routing.Managing.{IsManaged}
use Rattle.proof_table.specs.stated.Sending.{IsPosted, IsSent}
use Rattle.proof_table.specs.waiting.Readers.{IsFair}
use Rattle.proof_table.proofs.waiting.Readers.{asked_at}
use Rattle.proof_table.proofs.waiting.Onward.{IsArrived, IsLater, IsComing, IsStill, IsAnswered, AsksFor, IsElsewhere, IsOnward}

-- a letter that has come in, or is to be delivered in this round
abbrev pub IsSoon : (ℕ → ℕ → ℕ) → Place → Type 0
IsSoon due (Underway i j k) = k < due i j
IsSoon due (Aside i p k) = Unit {0}
IsSoon due (Loose k) = Unit {0}

pub arrived_soon : (due : ℕ → ℕ → ℕ) (a : Place) → IsArrived a → IsSoon due a
arrived_soon due (Underway i j k) h = absurd h
arrived_soon due (Aside i p k) h = tt
arrived_soon due (Loose k) h = tt

soon_later : (due : ℕ → ℕ → ℕ) (a b : Place) → IsSoon due a → IsLater a b → IsSoon due b
soon_later due a b soon (inl same) = subst (IsSoon due) (sym same) soon
soon_later due a b soon (inr arrived) = arrived_soon due b arrived

arrived_later : (a b : Place) → IsArrived a → IsLater a b → IsArrived b
arrived_later a b h (inl same) = subst IsArrived (sym same) h
arrived_later a b h (inr arrived) = arrived

-- Of one page, which the node `w` manages; `due` says which letters come soon.
module _ (n : Net) (due : ℕ → ℕ → ℕ) (p w : ℕ) where
  -- the order of an owner to a node comes soon, and so does each copy that the node gets before
  pub record IsOrdered (owner target : ℕ) : Type 0 where
    pub at : Place
    pub letter : Letter
    pub there : IsAt n at letter
    pub soon : IsSoon due at
    pub dest : letter.dest ≡ target
    pub asker : letter.message.origin ≡ owner
    pub says : letter.message.content ≡ content.Inval p
    pub before : (b : Place) (l : Letter) (bytes : List ℕ) → IsAt n b l → l.dest ≡ target
        → l.message.content ≡ content.ReadRep p bytes → IsSoon due b

  -- The node's acknowledgement comes soon; it is on its way, or the order comes soon; or not even
  -- that.
  abbrev pub IsRecalled : ℕ → ℕ → ℕ → Type 0
  IsRecalled zero owner target =
      (back : IsPosted n (content.InvalAck p) target owner) × IsSoon due back.at
  IsRecalled (suc zero) owner target =
      IsPosted n (content.InvalAck p) target owner ⊎ IsOrdered owner target
  IsRecalled (suc (suc e)) owner target = Unit {0}

  abbrev pub AreRecalled : ℕ → ℕ → Type 0
  AreRecalled e owner =
      (target call : ℕ) → Collects (n.entry owner p) call target → IsRecalled e owner target

  -- A node has the page, or is to have it, while a request is at this place. It collects
  -- acknowledgements, all of which come soon; or all orders do, or are answered; or the request
  -- comes soon, and so does the page.
  abbrev pub IsHeld : Place → ℕ → ℕ → Type 0
  IsHeld a y zero = IsArrived a × (is_owner (n.entry y p) ≡ true) × AreRecalled 0 y
  IsHeld a y (suc zero) = IsArrived a × (is_owner (n.entry y p) ≡ true) × AreRecalled 1 y
  IsHeld a y (suc (suc zero)) =
      IsSoon due a
      × ((is_owner (n.entry y p) ≡ true) ⊎ ((k : IsComing n p y) × IsSoon due k.at))
  IsHeld a y (suc (suc (suc e))) = (is_owner (n.entry y p) ≡ true) ⊎ IsComing n p y

  -- The request at this place, at this node, is served in so many rounds: the node has the page, or
  -- gets it where its own request is served before.
  pub data IsServedWith (Before : Place → ℕ → ℕ → Type 0) (a : Place) (y r : ℕ) : Type 0 where
    holds : (e : ℕ) → IsHeld a y e → e ≤ r → IsServedWith Before a y r
    behind : (b : Place) (l : Letter) (k : ℕ) → IsAt n b l → l.message.origin ≡ y
        → l.message.content ≡ content.WriteReq p → l.dest ≢ w → Before b l.dest k → k + 3 ≤ r
        → IsServedWith Before a y r

  -- so many nodes get it before
  abbrev pub IsServedBy : ℕ → Place → ℕ → ℕ → Type 0
  IsServedBy zero a y r = ⊥
  IsServedBy (suc d) a y r = IsServedWith (IsServedBy d) a y r

  abbrev pub IsServedIn : Place → ℕ → ℕ → Type 0
  IsServedIn a y r = (d : ℕ) × IsServedBy d a y r

  -- What a word of this node waits for is brought in so many rounds: its copy is on its way, or the
  -- page, or it collects acknowledgements.
  pub data IsBroughtIn (o r : ℕ) : Type 0 where
    copies : (a : Place) (l : Letter) (bytes : List ℕ) → IsAt n a l → l.dest ≡ o
        → l.message.content ≡ content.ReadRep p bytes → (IsSoon due a ⊎ (1 ≤ r))
        → IsBroughtIn o r
    comes : (k : IsComing n p o) → ((IsSoon due k.at × (2 ≤ r)) ⊎ (3 ≤ r)) → IsBroughtIn o r
    collects : (e : ℕ) → is_owner (n.entry o p) ≡ true → AreRecalled e o → e ≤ r
        → IsBroughtIn o r

  -- A word of this node that waits is answered in so many rounds: what it waits for is brought, or
  -- its request is at another node than the managing one.
  pub data IsAnsweredIn (o r : ℕ) : Type 0 where
    brought : IsBroughtIn o r → IsAnsweredIn o r
    reads : (a : Place) (l : Letter) (k : ℕ) → IsAt n a l → l.message.origin ≡ o
        → l.message.content ≡ content.ReadReq p → l.dest ≢ w → IsServedIn a l.dest k → k + 1 ≤ r
        → IsAnsweredIn o r
    writes : (a : Place) (l : Letter) (k : ℕ) → IsAt n a l → l.message.origin ≡ o
        → l.message.content ≡ content.WriteReq p → l.dest ≢ w → IsServedIn a l.dest k → k + 3 ≤ r
        → IsAnsweredIn o r

  -- The same of any node, under so many nodes: its request may be at the managing node, where it
  -- comes soon or not, is put off while a word waits there, or is to be served next.
  pub data IsReachedIn (nodes o r : ℕ) : Type 0 where
    near : IsAnsweredIn o r → IsReachedIn nodes o r
    waits : (a : Place) (l : Letter) (k : ℕ) → IsAt n a l → l.message.origin ≡ o
        → AsksFor p l → l.dest ≡ w → IsArrived a → is_locked (n.entry w p) ≡ true
        → IsAnsweredIn w k → k + 3 * nodes ≤ r → IsReachedIn nodes o r
    free : (a : Place) (l : Letter) → IsAt n a l → l.message.origin ≡ o → AsksFor p l
        → l.dest ≡ w → IsArrived a → is_locked (n.entry w p) ≡ false → 3 * nodes ≤ r
        → IsReachedIn nodes o r
    nears : (a : Place) (l : Letter) → IsAt n a l → l.message.origin ≡ o → AsksFor p l
        → l.dest ≡ w → ((IsSoon due a × (6 * nodes ≤ r)) ⊎ (6 * nodes + 1 ≤ r))
        → IsReachedIn nodes o r

-- an entry that collects is locked; nothing is put off at one that is not
pub collects_locked : (e : Entry) (call target : ℕ) → Collects e call target → is_locked e ≡ true
collects_locked (entry.Idle s) call target h = absurd h
collects_locked (entry.AwaitRead s) call target h = absurd h
collects_locked (entry.AwaitWrite s) call target h = absurd h
collects_locked (entry.AwaitAcks s) call target h = refl

pub unlocked_none : (e : Entry) → is_locked e ≡ false → put_offs e ≡ []
unlocked_none (entry.Idle s) h = refl
unlocked_none (entry.AwaitRead s) h = absurd (let f : true ≡ false = h in cc)
unlocked_none (entry.AwaitWrite s) h = absurd (let f : true ≡ false = h in cc)
unlocked_none (entry.AwaitAcks s) h = absurd (let f : true ≡ false = h in cc)

pub asks_page : (p : ℕ) (l : Letter) → AsksFor p l → page_of l.message.content ≡ p
asks_page p l (inl h) = ap page_of h
asks_page p l (inr h) = ap page_of h

-- a request that has come in, at an entry that is not locked, is loose
pub unlocked_loose : (n : Net) (a : Place) (l : Letter) (y p : ℕ) → IsAt n a l → l.dest ≡ y
    → AsksFor p l → IsArrived a → is_locked (n.entry y p) ≡ false → n.loose ≡ [] → ⊥
unlocked_loose n (Underway i j k) l y p at to asks arrived unlocked none = arrived
unlocked_loose n (Loose k) l y p at to asks arrived unlocked none =
    none-some l (ap (λ v. slice_get v k) (sym none) ∙ at)
unlocked_loose n (Aside i q k) l y p at to asks arrived unlocked none =
    let node : i ≡ y = ap (λ (v : Letter). v.dest) (sym at.2) ∙ to in
    let page : q ≡ p =
    sym (put_about at.0.kind q) ∙ ap (λ (v : Letter). page_of v.message.content) (sym at.2)
    ∙ asks_page p l asks in
    none-some at.0
    (ap (λ v. slice_get v k)
    (sym (unlocked_none (n.entry y p) unlocked) ∙ ap (λ v. put_offs (n.entry v p)) (sym node)
    ∙ ap (λ v. put_offs (n.entry i v)) (sym page)) ∙ at.1)

still_asks : (n' : Net) (a : Place) (l : Letter) (p : ℕ) (k : IsStill n' a l) → AsksFor p l
    → AsksFor p k.letter
still_asks n' a l p k (inl h) = inl (ap (λ (v : Message). v.content) k.says ∙ h)
still_asks n' a l p k (inr h) = inr (ap (λ (v : Message). v.content) k.says ∙ h)

-- what the messages that are waited for do in a step, under any manager
module _ (c : Config) {alone : ℕ → ℕ → Type 0} (n n' : Net) (on : IsOnward c alone n n')
    (order : IsOrderly c n) (due : ℕ → ℕ → ℕ) (p w : ℕ) where
  -- an acknowledgement stays, or its sender is missed no more
  pub back_on : (y x : ℕ) (k : IsPosted n (content.InvalAck p) x y) (call : ℕ)
      → Collects (n'.entry y p) call x
      → (back : IsPosted n' (content.InvalAck p) x y) × IsLater k.at back.at
  back_on y x k call missed = elim (on.stays k.at k.letter k.there) [
    | inl h ↦ (
      record {
        at = h.at;
        letter = h.letter;
        there = h.there;
        from = h.source p k.says ∙ k.from;
        dest = h.dest ∙ k.dest;
        says = ap (λ (v : Message). v.content) h.says ∙ k.says;
      },
      h.later,
    )
    | inr h ↦ absurd (
        let gone : (call : ℕ) → Collects (n'.entry k.letter.dest p) call k.letter.source → ⊥ =
        subst (IsAnswered n n' k.letter) k.says h in
        gone call
        (subst (λ v. Collects (n'.entry v p) call k.letter.source) (sym k.dest)
        (subst (Collects (n'.entry y p) call) (sym k.from) missed))
        )
  ]

  -- no new copy is on its way while an owner collects
  copies_soon : (y x call : ℕ) → is_owner (n.entry y p) ≡ true → Collects (n.entry y p) call x
      → ((b : Place) (l : Letter) (bytes : List ℕ) → IsAt n b l → l.dest ≡ x
      → l.message.content ≡ content.ReadRep p bytes → IsSoon due b)
      → (b : Place) (l : Letter) (bytes : List ℕ) → IsAt n' b l → l.dest ≡ x
      → l.message.content ≡ content.ReadRep p bytes → IsSoon due b
  copies_soon y x call own missed before b l bytes at to says =
      elim (on.copies b l p bytes at says) [
        | inl h ↦ soon_later due h.0 b (before h.0 l bytes h.1 to says) h.2
        | inr h ↦ elim (cases_eq l.source y) [
          | inr ne ↦ absurd (no_other_owner c n order y p own l.source ne h.0)
          | inl same ↦
              absurd (both_ways (is_locked (n.entry y p))
              (subst (λ v. is_locked (n.entry v p) ≡ false) same h.1)
              (collects_locked (n.entry y p) call x missed))
        ]
      ]

  pub recall_on : (e y x call : ℕ) → is_owner (n.entry y p) ≡ true → Collects (n.entry y p) call x
      → Collects (n'.entry y p) call x → IsRecalled n due p w e y x → IsRecalled n' due p w e y x
  recall_on zero y x call own was missed back =
      let k = back_on y x back.0 call missed in
      (k.0, soon_later due back.0.at k.0.at back.1 k.1)
  recall_on (suc zero) y x call own was missed (inl back) = inl (back_on y x back call missed).0
  recall_on (suc zero) y x call own was missed (inr out) =
      elim (on.stays out.at out.letter out.there) [
        | inl h ↦ inr (record {
          at = h.at;
          letter = h.letter;
          there = h.there;
          soon = soon_later due out.at h.at out.soon h.later;
          dest = h.dest ∙ out.dest;
          asker = ap (λ (v : Message). v.origin) h.says ∙ out.asker;
          says = ap (λ (v : Message). v.content) h.says ∙ out.says;
          before = copies_soon y x call own was out.before;
        })
        | inr h ↦ inl (
            let k : IsPosted n' (content.InvalAck p) out.letter.dest out.letter.message.origin =
            subst (IsAnswered n n' out.letter) out.says h in
            subst (IsPosted n' (content.InvalAck p) x) out.asker
            (subst (λ v. IsPosted n' (content.InvalAck p) v out.letter.message.origin) out.dest k)
            )
      ]
  recall_on (suc (suc e)) y x call own was missed h = tt

  -- the page stays on its way, or its node owns it then
  pub coming_on : (y : ℕ) (k : IsComing n p y)
      → ((k' : IsComing n' p y) × IsLater k.at k'.at) ⊎ (is_owner (n'.entry y p) ≡ true)
  coming_on y k = elim (on.stays k.at k.letter k.there) [
    | inl h ↦ inl (
      record {
        at = h.at;
        letter = h.letter;
        bits = k.bits;
        bytes = k.bytes;
        there = h.there;
        dest = h.dest ∙ k.dest;
        brings = ap (λ (v : Message). v.content) h.says ∙ k.brings;
      },
      h.later,
    )
    | inr h ↦ inr (
        let own : is_owner (n'.entry k.letter.dest p) ≡ true =
        subst (IsAnswered n n' k.letter) k.brings h in
        subst (λ v. is_owner (n'.entry v p) ≡ true) k.dest own
        )
  ]

  -- a word that waits, and waits on, does not wait longer for it
  pub brought_on : (o r : ℕ) → is_locked (n.entry o p) ≡ true → is_locked (n'.entry o p) ≡ true
      → IsBroughtIn n due p w o r → IsBroughtIn n' due p w o r
  brought_on o r locked on_locked (copies a l bytes at to says less) =
      elim (on.stays a l at) [
        | inl h ↦
            copies h.at h.letter bytes h.there (h.dest ∙ to)
            (ap (λ (v : Message). v.content) h.says ∙ says) (elim less [
              | inl soon ↦ inl (soon_later due a h.at soon h.later)
              | inr le ↦ inr le
            ])
        | inr h ↦ absurd (
            let free : is_locked (n'.entry l.dest p) ≡ false = subst (IsAnswered n n' l) says h in
            both_ways (is_locked (n'.entry o p))
            (subst (λ v. is_locked (n'.entry v p) ≡ false) to free) on_locked
            )
      ]
  brought_on o r locked on_locked (comes k less) = elim (coming_on o k) [
    | inl g ↦ comes g.0 (elim less [
      | inl h ↦ inl (soon_later due k.at g.0.at h.0 g.1, h.1)
      | inr le ↦ inr le
    ])
    | inr own ↦ collects 2 own (λ target call missed. tt) (elim less [
      | inl h ↦ h.1
      | inr le ↦ omega (arith, le)
    ])
  ]
  brought_on o r locked on_locked (collects e own recalled le) = elim (on.owners o p own) [
    | inr g ↦ absurd (both_ways (is_locked (n.entry o p)) g.idle locked)
    | inl owns ↦ collects e owns (λ target call missed.
        elim (on.collects o p target call own missed) [
          | inl was ↦ recall_on e o target call own was missed (recalled target call was)
          | inr none ↦ absurd (both_ways (is_locked (n.entry o p)) none.1 locked)
        ]) le
  ]

module _ (c : Config) (m : ℕ → Owners) (n n' : Net) (on : IsOnward c (IsElsewhere c) n n')
    (order : IsOrderly c n) (managed : IsManaged c m n) (fair : IsFair c n) (due : ℕ → ℕ → ℕ) (p : ℕ)
    (inside : p < c.pages) where
  abbrev w : ℕ
  w = p % c.nodes

  abbrev recall_still : (e y x call : ℕ) → is_owner (n.entry y p) ≡ true
      → Collects (n.entry y p) call x → Collects (n'.entry y p) call x
      → IsRecalled n due p w e y x → IsRecalled n' due p w e y x
  recall_still = recall_on c n n' on order due p w

  abbrev coming_still : (y : ℕ) (k : IsComing n p y)
      → ((k' : IsComing n' p y) × IsLater k.at k'.at) ⊎ (is_owner (n'.entry y p) ≡ true)
  coming_still = coming_on c n n' on order due p w

  -- a request that stays at a node that has the page
  module _ (a : Place) (l : Letter) (y : ℕ) (at : IsAt n a l) (to : l.dest ≡ y) (asks : AsksFor p l)
      (ne : y ≢ w) (still : IsStill n' a l) where
    owner_on : is_owner (n.entry y p) ≡ true → is_owner (n'.entry y p) ≡ true
    owner_on own = elim (on.owners y p own) [
      | inl h ↦ h
      | inr g ↦ absurd (g.none a l at to asks ne still)
    ]

    recalls_on : (e : ℕ) → IsArrived a → is_owner (n.entry y p) ≡ true → AreRecalled n due p w e y
        → AreRecalled n' due p w e y
    recalls_on e arrived own recalled target call missed =
        elim (on.collects y p target call own missed) [
          | inl was ↦ recall_still e y target call own was missed (recalled target call was)
          | inr none ↦ absurd (unlocked_loose n a l y p at to asks arrived none.1 none.0)
        ]

    held_on : (e : ℕ) → IsHeld n due p w a y e → IsHeld n' due p w still.at y e
    held_on zero h =
        (arrived_later a still.at h.0 still.later, owner_on h.1, recalls_on 0 h.0 h.1 h.2)
    held_on (suc zero) h =
        (arrived_later a still.at h.0 still.later, owner_on h.1, recalls_on 1 h.0 h.1 h.2)
    held_on (suc (suc zero)) h = (
      soon_later due a still.at h.0 still.later,
      elim h.1 [
        | inl own ↦ inl (owner_on own)
        | inr k ↦ elim (coming_still y k.0) [
          | inl g ↦ inr (g.0, soon_later due k.0.at g.0.at k.1 g.1)
          | inr own ↦ inl own
        ]
      ],
    )
    held_on (suc (suc (suc e))) (inl own) = inl (owner_on own)
    held_on (suc (suc (suc e))) (inr k) =
        elim (coming_still y k) [ inl g ↦ inr g.0 | inr own ↦ inl own ]

  -- a request to write that is served elsewhere than at the managing node is given the page
  write_given : (l : Letter) (a : Place) → IsAt n a l → l.dest ≢ w
      → l.message.content ≡ content.WriteReq p → IsAnswered n n' l l.message.content
      → IsComing n' p l.message.origin
  write_given l a at ne says h = given (subst (IsAnswered n n' l) says h)
    where
      given : IsAnswered n n' l (content.WriteReq p) → IsComing n' p l.message.origin
      given (inl k) = k
      given (inr on) =
          absurd (both_ways (claims (n.entry l.dest p)) on.plain
          ((managed.routed p inside).claimed l.message.origin l.dest ne
          (asked_at n a l (content.WriteReq p) at says)))

  read_sent : (l : Letter) (a : Place) → IsAt n a l → l.dest ≢ w
      → l.message.content ≡ content.ReadReq p → IsAnswered n n' l l.message.content
      → IsSent n' p l.dest l.message.origin
  read_sent l a at ne says h = sent (subst (IsAnswered n n' l) says h)
    where
      sent : IsAnswered n n' l (content.ReadReq p) → IsSent n' p l.dest l.message.origin
      sent (inl k) = k
      sent (inr on) =
          absurd (both_ways (claims (n.entry l.dest p)) on.plain
          ((fair p).reader_claimed l.message.origin l.dest ne
          (asked_at n a l (content.ReadReq p) at says)))

  served_on : (d : ℕ) (a : Place) (y r : ℕ) (l : Letter) → IsAt n a l → l.dest ≡ y → AsksFor p l
      → y ≢ w → (still : IsStill n' a l) → IsServedBy n due p w d a y r
      → IsServedBy n' due p w d still.at y r
  served_on zero a y r l at to asks ne still s = s
  served_on (suc d) a y r l at to asks ne still (holds e h le) =
      holds e (held_on a l y at to asks ne still e h) le
  served_on (suc d) a y r l at to asks ne still (behind b k j bt origin says away rest le) =
      elim (on.stays b k bt) [
        | inl h ↦
            behind h.at h.letter j h.there (ap (λ (v : Message). v.origin) h.says ∙ origin)
            (ap (λ (v : Message). v.content) h.says ∙ says)
            (λ same. away (sym h.dest ∙ same))
            (subst (λ v. IsServedBy n' due p w d h.at v j) (sym h.dest)
            (served_on d b k.dest j k bt refl (inr says) away h rest)) le
        | inr h ↦
            holds 3 (inr (subst (IsComing n' p) origin (write_given k b bt away says h)))
            (omega (arith, le))
      ]

  -- and so of the number of nodes before it
  served_still : (a : Place) (r : ℕ) (l : Letter) → IsAt n a l → AsksFor p l → l.dest ≢ w
      → (still : IsStill n' a l) → IsServedIn n due p w a l.dest r
      → IsServedIn n' due p w still.at still.letter.dest r
  served_still a r l at asks ne still s = (
    s.0,
    subst (λ v. IsServedBy n' due p w s.0 still.at v r) (sym still.dest)
        (served_on s.0 a l.dest r l at refl asks ne still s.1),
  )

  -- a word that waits, and waits on, does not wait longer for it
  pub answered_on : (o r : ℕ) → is_locked (n.entry o p) ≡ true → is_locked (n'.entry o p) ≡ true
      → IsAnsweredIn n due p w o r → IsAnsweredIn n' due p w o r
  answered_on o r locked on_locked (brought h) =
      brought (brought_on c n n' on order due p w o r locked on_locked h)
  answered_on o r locked on_locked (reads a l k at origin says ne rest le) =
      elim (on.stays a l at) [
        | inl h ↦
            reads h.at h.letter k h.there (ap (λ (v : Message). v.origin) h.says ∙ origin)
            (ap (λ (v : Message). v.content) h.says ∙ says) (λ same. ne (sym h.dest ∙ same))
            (served_still a k l at (inl says) ne h rest) le
        | inr h ↦ (
            let sent = read_sent l a at ne says h in
            brought (copies sent.at sent.letter sent.bytes sent.there (sent.dest ∙ origin)
            sent.brings (inr (omega (arith, le))))
            )
      ]
  answered_on o r locked on_locked (writes a l k at origin says ne rest le) =
      elim (on.stays a l at) [
        | inl h ↦
            writes h.at h.letter k h.there (ap (λ (v : Message). v.origin) h.says ∙ origin)
            (ap (λ (v : Message). v.content) h.says ∙ says) (λ same. ne (sym h.dest ∙ same))
            (served_still a k l at (inr says) ne h rest) le
        | inr h ↦
            brought (comes (subst (IsComing n' p) origin (write_given l a at ne says h))
            (inr (omega (arith, le))))
      ]

  -- what requests that the managing node sends on are served in
  abbrev ServedSoon : Type 0
  ServedSoon = (a : Place) (l : Letter) → IsAt n' a l → AsksFor p l → l.dest ≢ w
      → (k : ℕ) × IsServedIn n' due p w a l.dest k × (k + 3 ≤ 3 * c.nodes)

  -- a request that is served at the managing node
  module _ (soon : ServedSoon) (o r : ℕ) (enough : 3 * c.nodes ≤ r) (some : 2 ≤ c.nodes) where
    sent_near : (l : Letter) → l.message.origin ≡ o → l.dest ≡ w → AsksFor p l
        → IsAnswered n n' l l.message.content → IsReachedIn n' due p w c.nodes o r
    sent_near l origin to (inl says) h = by_read (subst (IsAnswered n n' l) says h)
      where
        by_read : IsAnswered n n' l (content.ReadReq p) → IsReachedIn n' due p w c.nodes o r
        by_read (inl k) =
            near (brought (copies k.at k.letter k.bytes k.there (k.dest ∙ origin) k.brings
            (inr (omega (arith, enough, some)))))
        by_read (inr on) =
            let k = on.asked in
            let ne : k.letter.dest ≢ w = λ same. on.away (sym k.dest ∙ same ∙ sym to) in
            let s = soon k.at k.letter k.there (inl k.asks) ne in
            let le = s.2 in
            near (reads k.at k.letter s.0 k.there (k.asker ∙ origin) k.asks ne s.1
            (omega (arith, le, enough)))
    sent_near l origin to (inr says) h = by_write (subst (IsAnswered n n' l) says h)
      where
        by_write : IsAnswered n n' l (content.WriteReq p) → IsReachedIn n' due p w c.nodes o r
        by_write (inl k) =
            near
            (brought (comes (subst (IsComing n' p) origin k) (inr (omega (arith, enough, some)))))
        by_write (inr on) =
            let k = on.asked in
            let ne : k.letter.dest ≢ w = λ same. on.away (sym k.dest ∙ same ∙ sym to) in
            let s = soon k.at k.letter k.there (inr k.asks) ne in
            let le = s.2 in
            near (writes k.at k.letter s.0 k.there (k.asker ∙ origin) k.asks ne s.1
            (omega (arith, le, enough)))

  pub reached_on : ServedSoon → 2 ≤ c.nodes → (o r : ℕ) → is_locked (n.entry o p) ≡ true
      → is_locked (n'.entry o p) ≡ true → IsReachedIn n due p w c.nodes o r
      → IsReachedIn n' due p w c.nodes o r
  reached_on soon some o r locked on_locked (near h) =
      near (answered_on o r locked on_locked h)
  reached_on soon some o r locked on_locked (nears a l at origin asks to less) =
      elim (on.stays a l at) [
        | inl h ↦
            nears h.at h.letter h.there (ap (λ (v : Message). v.origin) h.says ∙ origin)
            (still_asks n' a l p h asks) (h.dest ∙ to) (elim less [
              | inl g ↦ inl (soon_later due a h.at g.0 h.later, g.1)
              | inr le ↦ inr le
            ])
        | inr h ↦
            sent_near soon o r
            (elim less [ inl g ↦ (let le = g.1 in omega (arith, le)) | inr le ↦ omega (arith, le) ])
            some l origin to asks h
      ]
  reached_on soon some o r locked on_locked (free a l at origin asks to arrived idle le) =
      elim (on.stays a l at) [
        | inl h ↦ elim (cases_Bool (is_locked (n'.entry w p))) [
          | inr opened ↦
              free h.at h.letter h.there (ap (λ (v : Message). v.origin) h.says ∙ origin)
              (still_asks n' a l p h asks) (h.dest ∙ to) (arrived_later a h.at arrived h.later)
              opened le
          | inl shut ↦
              absurd (unlocked_loose n a l w p at to asks arrived idle (on.begins w p idle shut))
        ]
        | inr h ↦ sent_near soon o r le some l origin to asks h
      ]
  reached_on soon some o r locked on_locked
      (waits a l k at origin asks to arrived shut before le) =
      elim (on.stays a l at) [
        | inl h ↦ elim (cases_Bool (is_locked (n'.entry w p))) [
          | inl shut_on ↦
              waits h.at h.letter k h.there (ap (λ (v : Message). v.origin) h.says ∙ origin)
              (still_asks n' a l p h asks) (h.dest ∙ to) (arrived_later a h.at arrived h.later)
              shut_on (answered_on w k shut shut_on before) le
          | inr opened ↦
              free h.at h.letter h.there (ap (λ (v : Message). v.origin) h.says ∙ origin)
              (still_asks n' a l p h asks) (h.dest ∙ to) (arrived_later a h.at arrived h.later)
              opened (omega (arith, le))
        ]
        | inr h ↦ sent_near soon o r (omega (arith, le)) some l origin to asks h
      ]
