-- Late nodes stay late over a step, where the requests stay in order and the node that takes the
-- step does what it has to.
use Rattle.std.proofs.Common.{◌≡◌, ◌≢◌, ◌⊎◌, ◌<◌, ◌≤◌, ℕ, true, false, length, sym, ap, ◌∙◌, subst, inl, inr, arith}
use Rattle.std.proofs.lemmas.Bool.{cases_eq}
use Rattle.std.proofs.lemmas.Option.{slice_get_within}
use Rattle.ivy_wire.specs.stated.Data.{Message}
use Rattle.ivy_wire.specs.declared.Content.TheVariants as content
use Rattle.ivy_pagetable.specs.declared.Entry.TheVariants as entry
use Rattle.ivy_pagetable.specs.stated.States.{IdleState, WaitingState, AwaitWriteState}
use Rattle.ivy_dynamic.specs.stated.Dynamic.{Hints, hint_of}
use Rattle.proof_table.specs.stated.Letters.{Letter, Net, Place, Underway, Aside, Loose, IsAt}
use Rattle.proof_table.specs.waiting.Readers.{IsBefore}
use Rattle.proof_table.proofs.waiting.Onward.{IsArrived, IsLater}
use Rattle.proof_answers.specs.late.Late.{IsRequest, IsOut, IsPutOff, HasCome, Which, Node, Hop, Own, IsChained, first, next, IsAfter, IsLed, Leads, begins, idle, sent_on, reads, writes, hop_late, hop_led, own_late, own_after}

-- a letter is at its node still, at this place
pub record IsKept (n' : Net) (at : Place) (l : Letter) : Type 0 where
  pub letter : Letter
  pub there : IsAt n' at letter
  pub dest : letter.dest ≡ l.dest
  pub says : letter.message ≡ l.message
  pub from : HasCome at ⊎ (letter.source ≡ l.source)

pub kept_request : (n' : Net) (at : Place) (p i : ℕ) (l : Letter) (k : IsKept n' at l)
    → IsRequest p i l → IsRequest p i k.letter
kept_request n' at p i l k asks =
    subst (λ (v : Message). (v.origin ≡ i)
    × ((v.content ≡ content.ReadReq p) ⊎ (v.content ≡ content.WriteReq p))) (sym k.says) asks

pub arrived_come : (a : Place) → IsArrived a → HasCome a
arrived_come (Underway i j k) h = h
arrived_come (Aside x p k) h = tt
arrived_come (Loose k) h = tt

-- one of the chain is a request
pub chained_asks : (n : Net) (p o : ℕ) {a : Place} {l : Letter} → IsChained n p o a l
    → (i : ℕ) × IsRequest p i l
chained_asks n p o (first a l there asks) = (o, asks)
chained_asks n p o (next a b k l before put there asks) = (k.dest, asks)

-- and it is there
pub chained_at : (n : Net) (p o : ℕ) {a : Place} {l : Letter} → IsChained n p o a l → IsAt n a l
chained_at n p o (first a l there asks) = there
chained_at n p o (next a b k l before put there asks) = there

-- so the request is out
pub chained_out : (n : Net) (p o : ℕ) {a : Place} {l : Letter} → IsChained n p o a l → IsOut n p o
chained_out n p o (first a l there asks) =
    record { at = a; letter = l; there = there; asks = asks }
chained_out n p o (next a b k l before put there asks) = chained_out n p o before

-- a letter that has come in is before what a node sends next
come_before : (a : Place) (y h k : ℕ) → HasCome a → IsBefore a (Underway y h k)
come_before (Underway i j l) y h k come = absurd come
come_before (Aside i q l) y h k come = tt
come_before (Loose l) y h k come = tt

-- and so is one from this node that was there before
sent_before : (n : Net) (a : Place) (l : Letter) (y h k : ℕ) → IsAt n a l → l.source ≡ y
    → l.dest ≡ h → length (n.posted y h) ≤ k → IsBefore a (Underway y h k)
sent_before n (Aside i q b) l y h k at from to le = tt
sent_before n (Loose b) l y h k at from to le = tt
sent_before n (Underway i j b) l y h k at from to le =
    let one : i ≡ y = sym at.2 ∙ from in
    let two : j ≡ h = sym at.3 ∙ to in
    let within : b < length (n.posted i j) =
    slice_get_within (n.posted i j) b l.message at.1 in
    let same : length (n.posted i j) ≡ length (n.posted y h) =
    ap (λ v. length (n.posted v j)) one ∙ ap (λ v. length (n.posted y v)) two in
    (one, two, omega (arith, within, same, le))

-- where more are late to begin with, more are late
pub more_late : (nodes : ℕ) (m : ℕ → Hints) (n : Net) (p o : ℕ) (F G : ℕ → Type 0)
    → ((y : ℕ) → F y → G y) → {w : Which} → Leads nodes m n p o F w → Leads nodes m n p o G w
more_late nodes m n p o F G more (begins y h) = begins y (more y h)
more_late nodes m n p o F G more (idle y lt s is plain hop) =
    idle y lt s is plain (more_late nodes m n p o F G more hop)
more_late nodes m n p o F G more (sent_on y lt s is on hop) =
    sent_on y lt s is on (more_late nodes m n p o F G more hop)
more_late nodes m n p o F G more (reads y lt s is hop own) =
    reads y lt s is (more_late nodes m n p o F G more hop) (more_late nodes m n p o F G more own)
more_late nodes m n p o F G more (writes y lt s is own) =
    writes y lt s is (more_late nodes m n p o F G more own)
more_late nodes m n p o F G more (hop_late y late) =
    hop_late y (more_late nodes m n p o F G more late)
more_late nodes m n p o F G more (hop_led y led) = hop_led y led
more_late nodes m n p o F G more (own_late y a l there asks late) =
    own_late y a l there asks (more_late nodes m n p o F G more late)
more_late nodes m n p o F G more (own_after y a l there asks after) =
    own_after y a l there asks after

-- `now` says where a letter is then, `Gone` which is served, and `Serves` whether a request is
module _ (m m' : ℕ → Hints) (n n' : Net) (p o x : ℕ) (now : Place → Place)
    (Gone : Place → Type 0) (Serves : Type 0) where
  -- What a step of node x does to the requests for the page, and to the other nodes.
  pub record IsInOrder : Type 0 where
    -- a request is at its node still, or it is the one that is served
    pub stays : (i : ℕ) (a : Place) (l : Letter) → IsAt n a l → IsRequest p i l
        → (IsKept n' (now a) l × (Gone a → ⊥)) ⊎ ((a ≡ Loose 0) × (l.dest ≡ x) × Serves)
    pub later : (a : Place) → (Gone a → ⊥) → IsLater a (now a)
    pub come : (a : Place) → HasCome a → HasCome (now a)
    -- one that comes before another one does so still
    pub order : (a b : Place) (k l : Letter) (i j : ℕ) → IsAt n a k → IsAt n b l → IsRequest p i k
        → IsRequest p j l → k.dest ≡ l.dest → (Gone a → ⊥) → (Gone b → ⊥) → IsBefore a b
        → IsBefore (now a) (now b)
    -- where one is put off, it is so still, or the node there has no request
    pub put : (a : Place) (l : Letter) (i : ℕ) → IsAt n a l → IsRequest p i l → IsPutOff a
        → IsPutOff (now a) ⊎ ((b : Place) (k : Letter) → IsAt n b k → IsRequest p l.dest k → ⊥)
    pub entries : (y : ℕ) → y ≢ x → n'.entry y p ≡ n.entry y p
    pub hints : (y : ℕ) → y ≢ x → hint_of (m' y) p ≡ hint_of (m y) p

  -- one of the chain, after the step
  pub record IsChainedStill (a : Place) (l : Letter) : Type 0 where
    pub kept : IsKept n' (now a) l
    pub there_still : Gone a → ⊥
    pub chained : IsChained n' p o (now a) kept.letter

  -- where node y sent its requests before: what it sends there next comes after one of the chain
  pub record IsLedOn (y h : ℕ) : Type 0 where
    pub led : IsLed n' p o y h
    pub before : (k : ℕ) → length (n.posted y h) ≤ k → IsBefore led.at (Underway y h k)

  module _ (nodes : ℕ) (First : ℕ → Type 0) where
    abbrev pub LateThen : Which → Type 0
    LateThen w = Leads nodes m' n' p o First w

    -- where the hint of a node led: to a node that is late after the step, or to one of the chain
    abbrev pub HasLed : ℕ → Type 0
    HasLed y = LateThen (Node (hint_of (m y) p)) ⊎ IsLedOn y (hint_of (m y) p)

    -- how a node was late
    pub data WasLate (y : ℕ) : Type 0 where
      was_first : First y → WasLate y
      was_idle : (s : IdleState) → n.entry y p ≡ entry.Idle s → s.owner ≡ false → HasLed y
          → WasLate y
      was_reader : (s : WaitingState) → n.entry y p ≡ entry.AwaitRead s → HasLed y → WasLate y
      was_writer : (s : AwaitWriteState) → n.entry y p ≡ entry.AwaitWrite s → WasLate y

    -- where node x serves one of the chain, it is late then
    abbrev pub IsServedLate : Type 0
    IsServedLate =
        Serves → (l : Letter) → IsChained n p o (Loose 0) l → l.dest ≡ x → LateThen (Node x)

    -- What node x has to do besides: it is late then if it was so, and a late request that it
    -- serves is late then.
    pub record IsLateStill : Type 0 where
      pub at_served : Serves → (i : ℕ) (l : Letter) → IsAt n (Loose 0) l → IsRequest p i l
          → l.dest ≡ x → WasLate x ⊎ IsAfter n p o (Loose 0) l → LateThen (Own i)
      pub at_idle : x < nodes → (s : IdleState) → n.entry x p ≡ entry.Idle s → s.owner ≡ false
          → HasLed x → LateThen (Node x)
      pub at_sent_on : x < nodes → (s : WaitingState) → n.entry x p ≡ entry.AwaitRead s
          → s.sent_on ≡ true → HasLed x → LateThen (Node x)
      pub at_reads : x < nodes → (s : WaitingState) → n.entry x p ≡ entry.AwaitRead s
          → IsOut n p x → HasLed x → LateThen (Own x) → LateThen (Node x)
      pub at_writes : x < nodes → (s : AwaitWriteState) → n.entry x p ≡ entry.AwaitWrite s
          → IsOut n p x → LateThen (Own x) → LateThen (Node x)
      -- and while it awaits a copy its hint leads late
      pub at_hop : (s t : WaitingState) → n.entry x p ≡ entry.AwaitRead s
          → n'.entry x p ≡ entry.AwaitRead t → HasLed x → LateThen (Hop x)

    -- who is late to begin with: the asker, or none where the asker awaits a copy
    pub record AreFirst : Type 0 where
      pub own : (y : ℕ) → First y → y ≡ o
      pub asker : First o ⊎ ((s : WaitingState) × (n.entry o p ≡ entry.AwaitRead s))
      pub led : (s : WaitingState) → First x → n.entry x p ≡ entry.AwaitRead s → HasLed x

    late_as : (y z : ℕ) → y ≡ z → LateThen (Node y) → LateThen (Node z)
    late_as y z same late = subst (λ v. LateThen (Node v)) same late

    -- a hint that stays leads where it led
    pub hop_of : (y : ℕ) → hint_of (m' y) p ≡ hint_of (m y) p → HasLed y → LateThen (Hop y)
    hop_of y same (inl late) = hop_late y (late_as _ _ (sym same) late)
    hop_of y same (inr on) = hop_led y (subst (IsLed n' p o y) (sym same) on.led)

    -- a request that node y sends where its hint led is late
    pub new_late : (y h i k : ℕ) (l : Letter) → h ≡ hint_of (m y) p → IsAt n' (Underway y h k) l
        → IsRequest p i l → l.dest ≡ h → length (n.posted y h) ≤ k → HasLed y → LateThen (Own i)
    new_late y h i k l way there asks dest le (inl late) =
        own_late i (Underway y h k) l there asks (late_as _ _ (sym way ∙ sym dest) late)
    new_late y h i k l way there asks dest le (inr led) =
        let on : IsLedOn y h = subst (IsLedOn y) (sym way) led in
        own_after i (Underway y h k) l there asks (record {
          at = on.led.at;
          letter = on.led.letter;
          chained = on.led.chained;
          dest = on.led.dest ∙ sym dest;
          before = on.before k le;
        })

    -- where nothing changes at node x either
    pub unchanged : (Serves → ⊥) → n'.entry x p ≡ n.entry x p
        → hint_of (m' x) p ≡ hint_of (m x) p → IsLateStill
    unchanged none same hint = record {
      at_served = λ s i l at asks to late. absurd (none s);
      at_idle = λ lt s is plain led. idle x lt s (same ∙ is) plain (hop_of x hint led);
      at_sent_on = λ lt s is on led. sent_on x lt s (same ∙ is) on (hop_of x hint led);
      at_reads = λ lt s is out led own. reads x lt s (same ∙ is) (hop_of x hint led) own;
      at_writes = λ lt s is out own. writes x lt s (same ∙ is) own;
      at_hop = λ s t is then led. hop_of x hint led;
    }

  module _ (step : IsInOrder) where
    -- one of the chain is one of it still, or it is served
    pub chain_kept : {a : Place} {l : Letter} → IsChained n p o a l
        → IsChainedStill a l ⊎ ((a ≡ Loose 0) × (l.dest ≡ x) × Serves)
    chain_kept (first a l there asks) = elim (step.stays o a l there asks) [
      | inr served ↦ inr served
      | inl k ↦ inl (record {
        kept = k.0;
        there_still = k.1;
        chained = first (now a) k.0.letter k.0.there (kept_request n' (now a) p o l k.0 asks);
      })
    ]
    chain_kept (next a b k l before put there asks) = elim (chain_kept before) [
      | inr served ↦ absurd (subst IsPutOff served.0 put)
      | inl still ↦ elim (step.stays k.dest b l there asks) [
        | inr served ↦ inr served
        | inl kept ↦ (
            let request = chained_asks n p o before in
            elim (step.put a k request.0 (chained_at n p o before) request.1 put) [
              | inr none ↦ absurd (none b l there asks)
              | inl stays ↦ inl (record {
                kept = kept.0;
                there_still = kept.1;
                chained = next (now a) (now b) still.kept.letter kept.0.letter still.chained stays
                    kept.0.there
                    (subst (λ i. IsRequest p i kept.0.letter) (sym still.kept.dest)
                    (kept_request n' (now b) p k.dest l kept.0 asks));
              })
            ]
            )
      ]
    ]

    -- what a node sent came after one of the chain, which is one of it still
    led_on : (y h : ℕ) (led : IsLed n p o y h) → IsChainedStill led.at led.letter → IsLedOn y h
    led_on y h led still = record {
      led = record {
        at = now led.at;
        letter = still.kept.letter;
        chained = still.chained;
        dest = still.kept.dest ∙ led.dest;
        leads = elim led.leads [
          | inl come ↦ inl (step.come led.at come)
          | inr from ↦ elim still.kept.from [ inl come ↦ inl come | inr alike ↦ inr (alike ∙ from) ]
        ];
      };
      before = λ k le. elim led.leads [
        | inl come ↦ come_before (now led.at) y h k (step.come led.at come)
        | inr from ↦ elim (step.later led.at still.there_still) [
          | inr arrived ↦ come_before (now led.at) y h k (arrived_come (now led.at) arrived)
          | inl same ↦
              subst (λ v. IsBefore v (Underway y h k)) (sym same)
              (sent_before n led.at led.letter y h k (chained_at n p o led.chained) from led.dest
              le)
        ]
      ];
    }

    module _ (nodes : ℕ) (First : ℕ → Type 0) (chain : IsServedLate nodes First) where
      abbrev Then : Which → Type 0
      Then w = Leads nodes m' n' p o First w

      late_at : (y z : ℕ) → y ≡ z → Then (Node y) → Then (Node z)
      late_at y z same late = subst (λ v. Then (Node v)) same late

      -- one of the chain that is served, at node x
      serving : (a : Place) (l : Letter) → IsChained n p o a l
          → (a ≡ Loose 0) × (l.dest ≡ x) × Serves → Then (Node x)
      serving a l chained served =
          chain served.2 l (subst (λ v. IsChained n p o v l) served.0 chained) served.1

      led_kept : (y : ℕ) → IsLed n p o y (hint_of (m y) p) → HasLed nodes First y
      led_kept y led = elim (chain_kept led.chained) [
        | inr served ↦
            inl (late_at x (hint_of (m y) p) (sym served.1 ∙ led.dest)
            (serving led.at led.letter led.chained served))
        | inl still ↦ inr (led_on y (hint_of (m y) p) led still)
      ]

      -- a request that comes after one of the chain does so still, or is at a late node
      after_kept : (y : ℕ) (a : Place) (l : Letter) → IsAt n a l → (k : IsKept n' (now a) l)
          → (Gone a → ⊥) → IsRequest p y l → IsAfter n p o a l → Then (Own y)
      after_kept y a l there k here asks f = elim (chain_kept f.chained) [
        | inr served ↦
            own_late y (now a) k.letter k.there (kept_request n' (now a) p y l k asks)
            (late_at x k.letter.dest (sym served.1 ∙ f.dest ∙ sym k.dest)
            (serving f.at f.letter f.chained served))
        | inl still ↦ (
            let request = chained_asks n p o f.chained in
            own_after y (now a) k.letter k.there (kept_request n' (now a) p y l k asks) (record {
              at = now f.at;
              letter = still.kept.letter;
              chained = still.chained;
              dest = still.kept.dest ∙ f.dest ∙ sym k.dest;
              before = step.order f.at a f.letter l request.0 y (chained_at n p o f.chained) there
                  request.1 asks f.dest still.there_still here f.before;
            })
            )
      ]

      module _ (does : IsLateStill nodes First) where
        abbrev Still : Which → Type 0
        Still (Node y) = Then (Node y) × WasLate nodes First y
        Still (Hop y) = HasLed nodes First y
        Still (Own y) = Then (Own y) × IsOut n p y

        -- who is late stays late
        pub late_kept : {w : Which} → Leads nodes m n p o First w → Still w
        late_kept (begins y same) = (begins y same, was_first same)
        late_kept (idle y lt s is plain hop) =
            let led : HasLed nodes First y = late_kept hop in (
              elim (cases_eq y x) [
                | inr ne ↦
                    idle y lt s (step.entries y ne ∙ is) plain
                    (hop_of nodes First y (step.hints y ne) led)
                | inl same ↦
                    late_at x y (sym same)
                    (does.at_idle (subst (λ v. v < nodes) same lt) s
                    (subst (λ v. n.entry v p ≡ entry.Idle s) same is) plain
                    (subst (HasLed nodes First) same led))
              ],
              was_idle s is plain led,
            )
        late_kept (sent_on y lt s is on hop) =
            let led : HasLed nodes First y = late_kept hop in (
              elim (cases_eq y x) [
                | inr ne ↦
                    sent_on y lt s (step.entries y ne ∙ is) on
                    (hop_of nodes First y (step.hints y ne) led)
                | inl same ↦
                    late_at x y (sym same)
                    (does.at_sent_on (subst (λ v. v < nodes) same lt) s
                    (subst (λ v. n.entry v p ≡ entry.AwaitRead s) same is) on
                    (subst (HasLed nodes First) same led))
              ],
              was_reader s is led,
            )
        late_kept (reads y lt s is hop own) =
            let led : HasLed nodes First y = late_kept hop in
            let asked : Then (Own y) × IsOut n p y = late_kept own in (
              elim (cases_eq y x) [
                | inr ne ↦
                    reads y lt s (step.entries y ne ∙ is)
                    (hop_of nodes First y (step.hints y ne) led) asked.0
                | inl same ↦
                    late_at x y (sym same)
                    (does.at_reads (subst (λ v. v < nodes) same lt) s
                    (subst (λ v. n.entry v p ≡ entry.AwaitRead s) same is)
                    (subst (IsOut n p) same asked.1) (subst (HasLed nodes First) same led)
                    (subst (λ v. Then (Own v)) same asked.0))
              ],
              was_reader s is led,
            )
        late_kept (writes y lt s is own) =
            let asked : Then (Own y) × IsOut n p y = late_kept own in (
              elim (cases_eq y x) [
                | inr ne ↦ writes y lt s (step.entries y ne ∙ is) asked.0
                | inl same ↦
                    late_at x y (sym same)
                    (does.at_writes (subst (λ v. v < nodes) same lt) s
                    (subst (λ v. n.entry v p ≡ entry.AwaitWrite s) same is)
                    (subst (IsOut n p) same asked.1) (subst (λ v. Then (Own v)) same asked.0))
              ],
              was_writer s is,
            )
        late_kept (hop_late y late) =
            (let k : Then (Node (hint_of (m y) p)) × WasLate nodes First (hint_of (m y) p) =
            late_kept late in inl k.0)
        late_kept (hop_led y led) = led_kept y led
        late_kept (own_late y a l there asks late) =
            let k : Then (Node l.dest) × WasLate nodes First l.dest = late_kept late in (
              elim (step.stays y a l there asks) [
                | inl kept ↦
                    own_late y (now a) kept.0.letter kept.0.there
                    (kept_request n' (now a) p y l kept.0 asks)
                    (late_at l.dest kept.0.letter.dest (sym kept.0.dest) k.0)
                | inr served ↦
                    does.at_served served.2 y l (subst (λ v. IsAt n v l) served.0 there) asks
                    served.1 (inl (subst (WasLate nodes First) served.1 k.1))
              ],
              record { at = a; letter = l; there = there; asks = asks },
            )
        late_kept (own_after y a l there asks after) = (
          elim (step.stays y a l there asks) [
            | inl k ↦ after_kept y a l there k.0 k.1 asks after
            | inr served ↦
                does.at_served served.2 y l (subst (λ v. IsAt n v l) served.0 there) asks served.1
                (inr (subst (λ v. IsAfter n p o v l) served.0 after))
          ],
          record { at = a; letter = l; there = there; asks = asks },
        )
