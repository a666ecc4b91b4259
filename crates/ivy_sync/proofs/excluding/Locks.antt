-- At no point do two nodes hold a lock.
use Rattle.std.proofs.Common.{◌≡◌, ℕ, ◌%◌, ◌^◌, ◌<◌, ◌⊎◌, inl, inr, Bool, true, false, IsTrue}
use Rattle.std.proofs.Common.{if◌then◌else◌, List, [], ◌∷◌, ◌++◌, refl, sym, ap, ap₂, subst, ◌∙◌}
use Rattle.std.proofs.Common.{append-nil, true≢false}
use Rattle.std.proofs.lemmas.Bool.{both_ways, cases_eq, cases_lt}
use Rattle.ivy_model.specs.declared.config.Config.{Config}
use Rattle.ivy_model.specs.declared.call.Act.TheVariants as act
use Rattle.ivy_model.specs.declared.call.Call.{Call}
use Rattle.ivy_model.specs.declared.call.CallKind.{CallKind}
use Rattle.ivy_model.specs.declared.call.CallKind.TheVariants.{Word, Count, Advance, Await, Alloc}
use Rattle.ivy_model.specs.declared.call.CallKind.TheVariants.{Free}
use Rattle.ivy_model.specs.declared.call.Record.{Record}
use Rattle.ivy_model.specs.declared.call.Reply.{Reply}
use Rattle.ivy_model.specs.declared.call.Reply.TheVariants.{Value}
use Rattle.ivy_model.specs.stated.Accesses.{kind_of_call}
use Rattle.ivy_model.specs.stated.Config.{IsConfig}
use Rattle.ivy_model.specs.stated.Legal.{HasWidth, ServesAll}
use Rattle.ivy_model.specs.stated.Memory.{Memory}
use Rattle.ivy_model.specs.Memory.{IsSized}
use Rattle.ivy_model.specs.stated.Serves.{Serves}
use Rattle.ivy_model.proofs.Sizes.{serves_sized}
use Rattle.ivy_calls.specs.declared.answer.Answer.{Answer}
use Rattle.ivy_calls.specs.Answers.{answer, answers_of}
use Rattle.ivy_calls.proofs.Answers.{answers_of-append, answers_of-push_own, answers_of-push_other}
use Rattle.ivy_calls.proofs.Answers.{answers_of-at, answers_of-nobody}
use Rattle.ivy_sync.specs.HeapWords.{word, IsHeapWord, is_write_in, is_write_in_kind, IsAtWord, IsWhole}
use Rattle.ivy_sync.specs.HeapWords.{ReadsKind}
use Rattle.ivy_sync.specs.HeapWords.{put_after}
use Rattle.ivy_sync.specs.HeapWords.{word_after, LeadsThrough}
use Rattle.ivy_sync.specs.excluding.Locks.{held_by, held_after, holds, MayWrite, MayWriteKind, KeepsLock}
use Rattle.ivy_sync.specs.excluding.Locks.{MutualExclusion, LeftLocksAreFree}
use Rattle.ivy_sync.proofs.answers.Cuts.{leads_cut, nodes_there}
use Rattle.ivy_sync.proofs.answers.Lists.{one_more}
use Rattle.ivy_sync.proofs.answers.HeapWords.{word_step, read_step, written_quiet}

pub holds-append : (a : ℕ) (h : Bool) (xs ys : List Answer)
    → holds a h (xs ++ ys) ≡ holds a (holds a h xs) ys
holds-append a h [] ys = refl
holds-append a h (x ∷ xs) ys = holds-append a (held_after a h x) xs ys

pub keeps_front : (a : ℕ) (h : Bool) (xs ys : List Answer) → KeepsLock a h (xs ++ ys)
    → KeepsLock a h xs
keeps_front a h [] ys k = tt
keeps_front a h (x ∷ xs) ys k = (k.0, keeps_front a (held_after a h x) xs ys k.1)

pub keeps_at : (a : ℕ) (h : Bool) (xs : List Answer) (r : Answer) (ys : List Answer)
    → KeepsLock a h (xs ++ r ∷ ys) → MayWrite a (holds a h xs) r.call
keeps_at a h [] r ys k = k.0
keeps_at a h (x ∷ xs) r ys k = keeps_at a (held_after a h x) xs r ys k.1

pub keeps_both : (a : ℕ) (h : Bool) (xs ys : List Answer) → KeepsLock a h xs
    → KeepsLock a (holds a h xs) ys → KeepsLock a h (xs ++ ys)
keeps_both a h [] ys k l = l
keeps_both a h (x ∷ xs) ys k l = (k.0, keeps_both a (held_after a h x) xs ys k.1 l)

-- a call that does not write in the word leaves all as it was
pub held_quiet : (a : ℕ) (h : Bool) (r : Answer) → is_write_in a r.call ≡ false
    → held_after a h r ≡ h
held_quiet a h r q = ap (λ b. if b then held_by h (kind_of_call r.call) r.reply else h) q

pub may_quiet : (a : ℕ) (h : Bool) (call : Call) → is_write_in a call ≡ false → MayWrite a h call
may_quiet a h call q = λ t. absurd (both_ways (is_write_in a call) q t)

-- the lock is free: nobody holds it
pub record IsFree (c : Config) (a : ℕ) (m : Memory) (rs : List Record) : Type 0 where
  pub zero : word c m a ≡ 0
  pub none : (i : ℕ) → holds a false (answers_of i rs) ≡ false

-- node j holds it, and no other
pub record IsHeldBy (c : Config) (a : ℕ) (m : Memory) (rs : List Record) (j : ℕ) : Type 0 where
  pub one : word c m a ≡ 1
  pub here : holds a false (answers_of j rs) ≡ true
  pub others : (i : ℕ) → (i ≡ j → ⊥) → holds a false (answers_of i rs) ≡ false

abbrev pub IsHeldOnce : Config → ℕ → Memory → List Record → Type 0
IsHeldOnce c a m rs = IsFree c a m rs ⊎ ((j : ℕ) × IsHeldBy c a m rs j)

-- who asks for the lock takes it where it is free
record Asks (a : ℕ) (kind : CallKind) : Type 0 where
  reads : ReadsKind a kind
  put : put_after 0 kind ≡ 1
  still : put_after 1 kind ≡ 1
  got : (h : Bool) → held_by h kind (Value 0) ≡ true
  not_got : (h : Bool) → held_by h kind (Value 1) ≡ h

-- who leaves it held it
record Leaves (was_held : Bool) (kind : CallKind) : Type 0 where
  put : (v : ℕ) → put_after v kind ≡ 0
  out : (h : Bool) (reply : Reply) → held_by h kind reply ≡ false
  held : IsTrue was_held

-- nothing else is written in its word
asks_or_leaves : (a : ℕ) (held : Bool) (kind : CallKind) → is_write_in_kind a kind ≡ true
    → MayWriteKind a held kind → Asks a kind ⊎ Leaves held kind
asks_or_leaves a held (Word width addr act.Load) q may = absurd (true≢false (sym q))
asks_or_leaves a held (Word width addr (act.Store value)) q may =
    inr (record {
      put = λ v. ap (λ (x : ℕ). x % 2 ^ 64) may.2.0;
      out = λ h reply. refl;
      held = may.2.1;
    })
asks_or_leaves a held (Word width addr (act.Swap value)) q may =
    inl (record {
      reads = (may.0, may.1, refl);
      put = ap (λ (x : ℕ). x % 2 ^ 64) may.2;
      still = ap (λ (x : ℕ). x % 2 ^ 64) may.2;
      got = λ h. refl;
      not_got = λ h. refl;
    })
asks_or_leaves a held (Word width addr (act.Cas expected value)) q may =
    inl (record {
      reads = (may.0, may.1, refl);
      put = ap₂ (λ (x : ℕ) (y : ℕ). put_after 0 (Word 8 a (act.Cas x y))) may.2.0 may.2.1;
      still = ap₂ (λ (x : ℕ) (y : ℕ). put_after 1 (Word 8 a (act.Cas x y))) may.2.0 may.2.1;
      got = λ h. refl;
      not_got = λ h. refl;
    })
asks_or_leaves a held (Word width addr (act.FetchAdd value)) q may = absurd may.2
asks_or_leaves a held (Count j) q may = absurd may
asks_or_leaves a held (Advance j) q may = absurd may
asks_or_leaves a held (Await j least) q may = absurd may
asks_or_leaves a held (Alloc size) q may = absurd may
asks_or_leaves a held (Free addr) q may = absurd may

at_of : (a : ℕ) (held : Bool) (kind : CallKind) → MayWriteKind a held kind → IsAtWord a kind
at_of a held (Word width addr does) may = (may.0, may.1)
at_of a held (Count j) may = may
at_of a held (Advance j) may = may
at_of a held (Await j least) may = may
at_of a held (Alloc size) may = may
at_of a held (Free addr) may = may

pub may_whole : (a : ℕ) (held : Bool) (call : Call) → MayWrite a held call → IsWhole a call
may_whole a held call may = λ t. at_of a held (kind_of_call call) (may t)

-- one record more
module _ (c : Config) (a : ℕ) (old new : Memory) (rs : List Record) (r : Record) (h : IsConfig c)
    (s : IsSized c old) (at : IsHeapWord c a) (w : HasWidth r.call)
    (served : Serves c old r.call r.reply new)
    (may : MayWrite a (holds a false (answers_of r.node rs)) r.call) where
  -- whether its node held the lock before it
  abbrev before : Bool
  before = holds a false (answers_of r.node rs)

  own_after : holds a false (answers_of r.node (rs ++ r ∷ [])) ≡ held_after a before (answer r)
  own_after =
      ap (holds a false) (answers_of-push_own r.node rs r refl)
      ∙ holds-append a false (answers_of r.node rs) (answer r ∷ [])

  other_after : (i : ℕ) → (r.node ≡ i → ⊥)
      → holds a false (answers_of i (rs ++ r ∷ [])) ≡ holds a false (answers_of i rs)
  other_after i ne = ap (holds a false) (answers_of-push_other i rs r ne)

  -- where the node holds it afterwards just if it did before, so does each
  each_same : held_after a before (answer r) ≡ before → (i : ℕ)
      → holds a false (answers_of i (rs ++ r ∷ [])) ≡ holds a false (answers_of i rs)
  each_same e i =
      elim (cases_eq r.node i) [
        | inl same ↦
            subst
            (λ k. holds a false (answers_of k (rs ++ r ∷ [])) ≡ holds a false (answers_of k rs))
            same (own_after ∙ e)
        | inr ne ↦ other_after i ne
      ]

  word_now : word c new a ≡ word_after a (word c old a) r.call
  word_now =
      word_step c old new a r.call r.reply h s at w
      (may_whole a before r.call may) served

  keeps_state : held_after a before (answer r) ≡ before → word c new a ≡ word c old a
      → IsHeldOnce c a old rs → IsHeldOnce c a new (rs ++ r ∷ [])
  keeps_state same v (inl free) =
      inl (record { zero = v ∙ free.zero; none = λ i. each_same same i ∙ free.none i })
  keeps_state same v (inr held) =
      inr (
        held.0,
        record {
          one = v ∙ held.1.one;
          here = each_same same held.0 ∙ held.1.here;
          others = λ i ne. each_same same i ∙ held.1.others i ne;
        },
      )

  quiet : is_write_in a r.call ≡ false → IsHeldOnce c a old rs → IsHeldOnce c a new (rs ++ r ∷ [])
  quiet q =
      keeps_state (held_quiet a before (answer r) q)
      (word_now ∙ written_quiet a (word c old a) r.call q)

  module _ (inside : is_write_in a r.call ≡ true) where
    put_now : word c new a ≡ put_after (word c old a) (kind_of_call r.call)
    put_now =
        word_now
        ∙ ap (λ b. if b then put_after (word c old a) (kind_of_call r.call) else word c old a)
        inside

    held_now : held_after a before (answer r) ≡ held_by before (kind_of_call r.call) r.reply
    held_now = ap (λ b. if b then held_by before (kind_of_call r.call) r.reply else before) inside

    none_holds : held_after a before (answer r) ≡ false
        → ((i : ℕ) → (i ≡ r.node → ⊥) → holds a false (answers_of i rs) ≡ false) → (i : ℕ)
        → holds a false (answers_of i (rs ++ r ∷ [])) ≡ false
    none_holds out others i =
        elim (cases_eq i r.node) [
          | inl same ↦
              subst (λ k. holds a false (answers_of k (rs ++ r ∷ [])) ≡ false) (sym same)
              (own_after ∙ out)
          | inr ne ↦ other_after i (λ e. ne (sym e)) ∙ others i ne
        ]

    leaves : Leaves before (kind_of_call r.call) → IsHeldOnce c a old rs
        → IsHeldOnce c a new (rs ++ r ∷ [])
    leaves l (inl free) = absurd (both_ways before (free.none r.node) l.held)
    leaves l (inr held) =
        elim (cases_eq r.node held.0) [
          | inl same ↦
              inl (record {
                zero = put_now ∙ l.put (word c old a);
                none = none_holds (held_now ∙ l.out before r.reply)
                    (λ i ne. held.1.others i (λ e. ne (e ∙ sym same)));
              })
          | inr ne ↦ absurd (both_ways before (held.1.others r.node ne) l.held)
        ]

    found : Asks a (kind_of_call r.call) → (v : ℕ) → word c old a ≡ v → r.reply ≡ Value v
    found k v e = read_step c old new a r.call r.reply at k.reads served ∙ ap Value e

    asks : Asks a (kind_of_call r.call) → IsHeldOnce c a old rs → IsHeldOnce c a new (rs ++ r ∷ [])
    asks k (inl free) =
        inr (
          r.node,
          record {
            one = put_now ∙ ap (λ v. put_after v (kind_of_call r.call)) free.zero ∙ k.put;
            here =
                own_after ∙ held_now
                ∙ ap (held_by before (kind_of_call r.call)) (found k 0 free.zero) ∙ k.got before;
            others = λ i ne. other_after i (λ e. ne (sym e)) ∙ free.none i;
          },
        )
    asks k (inr held) =
        keeps_state
        (held_now ∙ ap (held_by before (kind_of_call r.call)) (found k 1 held.1.one)
        ∙ k.not_got before)
        (put_now ∙ ap (λ v. put_after v (kind_of_call r.call)) held.1.one ∙ k.still
        ∙ sym held.1.one)
        (inr held)

  step : (b : Bool) → is_write_in a r.call ≡ b → IsHeldOnce c a old rs
      → IsHeldOnce c a new (rs ++ r ∷ [])
  step false q = quiet q
  step true q =
      elim (asks_or_leaves a before (kind_of_call r.call) q (may q)) [
        | inl k ↦ asks q k
        | inr l ↦ leaves q l
      ]

  pub lock_step : IsHeldOnce c a old rs → IsHeldOnce c a new (rs ++ r ∷ [])
  lock_step = step (is_write_in a r.call) refl

-- the rule at a record, from what its node was answered in the order
pub may_write : (a : ℕ) (xs : List Record) (r : Record) (ys : List Record)
    → KeepsLock a false (answers_of r.node (xs ++ r ∷ ys))
    → MayWrite a (holds a false (answers_of r.node xs)) r.call
may_write a xs r ys k =
    keeps_at a false (answers_of r.node xs) (answer r) (answers_of r.node ys)
    (subst (KeepsLock a false) (answers_of-at xs r ys) k)

pub held_on : (c : Config) (a : ℕ) (old new : Memory) (xs ys : List Record)
    → LeadsThrough c old ys new
    → IsHeapWord c a
    → ((i : ℕ) → i < c.nodes → KeepsLock a false (answers_of i (xs ++ ys)))
    → IsHeldOnce c a old xs → IsHeldOnce c a new (xs ++ ys)
held_on c a old new xs [] run at rules here =
    subst (λ m. IsHeldOnce c a m (xs ++ [])) (sym run.led)
    (subst (IsHeldOnce c a old) (sym (append-nil xs)) here)
held_on c a old new xs (r ∷ rs) run at rules here =
    let made = run.led.1 in
    let sized =
    serves_sized c old run.led.0 r.call r.reply run.config made.width run.sized made.served in
    let next : IsHeldOnce c a run.led.0 (xs ++ r ∷ []) =
    lock_step c a old run.led.0 xs r run.config run.sized at made.width made.served
    (may_write a xs r rs (rules r.node made.node)) here in
    subst (IsHeldOnce c a new) (sym (one_more xs r rs))
    (held_on c a run.led.0 new (xs ++ r ∷ []) rs
    (record { config = run.config; sized = sized; led = run.led.2 }) at
    (λ i l. subst (λ all. KeepsLock a false (answers_of i all)) (one_more xs r rs) (rules i l))
    next)

-- at each point the lock is free or held by one
pub held_once : (c : Config) (old new : Memory) (before after : List Record) (a : ℕ)
    → LeadsThrough c old (before ++ after) new → IsHeapWord c a → word c old a ≡ 0
    → ((i : ℕ) → i < c.nodes → KeepsLock a false (answers_of i (before ++ after)))
    → (mid : Memory) × ServesAll c old before mid × ServesAll c mid after new
    × IsHeldOnce c a mid before
held_once c old new before after a run at zero rules =
    let w = leads_cut c old new before after run.led in (
      w.0,
      w.1,
      w.2,
      held_on c a old w.0 [] before
          (record { config = run.config; sized = run.sized; led = w.1 }) at
          (λ i l. keeps_front a false (answers_of i before) (answers_of i after)
          (subst (KeepsLock a false) (answers_of-append i before after) (rules i l)))
          (inl (record { zero = zero; none = λ i. refl })),
    )

pub one_holder : (c : Config) (a : ℕ) (m : Memory) (rs : List Record) → IsHeldOnce c a m rs
    → (i j : ℕ) → IsTrue (holds a false (answers_of i rs))
    → IsTrue (holds a false (answers_of j rs))
    → i ≡ j
one_holder c a m rs (inl free) i j p q =
    absurd (both_ways (holds a false (answers_of i rs)) (free.none i) p)
one_holder c a m rs (inr held) i j p q =
    elim (cases_eq i held.0) [
      | inl e ↦
          elim (cases_eq j held.0) [
            | inl f ↦ e ∙ sym f
            | inr ne ↦ absurd (both_ways (holds a false (answers_of j rs)) (held.1.others j ne) q)
          ]
      | inr ne ↦ absurd (both_ways (holds a false (answers_of i rs)) (held.1.others i ne) p)
    ]

pub mutual-exclusion : MutualExclusion
mutual-exclusion c old new before after a run at zero rules =
    let w = held_once c old new before after a run at zero rules in one_holder c a w.0 before w.3

pub left_locks-are_free : LeftLocksAreFree
left_locks-are_free c old new order a run at zero rules left =
    elim (held_on c a old new [] order run at rules
    (inl (record { zero = zero; none = λ i. refl }))) [
      | inl free ↦ free.zero
      | inr held ↦
          elim (cases_lt held.0 c.nodes) [
            | inl there ↦
                absurd (both_ways (holds a false (answers_of held.0 order)) (left held.0 there)
                held.1.here)
            | inr past ↦
                absurd (both_ways (holds a false (answers_of held.0 order))
                (ap (holds a false)
                (answers_of-nobody held.0 c.nodes order past (nodes_there c old new order run.led)))
                held.1.here)
          ]
    ]
