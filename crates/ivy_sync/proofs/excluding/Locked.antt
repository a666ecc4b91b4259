-- What the calls of this library do to a lock, and to the sections of its node.
use Rattle.std.proofs.Common.{◌≡◌, ℕ, ◌+◌, ◌*◌, ◌/◌, ◌<◌, Bool, true, false, cond, IsTrue, List, []}
use Rattle.std.proofs.Common.{if◌then◌else◌, ◌∷◌, ◌++◌, map, length, refl, sym, ap, ap₂, subst, ◌∙◌}
use Rattle.std.proofs.Common.{true≢false, arith}
use Rattle.std.specs.Prelude.{◌==◌}
use Rattle.std.specs.List.{AllByRecursion as Each, filter}
use Rattle.std.proofs.lemmas.Bool.{both_ways, eq-eqb, ne_eqb, eqb-true}
use Rattle.ivy_model.specs.declared.call.Call.{Call}
use Rattle.ivy_model.specs.declared.call.Call.TheVariants.{Store, Swap}
use Rattle.ivy_model.specs.declared.call.CallKind.{CallKind}
use Rattle.ivy_model.specs.declared.call.CallKind.TheVariants.{Word, Count, Advance, Await, Alloc}
use Rattle.ivy_model.specs.declared.call.CallKind.TheVariants.{Free}
use Rattle.ivy_model.specs.stated.Accesses.{kind_of_call}
use Rattle.ivy_calls.specs.declared.answer.Answer.{Answer}
use Rattle.ivy_sync.specs.Doing.{AsksInVain, asks, stores}
use Rattle.ivy_sync.specs.HeapWords.{is_in, puts, is_access_in, is_access_in_kind, is_write_in}
use Rattle.ivy_sync.specs.HeapWords.{is_write_in_kind}
use Rattle.ivy_sync.specs.HeapWords.{NoWrite}
use Rattle.ivy_sync.specs.excluding.Locks.{held_after, holds, MayWrite, KeepsLock}
use Rattle.ivy_sync.specs.excluding.Sections.{KeepsGuard, onto_first, sections, turns_of}
use Rattle.ivy_sync.proofs.excluding.Locks.{held_quiet, keeps_both, may_quiet}
use Rattle.ivy_sync.specs.meeting.Sums.{sum_up_to}
use Rattle.ivy_sync.proofs.answers.AnswerTotals.{sum_up_to-add, sum_up_to-same, sum_up_to-zero, total_one}

pub in_own : (a : ℕ) → is_in a a ≡ true
in_own a = eq-eqb (a / 8) (a / 8) refl

pub in_other : (a s : ℕ) → (s / 8 ≡ a / 8 → ⊥) → is_in a s ≡ false
in_other a s apart = ne_eqb (s / 8) (a / 8) apart

-- a call that writes in one word is no access to another
apart_kind : (a s : ℕ) (kind : CallKind) → (s / 8 ≡ a / 8 → ⊥) → is_write_in_kind a kind ≡ true
    → is_access_in_kind s kind ≡ false
apart_kind a s (Word width addr does) apart w =
    ne_eqb (addr / 8) (s / 8) (λ e. apart (sym e ∙ eqb-true (addr / 8) (a / 8)
    (inside (puts does) (is_in a addr) w)))
  where
    inside : (p i : Bool) → (if p then i else false) ≡ true → i ≡ true
    inside true i w = w
    inside false i w = absurd (true≢false (sym w))
apart_kind a s (Count j) apart w = absurd (true≢false (sym w))
apart_kind a s (Advance j) apart w = absurd (true≢false (sym w))
apart_kind a s (Await j least) apart w = absurd (true≢false (sym w))
apart_kind a s (Alloc size) apart w = absurd (true≢false (sym w))
apart_kind a s (Free addr) apart w = absurd (true≢false (sym w))

pub apart_access : (a s : ℕ) (call : Call) → (s / 8 ≡ a / 8 → ⊥) → IsTrue (is_write_in a call)
    → is_access_in s call ≡ false
apart_access a s call apart w = apart_kind a s (kind_of_call call) apart w

-- an answer other than 0 gives nobody the lock, and 0 does
pub after_refusal : (a found : ℕ) → (found ≡ 0 → ⊥)
    → held_after a false (asks a found) ≡ false
after_refusal a found ne =
    ap (λ b. if b then (if found == 0 then true else false) else false) (in_own a)
    ∙ ap (λ b. if b then true else false) (ne_eqb found 0 ne)

pub after_taking : (a : ℕ) → held_after a false (asks a 0) ≡ true
after_taking a = ap (λ b. if b then true else false) (in_own a)

pub after_leaving : (a value : ℕ) (h : Bool) → held_after a h (stores a value) ≡ false
after_leaving a value h = ap (λ b. if b then false else h) (in_own a)

pub after_other : (a s value : ℕ) (h : Bool) → (s / 8 ≡ a / 8 → ⊥)
    → held_after a h (stores s value) ≡ h
after_other a s value h apart = ap (λ b. if b then false else h) (in_other a s apart)

pub by_refusals : (a : ℕ) (P : Answer → Type 0) → ((found : ℕ) → P (asks a found))
    → (rs : List Answer) → Each (AsksInVain a) rs → Each P rs
by_refusals a P h [] each = tt
by_refusals a P h (r ∷ rs) each =
    (subst P (sym each.0.is) (h each.0.found), by_refusals a P h rs each.1)

refusal_after : (a : ℕ) (r : Answer) → AsksInVain a r → held_after a false r ≡ false
refusal_after a r h =
    ap (held_after a false) h.is ∙ after_refusal a h.found h.taken

pub refusals_hold : (a : ℕ) (rs : List Answer) → Each (AsksInVain a) rs
    → holds a false rs ≡ false
refusals_hold a [] each = refl
refusals_hold a (r ∷ rs) each =
    ap (λ h. holds a h rs) (refusal_after a r each.0) ∙ refusals_hold a rs each.1

pub refusals_keep : (a : ℕ) (rs : List Answer) → Each (AsksInVain a) rs → KeepsLock a false rs
refusals_keep a [] each = tt
refusals_keep a (r ∷ rs) each = (
  subst (λ (q : Answer). MayWrite a false q.call) (sym each.0.is) (λ t. (refl, refl, refl)),
  subst (λ h. KeepsLock a h rs) (sym (refusal_after a r each.0)) (refusals_keep a rs each.1),
)

pub guards_both : (a : ℕ) (guarded : Call → Bool) (h : Bool) (xs ys : List Answer)
    → KeepsGuard a guarded h xs → KeepsGuard a guarded (holds a h xs) ys
    → KeepsGuard a guarded h (xs ++ ys)
guards_both a guarded h [] ys k l = l
guards_both a guarded h (x ∷ xs) ys k l =
    (k.0, guards_both a guarded (held_after a h x) xs ys k.1 l)

-- records of which none is guarded keep every guard
pub unguarded_keep : (a : ℕ) (guarded : Call → Bool) (h : Bool) (rs : List Answer)
    → Each (λ (r : Answer). guarded r.call ≡ false) rs → KeepsGuard a guarded h rs
unguarded_keep a guarded h [] none = tt
unguarded_keep a guarded h (r ∷ rs) none = (
  λ t. absurd (both_ways (guarded r.call) none.0 t),
  unguarded_keep a guarded (held_after a h r) rs none.1,
)

-- the sections, a record at a time
pub sections-cons : (a : ℕ) (guarded : Call → Bool) (h later is : Bool) (r : Answer)
    (rs : List Answer) → held_after a h r ≡ later → guarded r.call ≡ is
    → sections a guarded h (r ∷ rs)
    ≡ (if h
    then (if later
    then (if is then onto_first r (sections a guarded later rs) else sections a guarded later rs)
    else [] ∷ sections a guarded later rs)
    else sections a guarded later rs)
sections-cons a guarded h later is r rs e f =
    ap₂
    (λ (d : Bool) (g : Bool).
    if h then (if d then (if g then onto_first r (sections a guarded d rs) else sections a guarded
    d rs) else [] ∷ sections a guarded d rs) else sections a guarded d rs)
    e f

pub sections-refusals : (a : ℕ) (guarded : Call → Bool) (rs ys : List Answer)
    → Each (AsksInVain a) rs
    → sections a guarded false (rs ++ ys) ≡ sections a guarded false ys
sections-refusals a guarded [] ys each = refl
sections-refusals a guarded (r ∷ rs) ys each =
    ap (λ h. sections a guarded h (rs ++ ys)) (refusal_after a r each.0)
    ∙ sections-refusals a guarded rs ys each.1

-- what holds of each node's turns holds of all
head_turn : (P : ℕ → List Answer → Type 0) (t : ℕ × List Answer) (ts : List (ℕ × List Answer))
    (b : Bool) → b ≡ true
    → Each (P t.0) (map (λ (u : ℕ × List Answer). u.1) (if b then t ∷ ts else ts)) → P t.0 t.1
head_turn P t ts true is h = h.0
head_turn P t ts false is h = absurd (true≢false (sym is))

rest_turns : (P : ℕ → List Answer → Type 0) (i : ℕ) (t : ℕ × List Answer)
    (ts : List (ℕ × List Answer)) (b : Bool)
    → Each (P i) (map (λ (u : ℕ × List Answer). u.1) (if b then t ∷ ts else ts))
    → Each (P i) (map (λ (u : ℕ × List Answer). u.1) ts)
rest_turns P i t ts true h = h.1
rest_turns P i t ts false h = h

pub all_turns : (P : ℕ → List Answer → Type 0) (turns : List (ℕ × List Answer))
    → ((i : ℕ) → Each (P i) (turns_of i turns)) → Each (λ (t : ℕ × List Answer). P t.0 t.1) turns
all_turns P [] h = tt
all_turns P (t ∷ ts) h = (
  head_turn P t (filter (λ (u : ℕ × List Answer). u.0 == t.0) ts) (t.0 == t.0) (eq-eqb t.0 t.0
      refl) (h t.0),
  all_turns P ts (λ i. rest_turns P i t (filter (λ (u : ℕ × List Answer). u.0 == i) ts) (t.0 == i)
      (h i)),
)

-- a sum over all turns, by their nodes
abbrev pub turn_sum : (ℕ → ℕ) → List (ℕ × List Answer) → ℕ
turn_sum f [] = 0
turn_sum f (t ∷ ts) = f t.0 + turn_sum f ts

one_turn : (f : ℕ → ℕ) (i : ℕ) (t : ℕ × List Answer) (ts : List (ℕ × List Answer)) (b : Bool)
    → (t.0 == i) ≡ b
    → f i * length (map (λ (u : ℕ × List Answer). u.1) (if b then t ∷ ts else ts))
    ≡ cond b (f t.0) 0 + f i * length (map (λ (u : ℕ × List Answer). u.1) ts)
one_turn f i t ts true is =
    let same : f t.0 ≡ f i = ap f (eqb-true t.0 i is) in
    let more : f i * (length (map (λ (u : ℕ × List Answer). u.1) ts) + 1) ≡ f i + f i * length
    (map (λ (u : ℕ × List Answer). u.1) ts) = grind arith in
    let len : length (t.1 ∷ map (λ (u : ℕ × List Answer). u.1) ts) ≡ length
    (map (λ (u : ℕ × List Answer). u.1) ts) + 1 = omega arith in
    ap (λ n. f i * n) len ∙ more ∙ ap (λ x. x + f i * length (map (λ (u : ℕ × List Answer). u.1)
    ts)) (sym same)
one_turn f i t ts false is = omega arith

pub turn_sum-sum_up_to : (f : ℕ → ℕ) (n : ℕ) (turns : List (ℕ × List Answer))
    → Each (λ (t : ℕ × List Answer). t.0 < n) turns
    → turn_sum f turns ≡ sum_up_to (λ i. f i * length (turns_of i turns)) n
turn_sum-sum_up_to f n [] h =
    sym (sum_up_to-same (λ i. f i * 0) (λ _. 0) n (λ i _. grind arith) ∙ sum_up_to-zero n)
turn_sum-sum_up_to f n (t ∷ ts) h =
    sym (sum_up_to-same (λ i. f i * length (turns_of i (t ∷ ts)))
    (λ i. cond (t.0 == i) (f t.0) 0 + f i * length (turns_of i ts)) n
    (λ i _. one_turn f i t (filter (λ (u : ℕ × List Answer). u.0 == i) ts) (t.0 == i) refl)
    ∙ sum_up_to-add (λ i. cond (t.0 == i) (f t.0) 0) (λ i. f i * length (turns_of i ts)) n
    ∙ ap₂ (λ (x : ℕ) (y : ℕ). x + y) (total_one t.0 (f t.0) n h.0) (sym (turn_sum-sum_up_to f n ts
    h.1)))

-- what a node does that takes the lock at a, does this, and leaves the lock
abbrev pub locked : ℕ → List Answer → List Answer → List Answer → List Answer
locked a refusals body rest = refusals ++ (asks a 0 ∷ (body ++ stores a 0 ∷ rest))

inside_keeps : (a : ℕ) (body rest : List Answer) → NoWrite a body → KeepsLock a true rest
    → KeepsLock a true (body ++ rest)
inside_keeps a [] rest quiet k = k
inside_keeps a (r ∷ body) rest quiet k = (
  may_quiet a true r.call quiet.0,
  subst (λ h. KeepsLock a h (body ++ rest)) (sym (held_quiet a true r quiet.0))
      (inside_keeps a body rest quiet.1 k),
)

inside_guards : (a : ℕ) (guarded : Call → Bool) (body rest : List Answer) → NoWrite a body
    → KeepsGuard a guarded true rest → KeepsGuard a guarded true (body ++ rest)
inside_guards a guarded [] rest quiet k = k
inside_guards a guarded (r ∷ body) rest quiet k = (
  λ t. refl,
  subst (λ h. KeepsGuard a guarded h (body ++ rest)) (sym (held_quiet a true r quiet.0))
      (inside_guards a guarded body rest quiet.1 k),
)

one_more_in : (guarded : Call → Bool) (r : Answer) (body : List Answer) (rest : List (List Answer))
    (is : Bool)
    → (if is then onto_first r (filter (λ (q : Answer). guarded q.call) body ∷ rest) else filter
    (λ (q : Answer). guarded q.call) body ∷ rest)
    ≡ (if is then r ∷ filter (λ (q : Answer). guarded q.call) body else filter (λ (q : Answer).
    guarded q.call) body)
    ∷ rest
one_more_in guarded r body rest true = refl
one_more_in guarded r body rest false = refl

inside_sections : (a : ℕ) (guarded : Call → Bool) (body rest : List Answer) → NoWrite a body
    → guarded (Store 8 a 0) ≡ false
    → sections a guarded true (body ++ stores a 0 ∷ rest)
    ≡ filter (λ (q : Answer). guarded q.call) body ∷ sections a guarded false rest
inside_sections a guarded [] rest quiet none =
    sections-cons a guarded true false false (stores a 0) rest (after_leaving a 0 true) none
inside_sections a guarded (r ∷ body) rest quiet none =
    sections-cons a guarded true true (guarded r.call) r (body ++ stores a 0 ∷ rest)
    (held_quiet a true r quiet.0) refl
    ∙ ap (λ (ss : List (List Answer)). if guarded r.call then onto_first r ss else ss)
    (inside_sections a guarded body rest quiet.1 none)
    ∙ one_more_in guarded r body (sections a guarded false rest) (guarded r.call)

module _ (a : ℕ) (refusals : List Answer) (each : Each (AsksInVain a) refusals)
    (body rest : List Answer) (quiet : NoWrite a body) where
  -- it keeps the rules of the lock
  pub locked_keeps : KeepsLock a false rest → KeepsLock a false (locked a refusals body rest)
  locked_keeps k =
      keeps_both a false refusals (asks a 0 ∷ (body ++ stores a 0 ∷ rest))
      (refusals_keep a refusals each)
      (subst (λ h. KeepsLock a h (asks a 0 ∷ (body ++ stores a 0 ∷ rest)))
      (sym (refusals_hold a refusals each)) (
        λ t. (refl, refl, refl),
        subst (λ h. KeepsLock a h (body ++ stores a 0 ∷ rest)) (sym (after_taking a))
            (inside_keeps a body (stores a 0 ∷ rest) quiet (
              λ t. (refl, refl, (refl, refl)),
              subst (λ h. KeepsLock a h rest) (sym (after_leaving a 0 true)) k,
            )),
      ))

  module _ (guarded : Call → Bool)
      (apart : (call : Call) → IsTrue (is_write_in a call) → guarded call ≡ false) where
    unguarded : Each (λ (r : Answer). guarded r.call ≡ false) refusals
    unguarded =
        by_refusals a (λ (r : Answer). guarded r.call ≡ false) (λ _. apart (Swap 8 a 1)
        (in_own a)) refusals
        each

    -- all that it guards is done inside
    pub locked_guards : KeepsGuard a guarded false rest
        → KeepsGuard a guarded false (locked a refusals body rest)
    locked_guards k =
        guards_both a guarded false refusals (asks a 0 ∷ (body ++ stores a 0 ∷ rest))
        (unguarded_keep a guarded false refusals unguarded)
        (subst (λ h. KeepsGuard a guarded h (asks a 0 ∷ (body ++ stores a 0 ∷ rest)))
        (sym (refusals_hold a refusals each)) (
          λ t. absurd (both_ways (guarded (Swap 8 a 1)) (apart (Swap 8 a 1) (in_own a)) t),
          subst (λ h. KeepsGuard a guarded h (body ++ stores a 0 ∷ rest)) (sym (after_taking a))
              (inside_guards a guarded body (stores a 0 ∷ rest) quiet (
                λ t. refl,
                subst (λ h. KeepsGuard a guarded h rest) (sym (after_leaving a 0 true)) k,
              )),
        ))

    -- and it is one critical section
    pub locked_sections : sections a guarded false (locked a refusals body rest)
        ≡ filter (λ (r : Answer). guarded r.call) body ∷ sections a guarded false rest
    locked_sections =
        sections-refusals a guarded refusals (asks a 0 ∷ (body ++ stores a 0 ∷ rest)) each
        ∙ sections-cons a guarded false true (guarded (Swap 8 a 1)) (asks a 0)
        (body ++ stores a 0 ∷ rest) (after_taking a) refl
        ∙ inside_sections a guarded body rest quiet (apart (Store 8 a 0) (in_own a))
