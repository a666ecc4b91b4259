-- An eventcount after some records is what it was and the number of its advances.
use Rattle.std.proofs.Common.{◌≡◌, ℕ, zero, suc, ◌+◌, ◌-◌, ◌^◌, ◌≤◌, inl, inr, Bool, true, false}
use Rattle.std.proofs.Common.{cond, List, [], ◌∷◌, ◌++◌, Some, refl, sym, ap, subst, ◌∙◌, arith}
use Rattle.std.specs.FinMap as map
use Rattle.std.specs.Prelude.{slice_get, slice_set, ◌==◌, Option, None}
use Rattle.std.specs.List.{AllByRecursion as Each}
use Rattle.std.proofs.lemmas.Bool.{both_ways, eq-eqb, eqb-true, eqb-false, cases_Bool}
use Rattle.std.proofs.lemmas.Option.{same_Some, none-some}
use Rattle.ivy_model.specs.declared.config.Config.{Config}
use Rattle.ivy_model.specs.declared.call.Call.TheVariants as call
use Rattle.ivy_model.specs.declared.call.CallKind.{CallKind}
use Rattle.ivy_model.specs.declared.call.CallKind.TheVariants.{Word, Count, Advance, Await, Alloc}
use Rattle.ivy_model.specs.declared.call.CallKind.TheVariants.{Free}
use Rattle.ivy_model.specs.declared.call.Record.{Record}
use Rattle.ivy_model.specs.declared.call.Reply.{Reply}
use Rattle.ivy_model.specs.declared.call.Reply.TheVariants.{Done, Refused, Value}
use Rattle.ivy_model.specs.stated.Accesses.{kind_of_call}
use Rattle.ivy_model.specs.stated.Explains.{part}
use Rattle.ivy_model.specs.stated.Memory.{Memory}
use Rattle.ivy_model.specs.stated.Serves.{Serves, ServesKind, access_refusal, with_written}
use Rattle.ivy_model.specs.stated.Legal.{ServesAll}
use Rattle.ivy_model.proofs.Sizes.{by_option, by_bool}
use Rattle.ivy_calls.specs.declared.answer.Answer.{Answer}
use Rattle.ivy_calls.specs.Answers.{answer, answers, answers_of}
use Rattle.ivy_sync.specs.meeting.Counts.{is_advance_of, is_advance_of_kind, raised, raised_kind}
use Rattle.ivy_sync.specs.meeting.Counts.{times_advanced}
use Rattle.ivy_sync.specs.meeting.Counts.{NoAdvance}
use Rattle.ivy_sync.specs.Doing.{arrives, passes}
use Rattle.ivy_sync.proofs.answers.Cuts.{OwnOr, leads_cut}
use Rattle.ivy_sync.proofs.answers.Lists.{All-append}
use Rattle.ivy_sync.proofs.answers.AnswerTotals.{tally, tally-append}

pub tally-times_advanced : (k : ℕ) (rs : List Answer) → tally (raised k) rs ≡ times_advanced k rs
tally-times_advanced k [] = refl
tally-times_advanced k (r ∷ rs) = ap (λ n. raised k r + n) (tally-times_advanced k rs)

one_most : (b : Bool) → cond b 1 0 ≤ 1
one_most true = omega arith
one_most false = omega arith

raised_kind_most : (k : ℕ) (kind : CallKind) (reply : Reply) → raised_kind k kind reply ≤ 1
raised_kind_most k (Advance j) Done = one_most (j == k)
raised_kind_most k (Advance j) (Value x) = omega arith
raised_kind_most k (Advance j) (Refused x) = omega arith
raised_kind_most k (Word width addr does) reply = omega arith
raised_kind_most k (Count j) reply = omega arith
raised_kind_most k (Await j least) reply = omega arith
raised_kind_most k (Alloc size) reply = omega arith
raised_kind_most k (Free addr) reply = omega arith

pub raised_most : (k : ℕ) (r : Answer) → raised k r ≤ 1
raised_most k r = raised_kind_most k (kind_of_call r.call) r.reply

raised_kind_none : (k : ℕ) (kind : CallKind) (reply : Reply) → is_advance_of_kind k kind ≡ false
    → raised_kind k kind reply ≡ 0
raised_kind_none k (Advance j) Done h = ap (λ b. cond b 1 0) h
raised_kind_none k (Advance j) (Value x) h = refl
raised_kind_none k (Advance j) (Refused x) h = refl
raised_kind_none k (Word width addr does) reply h = refl
raised_kind_none k (Count j) reply h = refl
raised_kind_none k (Await j least) reply h = refl
raised_kind_none k (Alloc size) reply h = refl
raised_kind_none k (Free addr) reply h = refl

-- a call that is no advance of k adds nothing
pub raised_none : (k : ℕ) (r : Answer) → is_advance_of k r.call ≡ false → raised k r ≡ 0
raised_none k r h = raised_kind_none k (kind_of_call r.call) r.reply h

pub none_raised : (k : ℕ) (rs : List Answer) → NoAdvance k rs → tally (raised k) rs ≡ 0
none_raised k [] h = refl
none_raised k (r ∷ rs) h =
    let here = raised_none k r h.0 in
    let rest = none_raised k rs h.1 in omega (arith, here, rest)

-- the sum up to a node's own advance
pub raised_once : (k : ℕ) (before : List Answer) → NoAdvance k before
    → tally (raised k) (before ++ arrives k ∷ []) ≡ 1
raised_once k before h =
    let none = none_raised k before h in
    let sum = tally-append (raised k) before (arrives k ∷ []) in
    let own : raised k (arrives k) ≡ 1 = ap (λ b. cond b 1 0) (eq-eqb k k refl) in
    omega (arith, none, sum, own)

-- where node i alone advances k, its answers alone tell how often
tally_step : (k i : ℕ) (r : Record) (rs : List Record) (b : Bool) → (r.node == i) ≡ b
    → OwnOr i (λ a. is_advance_of k a.call ≡ false) r
    → raised k (answer r) + tally (raised k) (answers_of i rs)
    ≡ tally (raised k) (answers (cond b (r ∷ part i rs) (part i rs)))
tally_step k i r rs true is h = refl
tally_step k i r rs false is (inl own) = absurd (both_ways (r.node == i) is (eq-eqb r.node i own))
tally_step k i r rs false is (inr quiet) =
    let none = raised_none k (answer r) quiet in omega (arith, none)

pub tally-part : (k i : ℕ) (rs : List Record)
    → Each (OwnOr i (λ a. is_advance_of k a.call ≡ false)) rs
    → tally (raised k) (answers rs) ≡ tally (raised k) (answers_of i rs)
tally-part k i [] h = refl
tally-part k i (r ∷ rs) h =
    ap (λ n. raised k (answer r) + n) (tally-part k i rs h.1)
    ∙ tally_step k i r rs (r.node == i) refl h.0

get_set_own : (ns : List ℕ) (k n v : ℕ) → slice_get ns k ≡ Some n
    → slice_get (slice_set ns k v) k ≡ Some v
get_set_own [] k n v e = absurd (none-some n e)
get_set_own (x ∷ xs) zero n v e = refl
get_set_own (x ∷ xs) (suc k) n v e = get_set_own xs k n v e

get_set_other : (ns : List ℕ) (j k v : ℕ) → (j ≡ k → ⊥)
    → slice_get (slice_set ns j v) k ≡ slice_get ns k
get_set_other [] j k v ne = refl
get_set_other (x ∷ xs) zero zero v ne = absurd (ne refl)
get_set_other (x ∷ xs) zero (suc k) v ne = refl
get_set_other (x ∷ xs) (suc j) zero v ne = refl
get_set_other (x ∷ xs) (suc j) (suc k) v ne = get_set_other xs j k v (λ e. ne (ap suc e))

-- the counts are the old ones
same_counts : (old new : Memory) (k n : ℕ) → new.counts ≡ old.counts
    → slice_get old.counts k ≡ Some n → slice_get new.counts k ≡ Some (n + 0)
same_counts old new k n same e =
    ap (λ ns. slice_get ns k) same ∙ e ∙ ap Some (let sum : n ≡ n + 0 = omega arith in sum)

same_memory : (old new : Memory) (k n : ℕ) → new ≡ old → slice_get old.counts k ≡ Some n
    → slice_get new.counts k ≡ Some (n + 0)
same_memory old new k n same e = same_counts old new k n (ap (λ m. m.counts) same) e

written_counts : (c : Config) (m : Memory) (width addr : ℕ) (next : Option ℕ)
    → (with_written c m width addr next).counts ≡ m.counts
written_counts c m width addr None = refl
written_counts c m width addr (Some value) = refl

advanced : (old new : Memory) (j k n m : ℕ) → slice_get old.counts j ≡ Some m
    → new.counts ≡ slice_set old.counts j (m + 1) → slice_get old.counts k ≡ Some n
    → slice_get new.counts k ≡ Some (n + cond (j == k) 1 0)
advanced old new j k n m found is e =
    elim (cases_Bool (j == k)) [
      | inl own ↦
          let same : j ≡ k = eqb-true j k own in
          let at : slice_get old.counts j ≡ Some n = ap (slice_get old.counts) same ∙ e in
          let sum : m + 1 ≡ n + 1 = ap (λ x. x + 1) (same_Some m n (sym found ∙ at)) in
          ap (λ ns. slice_get ns k) is ∙ ap (slice_get (slice_set old.counts j (m + 1))) (sym same)
          ∙ get_set_own old.counts j m (m + 1) found
          ∙ ap Some (sum ∙ ap (λ b. n + cond b 1 0) (sym own))
      | inr other ↦
          ap (λ ns. slice_get ns k) is
          ∙ get_set_other old.counts j k (m + 1) (eqb-false j k other) ∙ e
          ∙ ap Some (let sum : n ≡ n + 0 = omega arith in sum ∙ ap (λ b. n + cond b 1 0)
          (sym other))
    ]

refused_not_done : {G : Type 0} (x : ℕ) → Done ≡ Refused x → G
refused_not_done x e = absurd (cc)

kind_step : (c : Config) (old new : Memory) (k n : ℕ) (kind : CallKind) (reply : Reply)
    → ServesKind c old kind reply new → slice_get old.counts k ≡ Some n
    → slice_get new.counts k ≡ Some (n + raised_kind k kind reply)
kind_step c old new k n (Word width addr does) reply p e =
    by_option (access_refusal c width addr) p
    (λ _ x. same_counts old new k n (ap (λ m. m.counts) x.1 ∙ written_counts c old width addr _) e)
    (λ _ _ x. same_memory old new k n x.1 e)
kind_step c old new k n (Count j) reply p e =
    by_option (slice_get old.counts j) p (λ _ x. same_memory old new k n x.1 e)
    (λ _ _ x. same_memory old new k n x.1 e)
kind_step c old new k n (Advance j) Done p e =
    by_option (slice_get old.counts j) p (λ _ x. refused_not_done _ x.0)
    (λ m found x. by_bool (m == 2 ^ 64 - 1) x (λ _ y. refused_not_done _ y.0)
    (λ _ y. advanced old new j k n m found (ap (λ z. z.counts) y.1) e))
kind_step c old new k n (Advance j) (Value v) p e =
    by_option (slice_get old.counts j) p (λ _ x. same_memory old new k n x.1 e)
    (λ m found x. by_bool (m == 2 ^ 64 - 1) x (λ _ y. same_memory old new k n y.1 e)
    (λ _ y. absurd (cc (y.0))))
kind_step c old new k n (Advance j) (Refused v) p e =
    by_option (slice_get old.counts j) p (λ _ x. same_memory old new k n x.1 e)
    (λ m found x. by_bool (m == 2 ^ 64 - 1) x (λ _ y. same_memory old new k n y.1 e)
    (λ _ y. absurd (cc (y.0))))
kind_step c old new k n (Await j least) reply p e =
    by_option (slice_get old.counts j) p (λ _ x. same_memory old new k n x.1 e)
    (λ _ _ x. same_memory old new k n x.2 e)
kind_step c old new k n (Alloc size) (Value addr) p e =
    by_bool (size == 0) p (λ _ x. same_memory old new k n x.1 e)
    (λ _ x. same_counts old new k n (ap (λ m. m.counts) x.1) e)
kind_step c old new k n (Alloc size) Done p e =
    by_bool (size == 0) p (λ _ x. same_memory old new k n x.1 e) (λ _ x. absurd x)
kind_step c old new k n (Alloc size) (Refused code) p e =
    by_bool (size == 0) p (λ _ x. same_memory old new k n x.1 e)
    (λ _ x. same_memory old new k n x.2 e)
kind_step c old new k n (Free addr) reply p e =
    by_option (map.get old.blocks addr) p (λ _ x. same_memory old new k n x.1 e)
    (λ _ _ x. same_counts old new k n (ap (λ m. m.counts) x.1) e)

pub count_step : (c : Config) (old new : Memory) (k n : ℕ) (r : Answer)
    → Serves c old r.call r.reply new → slice_get old.counts k ≡ Some n
    → slice_get new.counts k ≡ Some (n + raised k r)
count_step c old new k n r p e = kind_step c old new k n (kind_of_call r.call) r.reply p e

pub counted : (c : Config) (old new : Memory) (k n : ℕ) (rs : List Record)
    → ServesAll c old rs new → slice_get old.counts k ≡ Some n
    → slice_get new.counts k ≡ Some (n + tally (raised k) (answers rs))
counted c old new k n [] led e = same_memory old new k n led e
counted c old new k n (r ∷ rs) led e =
    counted c led.0 new k (n + raised k (answer r)) rs led.2
    (count_step c old led.0 k n (answer r) led.1.served e)
    ∙ ap Some
    (let sum : n + raised k (answer r) + tally (raised k) (answers rs)
    ≡ n + (raised k (answer r) + tally (raised k) (answers rs)) =
    omega arith in sum)

-- an await that has its value found the count that it wants
pub awaited : (c : Config) (old new : Memory) (k n least found : ℕ)
    → Serves c old (call.Await k least) (Value found) new → slice_get old.counts k ≡ Some n
    → least ≤ n
awaited c old new k n least found p e =
    by_option (slice_get old.counts k) p (λ _ x. absurd (cc (x.0)))
    (λ m at x. let same : m ≡ n = same_Some m n (sym at ∙ e) in
    let le = x.0 in omega (arith, le, same))

-- and comes after so many advances of the one node that advances it
pub reached : (c : Config) (old mid : Memory) (xs : List Record) (r : Record) (ys : List Record)
    (k count least found i : ℕ) → answer r ≡ passes k least found
    → ServesAll c old (xs ++ r ∷ ys) mid → slice_get old.counts k ≡ Some count
    → Each (OwnOr i (λ a. is_advance_of k a.call ≡ false)) (xs ++ r ∷ ys)
    → least ≤ count + tally (raised k) (answers_of i xs)
reached c old mid xs r ys k count least found i is led at alone =
    let w = leads_cut c old mid xs (r ∷ ys) led in
    let there = counted c old w.0 k count xs w.1 at in
    let served : Serves c w.0 (call.Await k least) (Value found) w.2.0 =
    subst (λ (a : Answer). Serves c w.0 a.call a.reply w.2.0) is w.2.1.served in
    let wants = awaited c w.0 w.2.0 k (count + tally (raised k) (answers xs)) least found served
    there in
    let own =
    tally-part k i xs (All-append (OwnOr i (λ a. is_advance_of k a.call ≡ false)) xs (r ∷ ys)
    alone).0 in
    omega (arith, wants, own)
