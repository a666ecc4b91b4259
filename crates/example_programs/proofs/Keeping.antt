-- What a node writes that goes its rounds: of the wishes its own alone, and the turn only right after that.
use Rattle.std.proofs.Common.{◌≡◌, ◌≢◌, ℕ, zero, suc, ◌+◌, ◌-◌, ◌/◌, ◌<◌, inl, inr, Bool, true, false}
use Rattle.std.proofs.Common.{List, [], ◌∷◌, ◌++◌, refl, sym, subst, true≢false, arith}
use Rattle.std.specs.List.{AllByRecursion as Each}
use Rattle.std.proofs.lemmas.Bool.{both_ways}
use Rattle.ivy_model.specs.declared.config.Config.{Config}
use Rattle.ivy_calls.specs.declared.answer.Answer.{Answer}
use Rattle.ivy_sync.specs.meeting.Barriers.{least_of}
use Rattle.ivy_sync.specs.Doing.{arrives, loads, passes, stores}
use Rattle.ivy_sync.specs.HeapWords.{is_in, is_write_in, NoWrite}
use Rattle.ivy_sync.proofs.answers.Lists.{All-both, all_weaker}
use Rattle.ivy_sync.proofs.excluding.Locked.{in_own, in_other}
use Rattle.example_programs.specs.declared.peterson.Peterson.{Peterson}
use Rattle.example_programs.specs.declared.peterson.TwoCount.{TwoCount}
use Rattle.example_programs.specs.Peterson.{wish_of, IsTry, LetsIn, IsEntry, IsRound, AreRounds}
use Rattle.example_programs.specs.Peterson.{HasCounted, IsPetersonPlace}

-- each write in the word t comes right after one in the word a
abbrev pub Follows : ℕ → ℕ → Bool → List Answer → Type 0
Follows a t asked [] = Unit {0}
Follows a t asked (r ∷ rs) =
    (is_write_in t r.call ≡ true → asked ≡ true) × Follows a t (is_write_in a r.call) rs

-- whether the last answer is of such a one
abbrev pub asked_last : ℕ → Bool → List Answer → Bool
asked_last a asked [] = asked
asked_last a asked (r ∷ rs) = asked_last a (is_write_in a r.call) rs

pub asked_last-push : (a : ℕ) (asked : Bool) (xs : List Answer) (r : Answer)
    → asked_last a asked (xs ++ r ∷ []) ≡ is_write_in a r.call
asked_last-push a asked [] r = refl
asked_last-push a asked (x ∷ xs) r = asked_last-push a (is_write_in a x.call) xs r

follows_both : (a t : ℕ) (asked : Bool) (xs ys : List Answer) → Follows a t asked xs
    → ((b : Bool) → Follows a t b ys) → Follows a t asked (xs ++ ys)
follows_both a t asked [] ys f g = g asked
follows_both a t asked (x ∷ xs) ys f g =
    (f.0, follows_both a t (is_write_in a x.call) xs ys f.1 g)

pub follows_end : (a t : ℕ) (asked : Bool) (xs ys : List Answer) → Follows a t asked (xs ++ ys)
    → Follows a t (asked_last a asked xs) ys
follows_end a t asked [] ys f = f
follows_end a t asked (x ∷ xs) ys f = follows_end a t (is_write_in a x.call) xs ys f.1

pub follows_begin : (a t : ℕ) (asked : Bool) (xs ys : List Answer) → Follows a t asked (xs ++ ys)
    → Follows a t asked xs
follows_begin a t asked [] ys f = tt
follows_begin a t asked (x ∷ xs) ys f =
    (f.0, follows_begin a t (is_write_in a x.call) xs ys f.1)

quiet_follows : (a t : ℕ) (asked : Bool) (rs : List Answer) → NoWrite t rs → Follows a t asked rs
quiet_follows a t asked [] q = tt
quiet_follows a t asked (r ∷ rs) q = (
  λ w. absurd (both_ways (is_write_in t r.call) q.0 w),
  quiet_follows a t (is_write_in a r.call) rs q.1,
)

not_true : (b : Bool) → (b ≡ true → false ≡ true) → b ≡ false
not_true true h = absurd (true≢false (sym (h refl)))
not_true false h = refl

-- where nothing is written in the one, nothing is in the other
pub follows_quiet : (a t : ℕ) (rs : List Answer) → Follows a t false rs → NoWrite a rs
    → NoWrite t rs
follows_quiet a t [] f q = tt
follows_quiet a t (r ∷ rs) f q = (
  not_true (is_write_in t r.call) f.0,
  follows_quiet a t rs (subst (λ b. Follows a t b rs) q.0 f.1) q.1,
)

-- the words of a node: its own wish, the other one's, the turn and the sum
pub record AreApart (own other turn sum : ℕ) : Type 0 where
  pub own_turn : own / 8 ≢ turn / 8
  pub turn_own : turn / 8 ≢ own / 8
  pub sum_turn : sum / 8 ≢ turn / 8
  pub own_other : own / 8 ≢ other / 8
  pub turn_other : turn / 8 ≢ other / 8
  pub sum_other : sum / 8 ≢ other / 8
  pub sum_own : sum / 8 ≢ own / 8

abbrev pub Apart : TwoCount → ℕ → Type 0
Apart work me = AreApart (wish_of work.lock me) (wish_of work.lock (1 - me)) work.lock.turn work.sum

pub apart : (c : Config) (work : TwoCount) (me : ℕ) → IsPetersonPlace c work → me < 2 → Apart work me
apart c work zero place few = record {
  own_turn = λ e. place.turn_0 (sym e);
  turn_own = place.turn_0;
  sum_turn = place.sum_turn;
  own_other = place.wishes;
  turn_other = place.turn_1;
  sum_other = place.sum_1;
  sum_own = place.sum_0;
}
apart c work (suc zero) place few = record {
  own_turn = λ e. place.turn_1 (sym e);
  turn_own = place.turn_1;
  sum_turn = place.sum_turn;
  own_other = λ e. place.wishes (sym e);
  turn_other = place.turn_0;
  sum_other = place.sum_0;
  sum_own = place.sum_1;
}
apart c work (suc (suc n)) place few = absurd (omega (arith, few))

abbrev pub Quiet : ℕ → Answer → Type 0
Quiet a r = is_write_in a r.call ≡ false

-- what holds of each call of an entry holds of the whole, and of a round
pub record OfEntry (lock : Peterson) (me : ℕ) (Q : Answer → Type 0) : Type 0 where
  pub wish : Q (stores (wish_of lock me) 1)
  pub turn : Q (stores lock.turn (1 - me))
  pub sees_wish : (v : ℕ) → Q (loads (wish_of lock (1 - me)) v)
  pub sees_turn : (v : ℕ) → Q (loads lock.turn v)

pub record OfRound (work : TwoCount) (me : ℕ) (Q : Answer → Type 0) : Type 0 where
  pub entry : OfEntry work.lock me Q
  pub load : (v : ℕ) → Q (loads work.sum v)
  pub store : (v : ℕ) → Q (stores work.sum v)
  pub leave : Q (stores (wish_of work.lock me) 0)

module _ (lock : Peterson) (me : ℕ) (Q : Answer → Type 0)
    (sees_wish : (v : ℕ) → Q (loads (wish_of lock (1 - me)) v))
    (sees_turn : (v : ℕ) → Q (loads lock.turn v)) where
  try_is : (r : Answer) → IsTry lock me r → Q r
  try_is r (inl w) = subst Q (sym w.2) (sees_wish w.0)
  try_is r (inr w) = subst Q (sym w.2) (sees_turn w.0)

  last_is : (r : Answer) → LetsIn lock me r → Q r
  last_is r (inl e) = subst Q (sym e) (sees_wish 0)
  last_is r (inr e) = subst Q (sym e) (sees_turn me)

  tries_are : (entry : List Answer) (e : IsEntry lock me entry) → Each Q (e.tries ++ e.last ∷ [])
  tries_are entry e =
      All-both Q e.tries (e.last ∷ []) (all_weaker (IsTry lock me) Q try_is e.tries e.each)
      (last_is e.last e.lets_in, tt)

pub entry_all : (lock : Peterson) (me : ℕ) (Q : Answer → Type 0) → OfEntry lock me Q
    → (entry : List Answer) → IsEntry lock me entry → Each Q entry
entry_all lock me Q h entry e =
    subst (Each Q) (sym e.whole)
    (h.wish, (h.turn, tries_are lock me Q h.sees_wish h.sees_turn entry e))

pub last_quiet : (x : ℕ) (lock : Peterson) (me : ℕ) (r : Answer) → LetsIn lock me r
    → is_write_in x r.call ≡ false
last_quiet x lock me r e = last_is lock me (Quiet x) (λ v. refl) (λ v. refl) r e

-- tries write nothing
pub tries_quiet : (x : ℕ) (lock : Peterson) (me : ℕ) (entry : List Answer)
    (e : IsEntry lock me entry) → NoWrite x (e.tries ++ e.last ∷ [])
tries_quiet x lock me entry e = tries_are lock me (Quiet x) (λ v. refl) (λ v. refl) entry e

module _ (work : TwoCount) (me : ℕ) (Q : Answer → Type 0) (h : OfRound work me Q) where
  pub round_all : (round : List Answer) → IsRound work me round → Each Q round
  round_all round r =
      subst (Each Q) (sym r.whole)
      (All-both Q r.entry
      (loads work.sum r.sum ∷ stores work.sum (r.sum + 1) ∷ stores (wish_of work.lock me) 0 ∷ [])
      (entry_all work.lock me Q h.entry r.entry r.entered)
      (h.load r.sum, (h.store (r.sum + 1), (h.leave, tt))))

  pub rounds_all : (n : ℕ) (rs : List Answer) → AreRounds work me n rs → Each Q rs
  rounds_all zero rs are = subst (Each Q) (sym are) tt
  rounds_all (suc n) rs are =
      subst (Each Q) (sym are.2)
      (All-both Q are.0 are.1 (rounds_all n are.0 are.3) (round_all are.1 are.4))

module _ (work : TwoCount) (me : ℕ) (h : Apart work me) where
  abbrev own : ℕ
  own = wish_of work.lock me

  abbrev other : ℕ
  other = wish_of work.lock (1 - me)

  abbrev turn : ℕ
  turn = work.lock.turn

  entry_follows : (entry : List Answer) → IsEntry work.lock me entry → (asked : Bool)
      → Follows own turn asked entry
  entry_follows entry e asked =
      subst (Follows own turn asked) (sym e.whole) (
        λ w. absurd (both_ways (is_in turn own) (in_other turn own h.own_turn) w),
        (
          λ _. in_own own,
          quiet_follows own turn (is_in own turn) (e.tries ++ e.last ∷ [])
              (tries_quiet turn work.lock me entry e),
        ),
      )

  round_follows : (round : List Answer) → IsRound work me round → (asked : Bool)
      → Follows own turn asked round
  round_follows round r asked =
      subst (Follows own turn asked) (sym r.whole)
      (follows_both own turn asked r.entry
      (loads work.sum r.sum ∷ stores work.sum (r.sum + 1) ∷ stores own 0 ∷ [])
      (entry_follows r.entry r.entered asked)
      (λ b. quiet_follows own turn b
      (loads work.sum r.sum ∷ stores work.sum (r.sum + 1) ∷ stores own 0 ∷ [])
      (refl, (in_other turn work.sum h.sum_turn, (in_other turn own h.own_turn, tt)))))

  rounds_follow : (n : ℕ) (rs : List Answer) → AreRounds work me n rs → Follows own turn false rs
  rounds_follow zero rs are = subst (Follows own turn false) (sym are) tt
  rounds_follow (suc n) rs are =
      subst (Follows own turn false) (sym are.2)
      (follows_both own turn false are.0 are.1 (rounds_follow n are.0 are.3)
      (round_follows are.1 are.4))

  -- and so it does whose rounds are over
  abbrev met : ℕ → ℕ → List Answer
  met found out =
      passes work.barrier.count (least_of work.barrier) found ∷ loads work.sum out ∷ []

  pub counted_follows : (rs : List Answer) (out : ℕ) → HasCounted work me rs out
      → Follows own turn false rs
  counted_follows rs out d =
      subst (Follows own turn false) (sym d.whole)
      (follows_both own turn false (d.rounds ++ arrives work.barrier.count ∷ []) (met d.found out)
      (follows_both own turn false d.rounds (arrives work.barrier.count ∷ [])
      (rounds_follow work.times d.rounds d.are)
      (λ b. quiet_follows own turn b (arrives work.barrier.count ∷ []) (refl, tt)))
      (λ b. quiet_follows own turn b (met d.found out) (refl, (refl, tt))))

  pub counted_other : (rs : List Answer) (out : ℕ) → HasCounted work me rs out → NoWrite other rs
  counted_other rs out d =
      subst (NoWrite other) (sym d.whole)
      (All-both (Quiet other) (d.rounds ++ arrives work.barrier.count ∷ []) (met d.found out)
      (All-both (Quiet other) d.rounds (arrives work.barrier.count ∷ [])
      (rounds_all work me (Quiet other) (record {
        entry = record {
          wish = in_other other own h.own_other;
          turn = in_other other turn h.turn_other;
          sees_wish = λ v. refl;
          sees_turn = λ v. refl;
        };
        load = λ v. refl;
        store = λ v. in_other other work.sum h.sum_other;
        leave = in_other other own h.own_other;
      }) work.times d.rounds d.are)
      (refl, tt))
      (refl, (refl, tt)))
