-- How a node that goes its rounds gets at the sum: inside alone, and it stores one more than it has just loaded.
use Rattle.std.proofs.Common.{◌≡◌, ℕ, zero, suc, ◌+◌, ◌-◌, ◌/◌, ◌^◌, ◌<◌, ◌⊎◌, inl, inr, false, cond}
use Rattle.std.proofs.Common.{List, [], ◌∷◌, ◌++◌, refl, sym, ap, subst, ◌∙◌, append_assoc, append-nil}
use Rattle.std.proofs.Common.{arith}
use Rattle.std.specs.List.{AllByRecursion as Each}
use Rattle.ivy_calls.specs.declared.answer.Answer.{Answer}
use Rattle.ivy_sync.specs.meeting.Counts.{is_advance_of, NoAdvance}
use Rattle.ivy_sync.specs.Doing.{loads, stores}
use Rattle.ivy_sync.specs.HeapWords.{is_access_in, is_write_in, IsWhole, NoWrite}
use Rattle.ivy_sync.proofs.answers.Lists.{All-both, one_more}
use Rattle.ivy_sync.proofs.excluding.Locked.{in_own, in_other}
use Rattle.ivy_sync.proofs.answers.AnswerTotals.{tally, tally-append}
use Rattle.ivy_sync.proofs.answers.HeapWords.{whole_quiet}
use Rattle.example_programs.specs.declared.peterson.Peterson.{Peterson}
use Rattle.example_programs.specs.declared.peterson.TwoCount.{TwoCount}
use Rattle.example_programs.specs.Peterson.{wish_of, IsEntry, IsInside, IsRound, AreRounds}
use Rattle.example_programs.proofs.Keeping.{Apart, Quiet, entry_all, rounds_all}

-- each answer may come where it does, after those before it
abbrev pub AtEach : (List Answer → Answer → Type 0) → List Answer → List Answer → Type 0
AtEach P before [] = Unit {0}
AtEach P before (r ∷ rs) = P before r × AtEach P (before ++ r ∷ []) rs

pub at_both : (P : List Answer → Answer → Type 0) (us xs ys : List Answer) → AtEach P us xs
    → AtEach P (us ++ xs) ys → AtEach P us (xs ++ ys)
at_both P us [] ys h k = subst (λ l. AtEach P l ys) (append-nil us) k
at_both P us (x ∷ xs) ys h k =
    (h.0, at_both P (us ++ x ∷ []) xs ys h.1 (subst (λ l. AtEach P l ys) (one_more us x xs) k))

pub at_one : (P : List Answer → Answer → Type 0) (us xs : List Answer) (r : Answer)
    (ys : List Answer) → AtEach P us (xs ++ r ∷ ys) → P (us ++ xs) r
at_one P us [] r ys h = subst (λ l. P l r) (sym (append-nil us)) h.0
at_one P us (x ∷ xs) r ys h =
    subst (λ l. P l r) (sym (one_more us x xs)) (at_one P (us ++ x ∷ []) xs r ys h.1)

-- the sum is loaded inside
pub record LoadsInside (work : TwoCount) (me : ℕ) (before : List Answer) (r : Answer) : Type 0 where
  pub sum : ℕ
  pub is : r ≡ loads work.sum sum
  pub inside : IsInside work.lock me before

-- or one more is stored inside, right after it was loaded
pub record StoresInside (work : TwoCount) (me : ℕ) (before : List Answer) (r : Answer) : Type 0
  where
    pub sum : ℕ
    pub is : r ≡ stores work.sum (sum + 1)
    pub fits : sum + 1 < 2 ^ 64
    pub earlier : List Answer
    pub after : before ≡ earlier ++ loads work.sum sum ∷ []
    pub inside : IsInside work.lock me before

abbrev pub Accesses : TwoCount → ℕ → List Answer → Answer → Type 0
Accesses work me before r =
    (is_access_in work.sum r.call ≡ false)
    ⊎ (LoadsInside work me before r ⊎ StoresInside work me before r)

none_at : (work : TwoCount) (me : ℕ) (us rs : List Answer)
    → Each (λ (r : Answer). is_access_in work.sum r.call ≡ false) rs
    → AtEach (Accesses work me) us rs
none_at work me us [] h = tt
none_at work me us (r ∷ rs) h = (inl h.0, none_at work me (us ++ r ∷ []) rs h.1)

-- one stays inside by what writes nothing
pub stays_inside : (lock : Peterson) (me : ℕ) (before : List Answer) (a v : ℕ)
    → IsInside lock me before → IsInside lock me (before ++ loads a v ∷ [])
stays_inside lock me before a v h = record {
  earlier = h.earlier;
  entry = h.entry;
  since = h.since ++ loads a v ∷ [];
  whole =
      ap (λ (l : List Answer). l ++ loads a v ∷ []) h.whole
      ∙ append_assoc h.earlier (h.entry ++ h.since) (loads a v ∷ [])
      ∙ ap (λ (l : List Answer). h.earlier ++ l) (append_assoc h.entry h.since (loads a v ∷ []));
  entered = h.entered;
  stays = All-both (Quiet (wish_of lock me)) h.since (loads a v ∷ []) h.stays (refl, tt);
}

just_inside : (lock : Peterson) (me : ℕ) (us entry : List Answer) → IsEntry lock me entry
    → IsInside lock me (us ++ entry)
just_inside lock me us entry e = record {
  earlier = us;
  entry = entry;
  since = [];
  whole = ap (λ (l : List Answer). us ++ l) (sym (append-nil entry));
  entered = e;
  stays = tt;
}

-- 1 where the sum is written
abbrev pub adds : TwoCount → Answer → ℕ
adds work r = cond (is_write_in work.sum r.call) 1 0

none_added : (work : TwoCount) (rs : List Answer) → NoWrite work.sum rs → tally (adds work) rs ≡ 0
none_added work [] h = refl
none_added work (r ∷ rs) h =
    let none : adds work r ≡ 0 = ap (λ b. cond b 1 0) h.0 in
    let e = none_added work rs h.1 in omega (arith, none, e)

module _ (work : TwoCount) (me : ℕ) (h : Apart work me) where
  abbrev own : ℕ
  own = wish_of work.lock me

  abbrev last_of : ℕ → List Answer
  last_of sum = loads work.sum sum ∷ stores work.sum (sum + 1) ∷ stores own 0 ∷ []

  round_at : (us round : List Answer) → IsRound work me round → AtEach (Accesses work me) us round
  round_at us round r =
      let inside = just_inside work.lock me us r.entry r.entered in
      subst (AtEach (Accesses work me) us) (sym r.whole)
      (at_both (Accesses work me) us r.entry (last_of r.sum)
      (none_at work me us r.entry (entry_all work.lock me
      (λ (q : Answer). is_access_in work.sum q.call ≡ false) (record {
        wish = in_other work.sum own (λ e. h.sum_own (sym e));
        turn = in_other work.sum work.lock.turn (λ e. h.sum_turn (sym e));
        sees_wish = λ v. in_other work.sum (wish_of work.lock (1 - me)) (λ e. h.sum_other (sym e));
        sees_turn = λ v. in_other work.sum work.lock.turn (λ e. h.sum_turn (sym e));
      }) r.entry r.entered)) (
        inr (inl (record { sum = r.sum; is = refl; inside = inside })),
        (
          inr (inr (record {
            sum = r.sum;
            is = refl;
            fits = r.fits;
            earlier = us ++ r.entry;
            after = refl;
            inside = stays_inside work.lock me (us ++ r.entry) work.sum r.sum inside;
          })),
          (inl (in_other work.sum own (λ e. h.sum_own (sym e))), tt),
        ),
      ))

  pub rounds_at : (n : ℕ) (rs : List Answer) → AreRounds work me n rs
      → AtEach (Accesses work me) [] rs
  rounds_at zero rs are = subst (AtEach (Accesses work me) []) (sym are) tt
  rounds_at (suc n) rs are =
      subst (AtEach (Accesses work me) []) (sym are.2)
      (at_both (Accesses work me) [] are.0 are.1 (rounds_at n are.0 are.3)
      (round_at are.0 are.1 are.4))

  -- it stores the sum once a round
  round_adds : (round : List Answer) → IsRound work me round → tally (adds work) round ≡ 1
  round_adds round r =
      let entry : tally (adds work) r.entry ≡ 0 =
      none_added work r.entry (entry_all work.lock me (Quiet work.sum) (record {
        wish = in_other work.sum own (λ e. h.sum_own (sym e));
        turn = in_other work.sum work.lock.turn (λ e. h.sum_turn (sym e));
        sees_wish = λ v. refl;
        sees_turn = λ v. refl;
      }) r.entry r.entered) in
      let stored : adds work (stores work.sum (r.sum + 1)) ≡ 1 =
      ap (λ b. cond b 1 0) (in_own work.sum) in
      let left : adds work (stores own 0) ≡ 0 =
      ap (λ b. cond b 1 0) (in_other work.sum own (λ e. h.sum_own (sym e))) in
      let both = tally-append (adds work) r.entry (last_of r.sum) in
      let whole = ap (tally (adds work)) r.whole in
      omega (arith, entry, stored, left, both, whole)

  pub rounds_add : (n : ℕ) (rs : List Answer) → AreRounds work me n rs → tally (adds work) rs ≡ n
  rounds_add zero rs are = ap (tally (adds work)) are
  rounds_add (suc n) rs are =
      let before = rounds_add n are.0 are.3 in
      let last = round_adds are.1 are.4 in
      let both = tally-append (adds work) are.0 are.1 in
      let whole = ap (tally (adds work)) are.2 in
      omega (arith, before, last, both, whole)

  -- it always writes all of it
  pub rounds_whole : (n : ℕ) (rs : List Answer) → AreRounds work me n rs
      → Each (λ (r : Answer). IsWhole work.sum r.call) rs
  rounds_whole =
      rounds_all work me (λ (r : Answer). IsWhole work.sum r.call) (record {
        entry = record {
          wish = outside own 1 (λ e. h.sum_own (sym e));
          turn = outside work.lock.turn (1 - me) (λ e. h.sum_turn (sym e));
          sees_wish = λ v. whole_quiet work.sum (loads (wish_of work.lock (1 - me)) v).call refl;
          sees_turn = λ v. whole_quiet work.sum (loads work.lock.turn v).call refl;
        };
        load = λ v. whole_quiet work.sum (loads work.sum v).call refl;
        store = λ v. λ _. (refl, refl);
        leave = outside own 0 (λ e. h.sum_own (sym e));
      })
    where
      outside : (a v : ℕ) → (a / 8 ≡ work.sum / 8 → ⊥) → IsWhole work.sum (stores a v).call
      outside a v apart = whole_quiet work.sum (stores a v).call (in_other work.sum a apart)

  -- and advances no eventcount
  pub rounds_alone : (k n : ℕ) (rs : List Answer) → AreRounds work me n rs → NoAdvance k rs
  rounds_alone k =
      rounds_all work me (λ (r : Answer). is_advance_of k r.call ≡ false) (record {
        entry = record {
          wish = refl;
          turn = refl;
          sees_wish = λ v. refl;
          sees_turn = λ v. refl;
        };
        load = λ v. refl;
        store = λ v. refl;
        leave = refl;
      })
