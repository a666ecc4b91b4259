-- What is taken from a queue into which several nodes send is what they sent.
use Rattle.std.proofs.Common.{◌≡◌, ◌≢◌, ℕ, ◌+◌, ◌-◌, ◌/◌, ◌%◌, ◌^◌, ◌<◌, ◌≤◌, inl, inr, Bool, true}
use Rattle.std.proofs.Common.{false, IsTrue, if◌then◌else◌, List, [], ◌∷◌, ◌++◌, map, refl, sym}
use Rattle.std.proofs.Common.{ap, ap₂, subst, ◌∙◌, append_assoc, append-nil, arith, mod-eq_of_lt}
use Rattle.std.specs.Prelude.{◌==◌, nat_lt}
use Rattle.std.specs.List.{AllByRecursion as Each, filter, flat_map}
use Rattle.std.proofs.lemmas.Bool.{both_ways, cases_eq, cases_lt, eq-eqb, ne_eqb, eqb-true}
use Rattle.ivy_model.specs.declared.config.Config.{Config}
use Rattle.ivy_model.specs.declared.call.Call.{Call}
use Rattle.ivy_model.specs.declared.call.Call.TheVariants.{Load, Store, Swap, Cas, FetchAdd}
use Rattle.ivy_model.specs.declared.call.Call.TheVariants.{Count, Advance, Await, Alloc, Free}
use Rattle.ivy_model.specs.declared.call.Record.{Record}
use Rattle.ivy_model.specs.stated.Legal.{ServesAll}
use Rattle.ivy_model.specs.stated.Memory.{Memory}
use Rattle.ivy_calls.specs.declared.answer.Answer.{Answer}
use Rattle.ivy_calls.specs.Answers.{answers_of}
use Rattle.ivy_calls.proofs.Answers.{answers_of-nobody}
use Rattle.ivy_sync.specs.declared.queue.Queue.{Queue}
use Rattle.ivy_sync.specs.meeting.Counts.{is_advance_of, NoAdvance, times_advanced}
use Rattle.ivy_sync.specs.Doing.{arrives, asks, passes, stores}
use Rattle.ivy_sync.specs.excluding.Locks.{held_after, holds, KeepsLock}
use Rattle.ivy_sync.specs.queueing.Queues.{slot, sends_value, LeavesAlone, TakesAll, IsEmptyQueue}
use Rattle.ivy_sync.specs.excluding.Sections.{KeepsGuard, sections, turns_of, IsSerial}
use Rattle.ivy_sync.specs.queueing.SharedQueues.{counts, is_in_queue, is_sending, sends_next, shares}
use Rattle.ivy_sync.specs.queueing.SharedQueues.{IsMerged, SharesAll, sent_by}
use Rattle.ivy_sync.specs.queueing.SharedQueues.{SharedQueuesKeepOrder}
use Rattle.ivy_sync.specs.HeapWords.{word, IsHeapWord, is_write_in, IsWhole, last, LeadsThrough}
use Rattle.ivy_sync.specs.HeapWords.{NoWrite}
use Rattle.ivy_sync.proofs.answers.Cuts.{own_or, nodes_there}
use Rattle.ivy_sync.proofs.answers.Lists.{All-append, All-both}
use Rattle.ivy_sync.proofs.excluding.Locked.{all_turns, guards_both, in_other, locked_guards, locked_keeps}
use Rattle.ivy_sync.proofs.excluding.Locked.{by_refusals, locked_sections, unguarded_keep}
use Rattle.ivy_sync.proofs.excluding.Locks.{held_quiet, keeps_both, may_quiet}
use Rattle.ivy_sync.proofs.queueing.Merging.{merged, merged_leads, merged_j, merged_all, merged_own}
use Rattle.ivy_sync.proofs.queueing.Merging.{merged_filter}
use Rattle.ivy_sync.proofs.queueing.Merging.{merged_none}
use Rattle.ivy_sync.proofs.queueing.Merging.{counts_so, IsSplit, split, none_pass, in_queue, quiet_alone}
use Rattle.ivy_sync.proofs.meeting.Phases.{no_write_whole}
use Rattle.ivy_sync.proofs.queueing.Queues.{Gapped, IsSending, in_order, no_advances, same_slot}
use Rattle.ivy_sync.proofs.queueing.Pushing.{none_alone}
use Rattle.ivy_sync.proofs.queueing.Queues.{one_sent, taker_quiet, times_advanced-append}
use Rattle.ivy_sync.proofs.excluding.Registers.{last-append, last-none}
use Rattle.ivy_sync.proofs.excluding.Sections.{sections-are_serial}
use Rattle.ivy_sync.proofs.answers.HeapWords.{whole_quiet}

-- answers that do not touch the lock
quiet_holds : (a : ℕ) (h : Bool) (rs : List Answer) → NoWrite a rs → holds a h rs ≡ h
quiet_holds a h [] q = refl
quiet_holds a h (r ∷ rs) q =
    ap (λ x. holds a x rs) (held_quiet a h r q.0) ∙ quiet_holds a h rs q.1

quiet_keeps : (a : ℕ) (h : Bool) (rs : List Answer) → NoWrite a rs → KeepsLock a h rs
quiet_keeps a h [] q = tt
quiet_keeps a h (r ∷ rs) q =
    (may_quiet a h r.call q.0, quiet_keeps a (held_after a h r) rs q.1)

quiet_sections : (a : ℕ) (g : Call → Bool) (rs ys : List Answer) → NoWrite a rs
    → sections a g false (rs ++ ys) ≡ sections a g false ys
quiet_sections a g [] ys q = refl
quiet_sections a g (r ∷ rs) ys q =
    ap (λ h. sections a g h (rs ++ ys)) (held_quiet a false r q.0) ∙ quiet_sections a g rs ys q.1

no_sections : (a : ℕ) (g : Call → Bool) (rs : List Answer) → NoWrite a rs
    → sections a g false rs ≡ []
no_sections a g rs q =
    ap (sections a g false) (sym (append-nil rs)) ∙ quiet_sections a g rs [] q

-- the number that a call stores, and that which is sent in a critical section
abbrev stored_by : Call → ℕ
stored_by (Store width addr value) = value
stored_by _ = 0

abbrev value_in : List Answer → ℕ
value_in (x ∷ y ∷ r ∷ rest) = stored_by r.call
value_in _ = 0

-- a critical section in which one value is sent
record IsBody (q : Queue) (s : List Answer) : Type 0 where
  n : ℕ
  value : ℕ
  found : ℕ
  is : s ≡ sends_next q n value found
  fits : value < 2 ^ 64

module _ (a : ℕ) (q : Queue) (some : 0 < q.size) (aligned : q.at % 8 ≡ 0)
    (outside : is_in_queue q a ≡ false) where
  abbrev guarded : Call → Bool
  guarded call = is_sending q call

  lock_apart : (n : ℕ) → slot q n / 8 ≡ a / 8 → ⊥
  lock_apart n e =
      both_ways (is_in_queue q a) outside (in_queue q some aligned a n (sym e))

  same_out : (addr : ℕ) → addr / 8 ≡ a / 8 → is_in_queue q addr ≡ false
  same_out addr e =
      ap (λ x. if nat_lt x (q.at / 8) then false else nat_lt x (q.at / 8 + q.size)) e ∙ outside

  -- the lock's calls are none of the queue's
  apart_calls : (call : Call) → IsTrue (is_write_in a call) → guarded call ≡ false
  apart_calls (Load width addr) w = refl
  apart_calls (Store width addr value) w = same_out addr (eqb-true (addr / 8) (a / 8) w)
  apart_calls (Swap width addr value) w = same_out addr (eqb-true (addr / 8) (a / 8) w)
  apart_calls (Cas width addr expected value) w = same_out addr (eqb-true (addr / 8) (a / 8) w)
  apart_calls (FetchAdd width addr value) w = same_out addr (eqb-true (addr / 8) (a / 8) w)
  apart_calls (Count k) w = absurd (cc)
  apart_calls (Advance k) w = absurd (cc)
  apart_calls (Await k least) w = absurd (cc)
  apart_calls (Alloc size) w = absurd (cc)
  apart_calls (Free addr) w = absurd (cc)

  body_quiet : (n value found : ℕ) → NoWrite a (sends_next q n value found)
  body_quiet n value found =
      (refl, (refl, (in_other a (slot q n) (lock_apart n), (refl, tt))))

  body_kept : (n value found : ℕ)
      → filter (λ (r : Answer). guarded r.call) (sends_next q n value found)
      ≡ sends_next q n value found
  body_kept n value found =
      let own = eq-eqb q.sent q.sent refl in
      let taken = eq-eqb q.taken q.taken refl in
      let place = in_queue q some aligned (slot q n) n refl in
      ap (λ b. if b then counts q.sent n ∷ filter (λ (r : Answer). guarded r.call)
      (sends_value q n value found)
      else filter (λ (r : Answer). guarded r.call) (sends_value q n value found)) own
      ∙ ap (λ (l : List Answer). counts q.sent n ∷ l)
      (ap (λ b. if b then passes q.taken (n + 1 - q.size) found ∷ filter (λ
      (r : Answer). guarded r.call)
      (stores (slot q n) value ∷ arrives q.sent ∷ []) else filter (λ (r : Answer). guarded r.call)
      (stores (slot q n) value ∷ arrives q.sent ∷ [])) taken
      ∙ ap (λ (l : List Answer). passes q.taken (n + 1 - q.size) found ∷ l)
      (ap (λ b. if b then stores (slot q n) value ∷ filter (λ (r : Answer). guarded r.call)
      (arrives q.sent
      ∷ []) else filter (λ (r : Answer). guarded r.call) (arrives q.sent ∷ [])) place
      ∙ ap (λ (l : List Answer). stores (slot q n) value ∷ l)
      (ap (λ b. if b then arrives q.sent ∷ [] else []) own)))

  -- a node that sends keeps the lock's rule, and sends while it holds it
  all_keep : (vs : List ℕ) (h : List Answer) → SharesAll a q vs h → KeepsLock a false h
  all_keep [] h w = quiet_keeps a false h w.lock
  all_keep (v ∷ vs) h w =
      let b = w.0 in
      subst (KeepsLock a false) (sym b.whole)
      (keeps_both a false b.other (shares a q b.refusals b.n v b.found b.rest)
      (quiet_keeps a false b.other b.alone.lock)
      (subst (λ x. KeepsLock a x (shares a q b.refusals b.n v b.found b.rest))
      (sym (quiet_holds a false b.other b.alone.lock))
      (locked_keeps a b.refusals b.each (sends_next q b.n v b.found) b.rest
      (body_quiet b.n v b.found)
      (all_keep vs b.rest w.1))))

  all_guard : (vs : List ℕ) (h : List Answer) → SharesAll a q vs h → KeepsGuard a guarded false h
  all_guard [] h w = unguarded_keep a guarded false h w.sending
  all_guard (v ∷ vs) h w =
      let b = w.0 in
      subst (KeepsGuard a guarded false) (sym b.whole)
      (guards_both a guarded false b.other (shares a q b.refusals b.n v b.found b.rest)
      (unguarded_keep a guarded false b.other b.alone.sending)
      (subst (λ x. KeepsGuard a guarded x (shares a q b.refusals b.n v b.found b.rest))
      (sym (quiet_holds a false b.other b.alone.lock))
      (locked_guards a b.refusals b.each (sends_next q b.n v b.found) b.rest
      (body_quiet b.n v b.found)
      guarded apart_calls (all_guard vs b.rest w.1))))

  -- its critical sections are its values
  record AreBodies (vs : List ℕ) (h : List Answer) : Type 0 where
    bodies : List (List Answer)
    whole : sections a guarded false h ≡ bodies
    each : Each (IsBody q) bodies
    values : map value_in bodies ≡ vs

  all_bodies : (vs : List ℕ) (h : List Answer) → SharesAll a q vs h → AreBodies vs h
  all_bodies [] h w =
      record { bodies = []; whole = no_sections a guarded h w.lock; each = tt; values = refl }
  all_bodies (v ∷ vs) h w =
      let b = w.0 in
      let u = all_bodies vs b.rest w.1 in
      record {
        bodies = sends_next q b.n v b.found ∷ u.bodies;
        whole =
            ap (sections a guarded false) b.whole
            ∙ quiet_sections a guarded b.other (shares a q b.refusals b.n v b.found b.rest)
            b.alone.lock
            ∙ locked_sections a b.refusals b.each (sends_next q b.n v b.found) b.rest
            (body_quiet b.n v b.found) guarded apart_calls
            ∙ ap₂ (λ (x : List Answer) (y : List (List Answer)). x ∷ y)
            (body_kept b.n v b.found) u.whole;
        each = (
          record { n = b.n; value = v; found = b.found; is = refl; fits = b.fits },
          u.each,
        );
        values = ap (λ l. v ∷ l) u.values;
      }

  -- nobody but the taker says that something was taken
  all_quiet : (vs : List ℕ) (h : List Answer) → SharesAll a q vs h → (q.sent ≡ q.taken → ⊥)
      → NoAdvance q.taken h
  all_quiet [] h w two = w.taken
  all_quiet (v ∷ vs) h w two =
      let b = w.0 in
      let P : Answer → Type 0 = λ r. is_advance_of q.taken r.call ≡ false in
      subst (NoAdvance q.taken) (sym b.whole)
      (All-both P b.other (shares a q b.refusals b.n v b.found b.rest) b.alone.taken
      (All-both P b.refusals (asks a 0 ∷ (sends_next q b.n v b.found ++ stores a 0 ∷ b.rest))
      (by_refusals a P (λ _. refl) b.refusals b.each) (
        refl,
        (
          refl,
          (
            refl,
            (
              refl,
              (
                ne_eqb q.sent q.taken two,
                (refl, all_quiet vs b.rest w.1 two),
              ),
            ),
          ),
        ),
      )))

-- where the merged history has the calls of these critical sections, it sends their values
module _ (q : Queue) (some : 0 < q.size) (aligned : q.at % 8 ≡ 0) (two : q.sent ≡ q.taken → ⊥)
    (all : List Answer) (taken : NoAdvance q.taken all)
    (counted : (xs : List Answer) (n : ℕ) (ys : List Answer) → all ≡ xs ++ counts q.sent n ∷ ys
    → n ≡ times_advanced q.sent xs) where
  abbrev guard : Answer → Bool
  guard r = is_sending q r.call

  abbrev Quiet : Answer → Type 0
  Quiet r = is_advance_of q.taken r.call ≡ false

  -- any part of it leaves alone what it has no call of
  alone_in : (xs gap ys : List Answer) → all ≡ xs ++ (gap ++ ys)
      → Each (λ (r : Answer). is_sending q r.call ≡ false) gap → LeavesAlone q gap
  alone_in xs gap ys e none =
      quiet_alone q some aligned gap none
      (All-append Quiet gap ys (All-append Quiet xs (gap ++ ys) (subst (Each Quiet) e taken)).1).0

  record IsSent (n v : ℕ) (xs ys : List Answer) (later : List Answer) : Type 0 where
    other : List Answer
    mid : List Answer
    rest : List Answer
    alone : LeavesAlone q other
    sending : IsSending q n v mid
    whole : ys ≡ other ++ (mid ++ rest)
    left : filter (λ (r : Answer). guard r) rest ≡ later

  module _ (n v found m : ℕ) (xs ys later : List Answer) (fits : v < 2 ^ 64) (e : all ≡ xs ++ ys)
      (so_far : times_advanced q.sent xs ≡ n)
      (here : filter (λ (r : Answer). guard r) ys ≡ sends_next q m v found ++ later) where
    abbrev call : Call → Bool
    call c = is_sending q c

    one : IsSplit call ys (counts q.sent m) (sends_value q m v found ++ later)
    one = split call ys (counts q.sent m) (sends_value q m v found ++ later) here

    second : IsSplit call one.rest (passes q.taken (m + 1 - q.size) found)
        (stores (slot q m) v ∷ arrives q.sent ∷ later)
    second = split call one.rest (passes q.taken (m + 1 - q.size) found)
        (stores (slot q m) v ∷ arrives q.sent ∷ later) one.later

    third : IsSplit call second.rest (stores (slot q m) v) (arrives q.sent ∷ later)
    third = split call second.rest (stores (slot q m) v) (arrives q.sent ∷ later) second.later

    fourth : IsSplit call third.rest (arrives q.sent) later
    fourth = split call third.rest (arrives q.sent) later third.later

    whole_one : all ≡ xs ++ (one.gap ++ counts q.sent m ∷ one.rest)
    whole_one = e ∙ ap (λ (l : List Answer). xs ++ l) one.whole

    gap_one : LeavesAlone q one.gap
    gap_one = alone_in xs one.gap (counts q.sent m ∷ one.rest) whole_one one.none

    -- it is sent under the number of those before it
    same : m ≡ n
    same =
        let sum = times_advanced-append q.sent xs one.gap in
        let none = no_advances q.sent one.gap gap_one.sent in
        counted (xs ++ one.gap) m one.rest (whole_one ∙ sym (append_assoc xs one.gap
        (counts q.sent m ∷
        one.rest)))
        ∙ omega (arith, sum, none, so_far)

    abbrev front : List Answer
    front = xs ++ (one.gap ++ counts q.sent m ∷ [])

    whole_two : all ≡ front ++ (second.gap ++ passes q.taken (m + 1 - q.size) found ∷ second.rest)
    whole_two =
        whole_one ∙ ap (λ (l : List Answer). xs ++ (one.gap ++ counts q.sent m ∷ l)) second.whole
        ∙ simp append_assoc

    gap_two : LeavesAlone q second.gap
    gap_two = alone_in front second.gap (passes q.taken (m + 1 - q.size) found
        ∷ second.rest) whole_two
        second.none

    abbrev front' : List Answer
    front' = front ++ (second.gap ++ passes q.taken (m + 1 - q.size) found ∷ [])

    whole_three : all ≡ front' ++ (third.gap ++ stores (slot q m) v ∷ third.rest)
    whole_three =
        whole_two ∙ ap (λ (l : List Answer). front ++ (second.gap ++ passes q.taken
        (m + 1 - q.size) found
        ∷ l)) third.whole
        ∙ simp append_assoc

    gap_three : LeavesAlone q third.gap
    gap_three = alone_in front' third.gap (stores (slot q m) v ∷ third.rest) whole_three third.none

    abbrev front'' : List Answer
    front'' = front' ++ (third.gap ++ stores (slot q m) v ∷ [])

    whole_four : all ≡ front'' ++ (fourth.gap ++ arrives q.sent ∷ fourth.rest)
    whole_four =
        whole_three ∙ ap (λ (l : List Answer). front' ++ (third.gap ++ stores (slot q m) v
        ∷ l)) fourth.whole
        ∙ simp append_assoc

    gap_four : LeavesAlone q fourth.gap
    gap_four = alone_in front'' fourth.gap (arrives q.sent ∷ fourth.rest) whole_four fourth.none

    abbrev pass : Answer
    pass = passes q.taken (m + 1 - q.size) found

    abbrev pre : List Answer
    pre = pass ∷ (third.gap ++ stores (slot q m) v ∷ fourth.gap)

    abbrev mid : List Answer
    mid = pass ∷ (third.gap ++ stores (slot q m) v ∷ (fourth.gap ++ arrives q.sent ∷ []))

    sending : IsSending q m v mid
    sending = record {
      found = found;
      tail = third.gap ++ stores (slot q m) v ∷ (fourth.gap ++ arrives q.sent ∷ []);
      begins = refl;
      pre = pre;
      ends = ap (λ (l : List Answer). pass ∷ l)
          (sym (append_assoc third.gap (stores (slot q m) v ∷ fourth.gap) (arrives q.sent ∷ [])));
      none = (
        refl,
        All-both (λ (r : Answer). is_advance_of q.sent r.call ≡ false) third.gap
            (stores (slot q m) v ∷ fourth.gap) gap_three.sent (refl, gap_four.sent),
      );
      quiet = (
        refl,
        All-both Quiet third.gap (stores (slot q m) v ∷ (fourth.gap ++ arrives q.sent ∷ []))
            gap_three.taken (
              refl,
              All-both Quiet fourth.gap (arrives q.sent ∷ []) gap_four.taken (
                ne_eqb q.sent q.taken
                    two,
                tt,
              ),
            ),
      );
      stored = λ x.
          last-append (slot q m) x third.gap (stores (slot q m) v ∷ fourth.gap)
          ∙ ap (λ b. last (slot q m) (if b then v % 2 ^ 64 else last
          (slot q m) x third.gap) fourth.gap)
          (eq-eqb (slot q m / 8) (slot q m / 8) refl)
          ∙ last-none (slot q m) (v % 2 ^ 64) fourth.gap (gap_four.slots m) ∙ mod-eq_of_lt fits;
      each = λ k. (
        whole_quiet (slot q k) pass.call refl,
        All-both (λ (r : Answer). IsWhole (slot q k) r.call) third.gap
            (stores (slot q m) v ∷ (fourth.gap ++ arrives q.sent ∷ []))
            (no_write_whole (slot q k) third.gap (gap_three.slots k)) (
              λ t. (refl, same_slot q some aligned two m k t),
              All-both (λ (r : Answer). IsWhole (slot q k) r.call) fourth.gap (arrives q.sent ∷ [])
                  (no_write_whole (slot q k) fourth.gap (gap_four.slots k))
                  (whole_quiet (slot q k) (arrives q.sent).call refl, tt),
            ),
      );
      elsewhere = λ k out. (
        refl,
        All-both (λ (r : Answer). is_write_in (slot q k) r.call ≡ false) third.gap
            (stores (slot q m) v ∷ (fourth.gap ++ arrives q.sent ∷ [])) (gap_three.slots k) (
              out,
              All-both (λ (r : Answer). is_write_in (slot q k) r.call ≡ false) fourth.gap
                  (arrives q.sent ∷ []) (gap_four.slots k) (refl, tt),
            ),
      );
    }

    other_alone : LeavesAlone q (one.gap ++ counts q.sent m ∷ second.gap)
    other_alone = record {
      sent = All-both (λ (r : Answer). is_advance_of q.sent r.call ≡ false) one.gap
          (counts q.sent m ∷ second.gap) gap_one.sent (refl, gap_two.sent);
      taken = All-both Quiet one.gap (counts q.sent m ∷ second.gap) gap_one.taken
          (refl, gap_two.taken);
      slots = λ k. All-both (λ (r : Answer). is_write_in (slot q k) r.call ≡ false) one.gap
          (counts q.sent m ∷ second.gap) (gap_one.slots k) (refl, gap_two.slots k);
    }

    sent_next : IsSent n v xs ys later
    sent_next = record {
      other = one.gap ++ counts q.sent m ∷ second.gap;
      mid = mid;
      rest = fourth.rest;
      alone = other_alone;
      sending = subst (λ x. IsSending q x v mid) same sending;
      whole =
          one.whole ∙ ap (λ (l : List Answer). one.gap ++ counts q.sent m ∷ l) second.whole
          ∙ ap (λ (l : List Answer). one.gap ++ counts q.sent m ∷ (second.gap ++ pass
          ∷ l)) third.whole
          ∙ ap (λ (l : List Answer). one.gap ++ counts q.sent m ∷ (second.gap ++ pass ∷ (third.gap
          ++ stores (slot q m) v ∷ l))) fourth.whole
          ∙ simp append_assoc;
      left = fourth.later;
    }

  sends_from : (turns : List (ℕ × List Answer)) → Each (λ (t : ℕ × List Answer). IsBody q t.1) turns
      → (n : ℕ) (xs ys : List Answer) → all ≡ xs ++ ys → times_advanced q.sent xs ≡ n
      → filter (λ (r : Answer). guard r) ys ≡ flat_map (λ (t : ℕ × List Answer). t.1) turns
      → Gapped q n (map (λ (t : ℕ × List Answer). value_in t.1) turns) ys
  sends_from [] each n xs ys e so_far here =
      alone_in xs ys [] (e ∙ ap (λ (l : List Answer). xs ++ l) (sym (append-nil ys)))
      (none_pass (is_sending q) ys here)
  sends_from (t ∷ ts) each n xs ys e so_far here =
      let b = each.0 in
      let later : List Answer = flat_map (λ (u : ℕ × List Answer). u.1) ts in
      let w = sent_next n b.value b.found b.n xs ys later b.fits e so_far
      (here ∙ ap (λ (l : List Answer). l ++ later) b.is) in
      let value : value_in t.1 ≡ b.value = ap value_in b.is in
      let sum = times_advanced-append q.sent xs (w.other ++ w.mid) in
      let sum' = times_advanced-append q.sent w.other w.mid in
      let none = no_advances q.sent w.other w.alone.sent in
      let one = one_sent q some aligned two n b.value w.mid w.sending in (
        w.other,
        w.mid,
        w.rest,
        w.alone,
        subst (λ x. IsSending q n x w.mid) (sym value) w.sending,
        w.whole,
        sends_from ts each.1 (n + 1) (xs ++ (w.other ++ w.mid)) w.rest
            (e ∙ ap (λ (l : List Answer). xs ++ l) (w.whole ∙ sym
            (append_assoc w.other w.mid w.rest))
            ∙ sym (append_assoc xs (w.other ++ w.mid) w.rest))
            (omega (arith, sum, sum', none, one, so_far)) w.left,
      )

-- the values of critical sections, with the nodes that sent them
abbrev sent_in : ℕ × List Answer → ℕ × ℕ
sent_in t = (t.0, value_in t.1)

values_sent : (turns : List (ℕ × List Answer))
    → map (λ (s : ℕ × ℕ). s.1) (map sent_in turns)
    ≡ map (λ (t : ℕ × List Answer). value_in t.1) turns
values_sent [] = refl
values_sent (t ∷ ts) = ap (λ l. value_in t.1 ∷ l) (values_sent ts)

values_by : (i : ℕ) (turns : List (ℕ × List Answer))
    → sent_by i (map sent_in turns) ≡ map value_in (turns_of i turns)
values_by i [] = refl
values_by i (t ∷ ts) = by_case (t.0 == i) (values_by i ts)
  where
    by_case : (b : Bool) → sent_by i (map sent_in ts) ≡ map value_in (turns_of i ts)
        → map (λ (s : ℕ × ℕ). s.1) (if b then sent_in t ∷ filter (λ (s : ℕ × ℕ). s.0 == i)
        (map sent_in ts)
        else filter (λ (s : ℕ × ℕ). s.0 == i) (map sent_in ts))
        ≡ map value_in (map (λ (u : ℕ × List Answer). u.1) (if b then t ∷ filter
        (λ (u : ℕ × List Answer). u.0 == i) ts else filter (λ (u : ℕ × List Answer). u.0 == i) ts))
    by_case true e = ap (λ l. value_in t.1 ∷ l) e
    by_case false e = e

-- a node with no critical section sent none of the values
turn_of : (t : ℕ × List Answer) (ts : List (ℕ × List Answer)) → turns_of t.0 (t ∷ ts) ≡ [] → ⊥
turn_of t ts none =
    let own : turns_of t.0 (t ∷ ts) ≡ t.1 ∷ turns_of t.0 ts =
    ap (λ b. map (λ (u : ℕ × List Answer). u.1) (if b then t ∷ filter (λ (u : ℕ × List Answer). u.0
    == t.0) ts else filter (λ (u : ℕ × List Answer). u.0 == t.0) ts)) (eq-eqb t.0 t.0 refl) in
    cc

later_none : (i : ℕ) (t : ℕ × List Answer) (ts : List (ℕ × List Answer)) → turns_of i (t ∷ ts) ≡ []
    → turns_of i ts ≡ []
later_none i t ts none = by_case (t.0 == i) none
  where
    by_case : (b : Bool)
        → map (λ (u : ℕ × List Answer). u.1) (if b then t ∷ filter (λ (u : ℕ × List Answer). u.0
        == i) ts else filter (λ (u : ℕ × List Answer). u.0 == i) ts) ≡ []
        → turns_of i ts ≡ []
    by_case true e = absurd (cc)
    by_case false e = e

senders_only : (n j : ℕ) (turns : List (ℕ × List Answer)) → turns_of j turns ≡ []
    → ((i : ℕ) → n ≤ i → turns_of i turns ≡ [])
    → Each (λ (s : ℕ × ℕ). (s.0 < n) × (s.0 ≢ j)) (map sent_in turns)
senders_only n j [] taker nobody = tt
senders_only n j (t ∷ ts) taker nobody = (
  (
    elim (cases_lt t.0 n) [
      | inl there ↦ there
      | inr past ↦ absurd (turn_of t ts (nobody t.0 past))
    ],
    λ same. turn_of t ts (subst (λ i. turns_of i (t ∷ ts) ≡ []) (sym same) taker),
  ),
  senders_only n j ts (later_none j t ts taker) (λ i past. later_none i t ts (nobody i past)),
)

module _ (c : Config) (old new : Memory) (order : List Record) (a : ℕ) (q : Queue) (j : ℕ)
    (sent : ℕ → List ℕ) (taken : List ℕ) (run : LeadsThrough c old order new)
    (empty : IsEmptyQueue c old q) (lock_at : IsHeapWord c a) (free : word c old a ≡ 0)
    (outside : is_in_queue q a ≡ false) (there : j < c.nodes) (takes : TakesAll q 0 taken
    (answers_of j
    order))
    (unsent : Each (λ (r : Answer). is_sending q r.call ≡ false) (answers_of j order))
    (unlocked : NoWrite a (answers_of j order))
    (senders : (i : ℕ) → i < c.nodes → i ≢ j → SharesAll a q (sent i) (answers_of i order)) where
  keeps : (i : ℕ) → i < c.nodes → KeepsLock a false (answers_of i order)
  keeps i l =
      elim (cases_eq i j) [
        | inl same ↦
            subst (λ m. KeepsLock a false (answers_of m order)) (sym same)
            (quiet_keeps a false (answers_of j order) unlocked)
        | inr ne ↦
            all_keep a q empty.some empty.aligned outside (sent i) (answers_of i order)
            (senders i l ne)
      ]

  guards : (i : ℕ) → i < c.nodes → KeepsGuard a (is_sending q) false (answers_of i order)
  guards i l =
      elim (cases_eq i j) [
        | inl same ↦
            subst (λ m. KeepsGuard a (is_sending q) false (answers_of m order)) (sym same)
            (unguarded_keep a (is_sending q) false (answers_of j order) unsent)
        | inr ne ↦
            all_guard a q empty.some empty.aligned outside (sent i) (answers_of i order)
            (senders i l ne)
      ]

  serial : (turns : List (ℕ × List Answer)) × IsSerial a (is_sending q) order turns
  serial =
      sections-are_serial c old new order a (is_sending q) run lock_at free
      (apart_calls a q empty.some empty.aligned outside) keeps guards

  nodes_are : Each (λ (r : Record). r.node < c.nodes) order
  nodes_are = nodes_there c old new order run.led

  bodies_of : (i : ℕ) → Each (IsBody q) (sections a (is_sending q) false (answers_of i order))
  bodies_of i =
      elim (cases_lt i c.nodes) [
        | inl l ↦ elim (cases_eq i j) [
          | inl same ↦
              subst (λ m. Each (IsBody q) (sections a (is_sending q) false (answers_of m order)))
              (sym same)
              (subst (Each (IsBody q)) (sym (no_sections a (is_sending q)
              (answers_of j order) unlocked)) tt)
          | inr ne ↦
              let w = all_bodies a q empty.some empty.aligned outside (sent i) (answers_of i order)
              (senders i l ne) in
              subst (Each (IsBody q)) (sym w.whole) w.each
        ]
        | inr past ↦
            subst (λ h. Each (IsBody q) (sections a (is_sending q) false h))
            (sym (answers_of-nobody i c.nodes order past nodes_are)) tt
      ]

  each_turn : Each (λ (t : ℕ × List Answer). IsBody q t.1) serial.0
  each_turn =
      all_turns (λ _ (s : List Answer). IsBody q s) serial.0
      (λ i. subst (Each (IsBody q)) (sym (serial.1.each i)) (bodies_of i))

  -- a node to take the place of the senders
  sender : (i : ℕ) × (i < c.nodes) × (i ≡ j → ⊥)
  sender =
      let from = run.config.nodes_from in
      elim (cases_eq j 0) [
        | inl same ↦ (1, omega (arith, from), λ e. omega (arith, e, same))
        | inr ne ↦ (0, omega (arith, from), λ e. ne (sym e))
      ]

  abbrev together : List Record
  together = merged j sender.0 order

  led : ServesAll c old together new
  led = merged_leads sender.0 j sender.2 c old new order sender.1 there run.led

  abbrev all : List Answer
  all = answers_of sender.0 together

  untaken : NoAdvance q.taken all
  untaken =
      let P : Answer → Type 0 = λ r. is_advance_of q.taken r.call ≡ false in
      merged_all sender.0 j sender.2 P order
      (own_or P j c.nodes order nodes_are
      (λ m l ne. all_quiet a q empty.some empty.aligned outside (sent m) (answers_of m order)
      (senders m l ne) empty.two))

  counted : (xs : List Answer) (n : ℕ) (ys : List Answer) → all ≡ xs ++ counts q.sent n ∷ ys
      → n ≡ times_advanced q.sent xs
  counted xs n ys e =
      counts_so c old new together q.sent sender.0 n xs ys led empty.sent
      (merged_own sender.0 j sender.2 (λ (r : Answer). is_advance_of q.sent r.call ≡ false) order
      (taker_quiet q empty.some empty.aligned empty.two 0 taken (answers_of j order) takes)) e

  abbrev values : List ℕ
  values = map (λ (t : ℕ × List Answer). value_in t.1) serial.0

  gapped : Gapped q 0 values all
  gapped =
      sends_from q empty.some empty.aligned empty.two all untaken counted serial.0 each_turn 0 []
      all refl
      refl (merged_filter sender.0 j sender.2 (is_sending q) order unsent ∙ serial.1.whole)

  in_turn : (rest : List ℕ) × (values ≡ taken ++ rest)
  in_turn =
      in_order c old new together q sender.0 j values taken
      (record { config = run.config; sized = run.sized; led = led }) empty gapped
      (subst (TakesAll q 0 taken) (sym (merged_j sender.0 j sender.2 order)) takes)
      (λ m _ ne ne'. subst (LeavesAlone q)
      (sym (merged_none sender.0 j sender.2 m (λ e. ne (sym e)) (λ e. ne' (sym e)) order))
      (none_alone q))

  -- neither the taker nor a node that is not there has a critical section
  no_turns : (i : ℕ) → sections a (is_sending q) false (answers_of i order) ≡ []
      → turns_of i serial.0 ≡ []
  no_turns i none = serial.1.each i ∙ none

  taker_none : turns_of j serial.0 ≡ []
  taker_none = no_turns j (no_sections a (is_sending q) (answers_of j order) unlocked)

  nobody_none : (i : ℕ) → c.nodes ≤ i → turns_of i serial.0 ≡ []
  nobody_none i past =
      no_turns i
      (ap (sections a (is_sending q) false) (answers_of-nobody i c.nodes order past nodes_are))

  pub is_merged : IsMerged c j sent taken
  is_merged = record {
    all = map sent_in serial.0;
    rest = in_turn.0;
    whole = values_sent serial.0 ∙ in_turn.1;
    senders = senders_only c.nodes j serial.0 taker_none nobody_none;
    each = λ i l ne.
        let w = all_bodies a q empty.some empty.aligned outside (sent i) (answers_of i order)
        (senders i l ne) in
        values_by i serial.0 ∙ ap (map value_in) (serial.1.each i ∙ w.whole) ∙ w.values;
  }

pub shared_queues-keep_order : SharedQueuesKeepOrder
shared_queues-keep_order c old new order a q j sent taken run empty lock_at free outside there takes
    unsent unlocked senders =
    is_merged c old new order a q j sent taken run empty lock_at free outside there takes unsent
    unlocked
    senders
