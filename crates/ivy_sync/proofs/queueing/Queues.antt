-- What is taken from a queue is what was sent, in its order.
use Rattle.std.proofs.Common.{◌≡◌, ℕ, zero, suc, ◌+◌, ◌-◌, ◌*◌, ◌/◌, ◌%◌, ◌^◌, ◌<◌, ◌≤◌, ◌⊎◌, inl}
use Rattle.std.proofs.Common.{inr, false, if◌then◌else◌, IsTrue, List, [], ◌∷◌, ◌++◌, length, refl}
use Rattle.std.proofs.Common.{sym, ap, subst, ◌∙◌, append-nil, append_assoc, mod-eq_of_lt, arith}
use Rattle.std.specs.Prelude.{◌==◌}
use Rattle.std.specs.List.{AllByRecursion as Each}
use Rattle.std.proofs.lemmas.Bool.{cases_eq, cases_lt, eq-eqb, ne_eqb, eqb-true}
use Rattle.std.proofs.lemmas.Nat.{mod-mul-add, mod_below, div-add-mod'}
use Rattle.ivy_model.specs.declared.config.Config.{Config}
use Rattle.ivy_model.specs.declared.call.Record.{Record}
use Rattle.ivy_model.specs.declared.call.Reply.TheVariants.{Value}
use Rattle.ivy_model.specs.stated.Memory.{Memory}
use Rattle.ivy_model.specs.stated.Legal.{ServesAll}
use Rattle.ivy_calls.specs.declared.answer.Answer.{Answer}
use Rattle.ivy_calls.specs.Answers.{by, answers_of}
use Rattle.ivy_calls.proofs.Answers.{answers_of-append}
use Rattle.ivy_sync.specs.meeting.Counts.{is_advance_of, raised, NoAdvance, times_advanced}
use Rattle.ivy_sync.specs.Doing.{arrives, passes, loads, stores}
use Rattle.ivy_sync.specs.queueing.Messages.{AdvancesAlone}
use Rattle.ivy_sync.specs.queueing.Queues.{slot, sends_value, takes_value, LeavesAlone, SendsAll, TakesAll}
use Rattle.ivy_sync.specs.queueing.Queues.{IsEmptyQueue}
use Rattle.ivy_sync.specs.queueing.Queues.{QueuesKeepOrder}
use Rattle.ivy_sync.specs.declared.queue.Queue.{Queue}
use Rattle.ivy_sync.specs.HeapWords.{word, is_in, is_write_in, NoWrite, IsWhole, last, LeadsThrough}
use Rattle.ivy_sync.proofs.meeting.Counting.{tally-times_advanced, none_raised, reached}
use Rattle.ivy_sync.proofs.answers.Cuts.{part_cut, nodes_there, own_or}
use Rattle.ivy_sync.proofs.answers.Lists.{none_at_end, All-append, All-both}
use Rattle.ivy_sync.proofs.queueing.Messages.{Advancer, messages-pass}
use Rattle.ivy_sync.proofs.meeting.Phases.{no_write_whole}
use Rattle.ivy_sync.proofs.excluding.Registers.{last-append}
use Rattle.ivy_sync.proofs.answers.AnswerTotals.{tally, tally-append}
use Rattle.ivy_sync.proofs.answers.HeapWords.{whole_quiet}

pub times_advanced-append : (k : ℕ) (xs ys : List Answer)
    → times_advanced k (xs ++ ys) ≡ times_advanced k xs + times_advanced k ys
times_advanced-append k [] ys = omega arith
times_advanced-append k (x ∷ xs) ys = let e = times_advanced-append k xs ys in omega (arith, e)

pub no_advances : (k : ℕ) (rs : List Answer) → NoAdvance k rs → times_advanced k rs ≡ 0
no_advances k rs h = sym (tally-times_advanced k rs) ∙ none_raised k rs h

abbrev Quiet : ℕ → Answer → Type 0
Quiet k r = is_advance_of k r.call ≡ false

abbrev Unwritten : ℕ → Answer → Type 0
Unwritten d r = is_write_in d r.call ≡ false

-- the n-th value is sent in these answers, maybe with other things between its calls
pub record IsSending (q : Queue) (n v : ℕ) (mid : List Answer) : Type 0 where
  pub found : ℕ
  pub tail : List Answer
  pub begins : mid ≡ passes q.taken (n + 1 - q.size) found ∷ tail
  pub pre : List Answer
  pub ends : mid ≡ pre ++ arrives q.sent ∷ []
  pub none : NoAdvance q.sent pre
  pub quiet : NoAdvance q.taken mid
  pub stored : (x : ℕ) → last (slot q n) x pre ≡ v
  pub each : (k : ℕ) → Each (λ (r : Answer). IsWhole (slot q k) r.call) mid
  pub elsewhere : (k : ℕ) → is_in (slot q k) (slot q n) ≡ false → NoWrite (slot q k) mid

-- and so those after it
abbrev pub Gapped : Queue → ℕ → List ℕ → List Answer → Type 0
Gapped q n [] history = LeavesAlone q history
Gapped q n (v ∷ vs) history =
    (other : List Answer) × (mid : List Answer) × (rest : List Answer) × LeavesAlone q other
    × IsSending q n v mid × (history ≡ other ++ (mid ++ rest)) × Gapped q (n + 1) vs rest

-- values less than the queue's size apart lie in different words
pub slots_differ : (size k t : ℕ) → 0 < size → 0 < t → t < size → k % size ≡ (k + t) % size → ⊥
slots_differ size k t some more less same =
    let r : ℕ = k % size in
    let q : ℕ = k / size in
    let split : q * size + r ≡ k = div-add-mod' k size in
    let below : r < size = mod_below k size some in
    elim (cases_lt (r + t) size) [
      | inl within ↦
          let there : (k + t) % size ≡ r + t =
          ap (λ n. n % size) (let e : k + t ≡ q * size + (r + t) = omega (arith, split) in e)
          ∙ mod-mul-add q size (r + t) within in
          omega (arith, there, same, more)
      | inr past ↦
          let next : (q + 1) * size ≡ q * size + size = grind arith in
          let sum : k + t ≡ (q + 1) * size + (r + t - size) = omega (arith, split, next, past) in
          let there : (k + t) % size ≡ r + t - size =
          ap (λ n. n % size) sum ∙ mod-mul-add (q + 1) size (r + t - size)
          (omega (arith, below, less)) in
          omega (arith, there, same, less, past)
    ]

module _ (q : Queue) (some : 0 < q.size) (aligned : q.at % 8 ≡ 0) (two : q.sent ≡ q.taken → ⊥) where
  pub same_slot : (n k : ℕ) → IsTrue (is_in (slot q k) (slot q n)) → slot q n ≡ slot q k
  same_slot n k t =
      let e = eqb-true (slot q n / 8) (slot q k / 8) t in
      let there : n % q.size ≡ k % q.size = omega (arith, e, aligned) in
      ap (λ x. q.at + 8 * x) there

  other_slot : (k t : ℕ) → 0 < t → t < q.size → is_in (slot q k) (slot q (k + t)) ≡ false
  other_slot k t more less =
      ne_eqb (slot q (k + t) / 8) (slot q k / 8)
      (λ e. slots_differ q.size k t some more less
      (let there : k % q.size ≡ (k + t) % q.size = omega (arith, e, aligned) in there))

  apart : (q.taken == q.sent) ≡ false
  apart = ne_eqb q.taken q.sent (λ e. two (sym e))

  apart' : (q.sent == q.taken) ≡ false
  apart' = ne_eqb q.sent q.taken two

  -- what a send adds
  pub one_sent : (n v : ℕ) (mid : List Answer) → IsSending q n v mid
      → times_advanced q.sent mid ≡ 1
  one_sent n v mid w =
      let own : raised q.sent (arrives q.sent) ≡ 1 =
      ap (λ b. if b then 1 else 0) (eq-eqb q.sent q.sent refl) in
      let none = no_advances q.sent w.pre w.none in
      let sum = times_advanced-append q.sent w.pre (arrives q.sent ∷ []) in
      ap (times_advanced q.sent) w.ends ∙ omega (arith, own, none, sum)

  one_taken : (n v found : ℕ) → times_advanced q.taken (takes_value q n v found) ≡ 1
  one_taken n v found =
      let own : raised q.taken (arrives q.taken) ≡ 1 =
      ap (λ b. if b then 1 else 0) (eq-eqb q.taken q.taken refl) in omega (arith, own)

  all_sent : (n : ℕ) (vs : List ℕ) (h : List Answer) → Gapped q n vs h
      → times_advanced q.sent h ≡ length vs
  all_sent n [] h alone = no_advances q.sent h alone.sent
  all_sent n (v ∷ vs) h w =
      let none = no_advances q.sent w.0 w.3.sent in
      let rest = all_sent (n + 1) vs w.2 w.6 in
      let one = one_sent n v w.1 w.4 in
      let whole = ap (times_advanced q.sent) w.5 in
      let sum = times_advanced-append q.sent w.0 (w.1 ++ w.2) in
      let sum' = times_advanced-append q.sent w.1 w.2 in
      omega (arith, none, rest, one, whole, sum, sum')

  -- the sender does not take
  sender_quiet : (n : ℕ) (vs : List ℕ) (h : List Answer) → Gapped q n vs h → NoAdvance q.taken h
  sender_quiet n [] h alone = alone.taken
  sender_quiet n (v ∷ vs) h w =
      subst (NoAdvance q.taken) (sym w.5)
      (All-both (Quiet q.taken) w.0 (w.1 ++ w.2) w.3.taken
      (All-both (Quiet q.taken) w.1 w.2 w.4.quiet (sender_quiet (n + 1) vs w.2 w.6)))

  -- the taker does not send
  pub taker_quiet : (n : ℕ) (ws : List ℕ) (h : List Answer) → TakesAll q n ws h → NoAdvance q.sent h
  taker_quiet n [] h alone = alone.sent
  taker_quiet n (v ∷ vs) h w =
      subst (NoAdvance q.sent) (sym w.4)
      (All-both (Quiet q.sent) w.0 (takes_value q n v w.1 ++ w.2) w.3.sent
      (refl, (refl, (apart, taker_quiet (n + 1) vs w.2 w.5))))

  taker_reads : (n : ℕ) (ws : List ℕ) (h : List Answer) → TakesAll q n ws h → (k : ℕ)
      → NoWrite (slot q k) h
  taker_reads n [] h alone k = alone.slots k
  taker_reads n (v ∷ vs) h w k =
      subst (NoWrite (slot q k)) (sym w.4)
      (All-both (Unwritten (slot q k)) w.0 (takes_value q n v w.1 ++ w.2) (w.3.slots k)
      (refl, (refl, (refl, taker_reads (n + 1) vs w.2 w.5 k))))

  -- the sender's history up to the store of the k-th value, and after its advance
  record IsSent (k n : ℕ) (v : ℕ) (vs : List ℕ) (h : List Answer) : Type 0 where
    before : List Answer
    rest : List Answer
    whole : h ≡ (before ++ arrives q.sent ∷ []) ++ rest
    sent : times_advanced q.sent before ≡ n
    stored : (x : ℕ) → last (slot q k) x before ≡ v
    each : Each (λ (r : Answer). IsWhole (slot q k) r.call) before
    later : Gapped q (k + 1) vs rest

  sent_here : (n v : ℕ) (other mid rest h : List Answer) (vs : List ℕ) → LeavesAlone q other
      → IsSending q n v mid → h ≡ other ++ (mid ++ rest) → Gapped q (n + 1) vs rest
      → IsSent n 0 v vs h
  sent_here n v other mid rest h vs alone w whole later = record {
    before = other ++ w.pre;
    rest = rest;
    whole =
        whole
        ∙ ap (λ (l : List Answer). other ++ (l ++ rest)) w.ends
        ∙ sym (ap (λ (l : List Answer). l ++ rest) (append_assoc other w.pre (arrives q.sent ∷ []))
        ∙ append_assoc other (w.pre ++ arrives q.sent ∷ []) rest);
    sent =
        (let sum = times_advanced-append q.sent other w.pre in
        let none = no_advances q.sent other alone.sent in
        let none' = no_advances q.sent w.pre w.none in
        omega (arith, sum, none, none'));
    stored = λ x. last-append (slot q n) x other w.pre ∙ w.stored (last (slot q n) x other);
    each =
        All-both (λ (r : Answer). IsWhole (slot q n) r.call) other w.pre
        (no_write_whole (slot q n) other (alone.slots n))
        (All-append (λ (r : Answer). IsWhole (slot q n) r.call) w.pre (arrives q.sent ∷ [])
        (subst (Each (λ (r : Answer). IsWhole (slot q n) r.call)) w.ends (w.each n))).0;
    later = later;
  }

  -- the value at a place in what is sent
  sent_at : (n k : ℕ) (vs1 : List ℕ) (v : ℕ) (vs2 : List ℕ) (h : List Answer)
      → n + length vs1 ≡ k → Gapped q n (vs1 ++ v ∷ vs2) h → IsSent k (length vs1) v vs2 h
  sent_at n k [] v vs2 h e w =
      let same : n ≡ k = omega (arith, e) in
      subst (λ m. IsSent m 0 v vs2 h) same (sent_here n v w.0 w.1 w.2 h vs2 w.3 w.4 w.5 w.6)
  sent_at n k (x ∷ xs) v vs2 h e w =
      let u = sent_at (n + 1) k xs v vs2 w.2 (omega (arith, e)) w.6 in
      let front : List Answer = w.0 ++ w.1 in
      let none = no_advances q.sent w.0 w.3.sent in
      let one = one_sent n x w.1 w.4 in
      let sum = times_advanced-append q.sent front u.before in
      let sum' = times_advanced-append q.sent w.0 w.1 in
      let more = u.sent in
      record {
        before = front ++ u.before;
        rest = u.rest;
        whole =
            w.5
            ∙ sym (append_assoc w.0 w.1 w.2)
            ∙ ap (λ (l : List Answer). front ++ l) u.whole
            ∙ sym (append_assoc front (u.before ++ arrives q.sent ∷ []) u.rest)
            ∙ ap (λ (l : List Answer). l ++ u.rest) (sym (append_assoc front u.before
            (arrives q.sent ∷ [])));
        sent = omega (arith, none, one, sum, sum', more);
        stored = λ y. last-append (slot q k) y front u.before ∙ u.stored (last (slot q k) y front);
        each =
            All-both (λ (r : Answer). IsWhole (slot q k) r.call) front u.before
            (All-both (λ (r : Answer). IsWhole (slot q k) r.call) w.0 w.1
            (no_write_whole (slot q k) w.0 (w.3.slots k)) (w.4.each k))
            u.each;
        later = u.later;
      }

  -- afterwards the sender leaves that word alone, until it awaits that the value was taken
  record IsLeft (k : ℕ) (rest : List Answer) : Type 0 where
    during : List Answer
    later : List Answer
    whole : rest ≡ during ++ later
    quiet : NoWrite (slot q k) during
    waits : (later ≡ [])
        ⊎ ((found : ℕ) × (more : List Answer) × (later ≡ passes q.taken (k + 1) found ∷ more))

  left_at : (k room m t : ℕ) (vs : List ℕ) (rest : List Answer) → m ≡ k + t → 0 < t
      → t + room ≡ q.size → Gapped q m vs rest → IsLeft k rest
  left_at k room m t [] rest e more sum w = record {
    during = rest;
    later = [];
    whole = sym (append-nil rest);
    quiet = w.slots k;
    waits = inl refl;
  }
  left_at k zero m t (v ∷ vs) rest e more sum w =
      let least : m + 1 - q.size ≡ k + 1 = omega (arith, e, sum) in
      let tail : List Answer = w.4.tail ++ w.2 in
      record {
        during = w.0;
        later = w.1 ++ w.2;
        whole = w.5;
        quiet = w.3.slots k;
        waits =
            inr (
              w.4.found,
              tail,
              ap (λ (l : List Answer). l ++ w.2) w.4.begins
                  ∙ ap (λ n. passes q.taken n w.4.found ∷ tail) least,
            );
      }
  left_at k (suc room) m t (v ∷ vs) rest e more sum w =
      let u =
      left_at k room (m + 1) (t + 1) vs w.2 (omega (arith, e)) (omega arith) (omega (arith, sum))
      w.6 in
      let front : List Answer = w.0 ++ w.1 in
      let other : is_in (slot q k) (slot q m) ≡ false =
      ap (λ x. is_in (slot q k) (slot q x)) e ∙ other_slot k t more (omega (arith, sum)) in
      record {
        during = front ++ u.during;
        later = u.later;
        whole =
            w.5 ∙ sym (append_assoc w.0 w.1 w.2)
            ∙ ap (λ (l : List Answer). front ++ l) u.whole
            ∙ sym (append_assoc front u.during u.later);
        quiet =
            All-both (Unwritten (slot q k)) front u.during
            (All-both (Unwritten (slot q k)) w.0 w.1 (w.3.slots k) (w.4.elsewhere k other))
            u.quiet;
        waits = u.waits;
      }

  -- the taker's history up to the load of the k-th value
  record IsTaken (k n : ℕ) (v : ℕ) (h : List Answer) : Type 0 where
    start : List Answer
    found : ℕ
    rest : List Answer
    whole : h ≡ (start ++ passes q.sent (k + 1) found ∷ []) ++ loads (slot q k) v ∷ rest
    taken : times_advanced q.taken (start ++ passes q.sent (k + 1) found ∷ []) ≡ n

  taken_at : (n k : ℕ) (ws1 : List ℕ) (v : ℕ) (ws2 : List ℕ) (h : List Answer)
      → n + length ws1 ≡ k → TakesAll q n (ws1 ++ v ∷ ws2) h → IsTaken k (length ws1) v h
  taken_at n k [] v ws2 h e w =
      let same : n ≡ k = omega (arith, e) in
      let pass : Answer = passes q.sent (n + 1) w.1 in
      subst (λ m. IsTaken m 0 v h) same
      (record {
        start = w.0;
        found = w.1;
        rest = arrives q.taken ∷ w.2;
        whole = w.4 ∙ sym (append_assoc w.0 (pass ∷ []) (loads (slot q n) v ∷ arrives q.taken ∷
            w.2));
        taken =
            times_advanced-append q.taken w.0 (pass ∷ [])
            ∙ ap (λ x. x + 0) (no_advances q.taken w.0 w.3.taken);
      })
  taken_at n k (x ∷ xs) v ws2 h e w =
      let u = taken_at (n + 1) k xs v ws2 w.2 (omega (arith, e)) w.5 in
      let front : List Answer = w.0 ++ takes_value q n x w.1 in
      let pass : Answer = passes q.sent (k + 1) u.found in
      let none = no_advances q.taken w.0 w.3.taken in
      let one = one_taken n x w.1 in
      let sum = times_advanced-append q.taken front (u.start ++ pass ∷ []) in
      let sum' = times_advanced-append q.taken w.0 (takes_value q n x w.1) in
      let more = u.taken in
      record {
        start = front ++ u.start;
        found = u.found;
        rest = u.rest;
        whole =
            w.4
            ∙ sym (append_assoc w.0 (takes_value q n x w.1) w.2)
            ∙ ap (λ (l : List Answer). front ++ l) u.whole
            ∙ sym (append_assoc front (u.start ++ pass ∷ []) (loads (slot q k) v ∷ u.rest))
            ∙ ap (λ (l : List Answer). l ++ loads (slot q k) v ∷ u.rest) (sym (append_assoc front
            u.start (pass ∷ [])));
        taken =
            ap (times_advanced q.taken) (append_assoc front u.start (pass ∷ []))
            ∙ omega (arith, none, one, sum, sum', more);
      }

  -- a send with nothing between its calls
  sending_plain : (n v found : ℕ) → v < 2 ^ 64 → IsSending q n v (sends_value q n v found)
  sending_plain n v found fits = record {
    found = found;
    tail = stores (slot q n) v ∷ arrives q.sent ∷ [];
    begins = refl;
    pre = passes q.taken (n + 1 - q.size) found ∷ stores (slot q n) v ∷ [];
    ends = refl;
    none = (refl, (refl, tt));
    quiet = (refl, (refl, (apart', tt)));
    stored = λ x.
        ap (λ b. if b then v % 2 ^ 64 else x) (eq-eqb (slot q n / 8) (slot q n / 8) refl)
        ∙ mod-eq_of_lt fits;
    each = λ k. (
      whole_quiet (slot q k) (passes q.taken (n + 1 - q.size) found).call refl,
      (λ t. (refl, same_slot n k t), (whole_quiet (slot q k) (arrives q.sent).call refl, tt)),
    );
    elsewhere = λ k out. (refl, (out, (refl, tt)));
  }

  gapped_plain : (n : ℕ) (vs : List ℕ) (h : List Answer) → SendsAll q n vs h → Gapped q n vs h
  gapped_plain n [] h alone = alone
  gapped_plain n (v ∷ vs) h w = (
    w.0,
    sends_value q n v w.1,
    w.2,
    w.3,
    sending_plain n v w.1 w.4,
    w.5,
    gapped_plain (n + 1) vs w.2 w.6,
  )

-- the place of a value in a list, if it has so many
value_at : (vs : List ℕ) (k : ℕ)
    → ((front : List ℕ) × (v : ℕ) × (back : List ℕ) × (vs ≡ front ++ v ∷ back) × (length front ≡ k))
    ⊎ (length vs ≤ k)
value_at [] k = inr (omega arith)
value_at (v ∷ vs) zero = inl ([], v, vs, refl, refl)
value_at (v ∷ vs) (suc k) =
    elim (value_at vs k) [
      | inl w ↦
          inl (v ∷ w.0, w.1, w.2, ap (λ l. v ∷ l) w.3, (let e = w.4 in omega (arith, e)))
      | inr le ↦ inr (omega (arith, le))
    ]

-- a list that has each value of another one at its place begins with it
begins_with : (vs ws : List ℕ)
    → ((front : List ℕ) (w : ℕ) (back : List ℕ) → ws ≡ front ++ w ∷ back
    → (f : List ℕ) × (b : List ℕ) × (vs ≡ f ++ w ∷ b) × (length f ≡ length front))
    → (rest : List ℕ) × (vs ≡ ws ++ rest)
begins_with vs [] h = (vs, refl)
begins_with [] (w ∷ ws) h =
    let u = h [] w ws refl in absurd (none_at_end u.0 u.1 w (sym u.2))
begins_with (v ∷ vs) (w ∷ ws) h =
    let u = h [] w ws refl in
    let same : v ≡ w = heads v vs w u.0 u.1 u.2 u.3 in
    let next =
    begins_with vs ws
    (λ front x back e. tails v vs front x (h (w ∷ front) x back (ap (λ l. w ∷ l) e))) in
    (next.0, (cc (same, next.1)))
  where
    heads : (v : ℕ) (vs : List ℕ) (w : ℕ) (f b : List ℕ) → v ∷ vs ≡ f ++ w ∷ b → length f ≡ 0
        → v ≡ w
    heads v vs w [] b e len = (cc e)
    heads v vs w (x ∷ f) b e len = absurd (omega (arith, len))

    tails : (v : ℕ) (vs front : List ℕ) (x : ℕ)
        → (f : List ℕ) × (b : List ℕ) × (v ∷ vs ≡ f ++ x ∷ b) × (length f ≡ suc (length front))
        → (f : List ℕ) × (b : List ℕ) × (vs ≡ f ++ x ∷ b) × (length f ≡ length front)
    tails v vs front x w = by w.0 w.1 w.2 w.3
      where
        by : (f b : List ℕ) → v ∷ vs ≡ f ++ x ∷ b → length f ≡ suc (length front)
            → (f : List ℕ) × (b : List ℕ) × (vs ≡ f ++ x ∷ b) × (length f ≡ length front)
        by [] b e len = absurd (omega (arith, len))
        by (y ∷ f) b e len = (f, b, (cc e), (omega (arith, len)))

module _ (c : Config) (old new : Memory) (order : List Record) (q : Queue) (i j : ℕ)
    (vs ws : List ℕ) (run : LeadsThrough c old order new) (empty : IsEmptyQueue c old q)
    (sender : Gapped q 0 vs (answers_of i order)) (taker : TakesAll q 0 ws (answers_of j order))
    (others : (m : ℕ) → m < c.nodes → (m ≡ i → ⊥) → (m ≡ j → ⊥) → LeavesAlone q (answers_of m
    order))
  where
    only_sender : AdvancesAlone c old order q.sent 0 i
    only_sender = record {
      first = empty.sent;
      alone = λ m l ne.
          elim (cases_eq m j) [
            | inl same ↦
                subst (λ x. NoAdvance q.sent (answers_of x order)) (sym same)
                (taker_quiet q empty.some empty.aligned empty.two 0 ws (answers_of j order) taker)
            | inr ne' ↦ (others m l ne ne').sent
          ];
    }

    only_taker : AdvancesAlone c old order q.taken 0 j
    only_taker = record {
      first = empty.taken;
      alone = λ m l ne.
          elim (cases_eq m i) [
            | inl same ↦
                subst (λ x. NoAdvance q.taken (answers_of x order)) (sym same)
                (sender_quiet q empty.some empty.aligned empty.two 0 vs (answers_of i order) sender)
            | inr ne' ↦ (others m l ne' ne).taken
          ];
    }

    only_writer : (k m : ℕ) → m < c.nodes → (m ≡ i → ⊥) → NoWrite (slot q k) (answers_of m order)
    only_writer k m l ne =
        elim (cases_eq m j) [
          | inl same ↦
              subst (λ x. NoWrite (slot q k) (answers_of x order)) (sym same)
              (taker_reads q empty.some empty.aligned empty.two 0 ws (answers_of j order) taker k)
          | inr ne' ↦ (others m l ne ne').slots k
        ]

    abbrev Taken : List ℕ → ℕ → Type 0
    Taken front w = (f : List ℕ) × (b : List ℕ) × (vs ≡ f ++ w ∷ b) × (length f ≡ length front)

    -- as many were sent as are taken
    was_sent : (k n w : ℕ) → IsTaken q empty.some empty.aligned empty.two k n w (answers_of j order)
        → length vs ≤ k → ⊥
    was_sent k n w t le =
        let pass : Answer = passes q.sent (k + 1) t.found in
        let cut =
        part_cut j order t.start pass (loads (slot q k) w ∷ t.rest)
        (t.whole ∙ append_assoc t.start (pass ∷ []) (loads (slot q k) w ∷ t.rest)) in
        let wants =
        reached c old new cut.front (by j pass) cut.back q.sent 0 (k + 1) t.found i refl
        (subst (λ rs. ServesAll c old rs new) cut.whole run.led) empty.sent
        (subst (Each (Advancer q.sent i)) cut.whole
        (own_or (Quiet q.sent) i c.nodes order (nodes_there c old new order run.led)
        only_sender.alone)) in
        let parts : answers_of i order ≡ answers_of i cut.front ++ answers_of i (by j pass ∷
        cut.back) =
        ap (answers_of i) cut.whole ∙ answers_of-append i cut.front (by j pass ∷ cut.back) in
        let sum = tally-append (raised q.sent) (answers_of i cut.front) (answers_of i (by j pass ∷
        cut.back)) in
        let all = ap (tally (raised q.sent)) parts in
        let many = tally-times_advanced q.sent (answers_of i order) in
        let sent = all_sent q empty.some empty.aligned empty.two 0 vs (answers_of i order) sender in
        absurd (omega (arith, wants, sum, all, many, sent, le))

    is_sent : (k n w : ℕ) → n ≡ k
        → IsTaken q empty.some empty.aligned empty.two k n w (answers_of j order) → (f : List ℕ)
        (v : ℕ)
        (b : List ℕ) → vs ≡ f ++ v ∷ b → length f ≡ k → w ≡ v
    is_sent k n w same t f v b e len =
        let s =
        sent_at q empty.some empty.aligned empty.two 0 k f v b (answers_of i order)
        (omega (arith, len))
        (subst (λ xs. Gapped q 0 xs (answers_of i order)) e sender) in
        let some = empty.some in
        let u =
        left_at q empty.some empty.aligned empty.two k (q.size - 1) (k + 1) 1 b s.rest refl
        (omega arith)
        (omega (arith, some)) s.later in
        let sent = s.sent in
        let taken = t.taken in
        let found : Value w ≡ Value (last (slot q k) (word c old (slot q k)) s.before) =
        messages-pass c old new order (slot q k) q.sent 0 i j s.before u.during u.later t.start []
        t.rest (loads (slot q k) w) (k + 1) t.found run (empty.words k) only_sender (only_writer k)
        (s.whole ∙ ap (λ (l : List Answer). (s.before ++ arrives q.sent ∷ []) ++ l) u.whole) t.whole
        (omega (arith, sent, len)) s.each u.quiet
        (elim u.waits [
          | inl none ↦ inl none
          | inr x ↦
              inr (record {
                back = q.taken;
                count = 0;
                only = only_taker;
                least = k + 1;
                found = x.0;
                rest = x.1;
                whole = x.2;
                more = omega (arith, taken, same);
              })
        ]) (refl, refl, refl) in
        let there : w ≡ last (slot q k) (word c old (slot q k)) s.before = cc in
        there ∙ s.stored (word c old (slot q k))

    each_taken : (front : List ℕ) (w : ℕ) (back : List ℕ) → ws ≡ front ++ w ∷ back → Taken front w
    each_taken front w back e =
        let t =
        taken_at q empty.some empty.aligned empty.two 0 (length front) front w back (answers_of j
        order)
        (omega arith) (subst (λ xs. TakesAll q 0 xs (answers_of j order)) e taker) in
        elim (value_at vs (length front)) [
          | inl x ↦
              let same = is_sent (length front) (length front) w refl t x.0 x.1 x.2 x.3 x.4 in
              (x.0, x.2, x.3 ∙ ap (λ v. x.0 ++ v ∷ x.2) (sym same), x.4)
          | inr le ↦ absurd (was_sent (length front) (length front) w t le)
        ]

    pub in_order : (rest : List ℕ) × (vs ≡ ws ++ rest)
    in_order = begins_with vs ws each_taken

pub queues-keep_order : QueuesKeepOrder
queues-keep_order c old new order q i j vs ws run empty sender taker others =
    in_order c old new order q i j vs ws run empty
    (gapped_plain q empty.some empty.aligned empty.two 0 vs (answers_of i order) sender) taker
    others
