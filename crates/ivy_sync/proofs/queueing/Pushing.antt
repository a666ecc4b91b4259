-- One value more is sent, or taken.
use Rattle.std.proofs.Common.{◌≡◌, ℕ, ◌+◌, ◌^◌, ◌<◌, List, [], ◌∷◌, ◌++◌, length, refl, sym, ap}
use Rattle.std.proofs.Common.{◌∙◌}
use Rattle.std.proofs.Common.{append_assoc, append-nil, arith, ◌/◌, ◌%◌, false}
use Rattle.std.proofs.lemmas.Bool.{ne_eqb}
use Rattle.std.proofs.lemmas.Nat.{mod_below}
use Rattle.ivy_calls.specs.declared.answer.Answer.{Answer}
use Rattle.ivy_sync.specs.meeting.Counts.{is_advance_of}
use Rattle.ivy_sync.specs.HeapWords.{is_write_in}
use Rattle.ivy_sync.proofs.answers.Lists.{All-both}
use Rattle.ivy_sync.specs.queueing.Queues.{slot, AreApart}
use Rattle.ivy_sync.specs.queueing.Queues.{sends_value, takes_value, LeavesAlone, SendsAll, TakesAll}
use Rattle.ivy_sync.specs.queueing.Queues.{AddsSend, AddsTake}
use Rattle.ivy_sync.specs.declared.queue.Queue.{Queue}

pub none_alone : (q : Queue) → LeavesAlone q []
none_alone q = record { sent = tt; taken = tt; slots = λ n. tt }

pub sends_push : (q : Queue) (n k : ℕ) (vs : List ℕ) (v : ℕ) (old new : List Answer)
    → SendsAll q n vs old → k ≡ n + length vs → v < 2 ^ 64 → AddsSend q k v old new
    → SendsAll q n (vs ++ v ∷ []) new
sends_push q n k [] v old new h e fits w =
    let same : k ≡ n = omega (arith, e) in (
      old,
      w.found,
      [],
      h,
      fits,
      w.whole
          ∙ ap (λ m. old ++ sends_value q m v w.found) same
          ∙ ap (λ (rs : List Answer). old ++ rs) (sym (append-nil (sends_value q n v w.found))),
      none_alone q,
    )
sends_push q n k (x ∷ xs) v old new h e fits w =
    let more : List Answer = h.2 ++ sends_value q k v w.found in (
      h.0,
      h.1,
      more,
      h.3,
      h.4,
      w.whole ∙ ap (λ (rs : List Answer). rs ++ sends_value q k v w.found) h.5
          ∙ append_assoc h.0 (sends_value q n x h.1 ++ h.2) (sends_value q k v w.found)
          ∙ ap (λ (rs : List Answer). h.0 ++ rs)
          (append_assoc (sends_value q n x h.1) h.2 (sends_value q k v w.found)),
      sends_push q (n + 1) k xs v h.2 more h.6 (omega (arith, e)) fits
          (record { found = w.found; whole = refl }),
    )

pub takes_push : (q : Queue) (n k : ℕ) (vs : List ℕ) (v : ℕ) (old new : List Answer)
    → TakesAll q n vs old → k ≡ n + length vs → AddsTake q k v old new
    → TakesAll q n (vs ++ v ∷ []) new
takes_push q n k [] v old new h e w =
    let same : k ≡ n = omega (arith, e) in (
      old,
      w.found,
      [],
      h,
      w.whole
          ∙ ap (λ m. old ++ takes_value q m v w.found) same
          ∙ ap (λ (rs : List Answer). old ++ rs) (sym (append-nil (takes_value q n v w.found))),
      none_alone q,
    )
takes_push q n k (x ∷ xs) v old new h e w =
    let more : List Answer = h.2 ++ takes_value q k v w.found in (
      h.0,
      h.1,
      more,
      h.3,
      w.whole ∙ ap (λ (rs : List Answer). rs ++ takes_value q k v w.found) h.4
          ∙ append_assoc h.0 (takes_value q n x h.1 ++ h.2) (takes_value q k v w.found)
          ∙ ap (λ (rs : List Answer). h.0 ++ rs)
          (append_assoc (takes_value q n x h.1) h.2 (takes_value q k v w.found)),
      takes_push q (n + 1) k xs v h.2 more h.5 (omega (arith, e))
          (record { found = w.found; whole = refl }),
    )

-- more answers that leave the queue alone
pub alone_both : (q : Queue) (xs ys : List Answer) → LeavesAlone q xs → LeavesAlone q ys
    → LeavesAlone q (xs ++ ys)
alone_both q xs ys h k = record {
  sent = All-both (λ (r : Answer). is_advance_of q.sent r.call ≡ false) xs ys h.sent k.sent;
  taken = All-both (λ (r : Answer). is_advance_of q.taken r.call ≡ false) xs ys h.taken k.taken;
  slots = λ n. All-both (λ (r : Answer). is_write_in (slot q n) r.call ≡ false) xs ys (h.slots n)
      (k.slots n);
}

pub sends_more : (q : Queue) (n : ℕ) (vs : List ℕ) (old more : List Answer) → SendsAll q n vs old
    → LeavesAlone q more → SendsAll q n vs (old ++ more)
sends_more q n [] old more h k = alone_both q old more h k
sends_more q n (v ∷ vs) old more h k = (
  h.0,
  h.1,
  h.2 ++ more,
  h.3,
  h.4,
  ap (λ (rs : List Answer). rs ++ more) h.5
      ∙ append_assoc h.0 (sends_value q n v h.1 ++ h.2) more
      ∙ ap (λ (rs : List Answer). h.0 ++ rs) (append_assoc (sends_value q n v h.1) h.2 more),
  sends_more q (n + 1) vs h.2 more h.6 k,
)

pub takes_more : (q : Queue) (n : ℕ) (vs : List ℕ) (old more : List Answer) → TakesAll q n vs old
    → LeavesAlone q more → TakesAll q n vs (old ++ more)
takes_more q n [] old more h k = alone_both q old more h k
takes_more q n (v ∷ vs) old more h k = (
  h.0,
  h.1,
  h.2 ++ more,
  h.3,
  ap (λ (rs : List Answer). rs ++ more) h.4
      ∙ append_assoc h.0 (takes_value q n v h.1 ++ h.2) more
      ∙ ap (λ (rs : List Answer). h.0 ++ rs) (append_assoc (takes_value q n v h.1) h.2 more),
  takes_more q (n + 1) vs h.2 more h.5 k,
)

-- of two queues that have nothing in common, what is done to one leaves the other alone
module _ (p q : Queue) (apart : AreApart p q) (some : 0 < p.size) where
  other_slot : (n m : ℕ) → slot p n / 8 ≡ slot q m / 8 → ⊥
  other_slot n m e =
      let below : n % p.size < p.size = mod_below n p.size some in
      let behind = apart.behind in
      let at_first = apart.first in
      let at_second = apart.second in
      omega (arith, e, below, behind, at_first, at_second)

  pub sends_leave : (n v found : ℕ) → LeavesAlone q (sends_value p n v found)
  sends_leave n v found = record {
    sent = (refl, (refl, (ne_eqb p.sent q.sent apart.sent, tt)));
    taken = (refl, (refl, (ne_eqb p.sent q.taken apart.sent_taken, tt)));
    slots = λ m. (refl, (ne_eqb (slot p n / 8) (slot q m / 8) (other_slot n m), (refl, tt)));
  }

  pub takes_leave : (n v found : ℕ) → LeavesAlone q (takes_value p n v found)
  takes_leave n v found = record {
    sent = (refl, (refl, (ne_eqb p.taken q.sent apart.taken_sent, tt)));
    taken = (refl, (refl, (ne_eqb p.taken q.taken apart.taken, tt)));
    slots = λ m. (refl, (refl, (refl, tt)));
  }

  -- and the other way round
  pub sends_leave_first : (n v found : ℕ) → LeavesAlone p (sends_value q n v found)
  sends_leave_first n v found = record {
    sent = (refl, (refl, (ne_eqb q.sent p.sent (λ e. apart.sent (sym e)), tt)));
    taken = (refl, (refl, (ne_eqb q.sent p.taken (λ e. apart.taken_sent (sym e)), tt)));
    slots = λ m.
        (refl, (ne_eqb (slot q n / 8) (slot p m / 8) (λ e. other_slot m n (sym e)), (refl, tt)));
  }

  pub takes_leave_first : (n v found : ℕ) → LeavesAlone p (takes_value q n v found)
  takes_leave_first n v found = record {
    sent = (refl, (refl, (ne_eqb q.taken p.sent (λ e. apart.sent_taken (sym e)), tt)));
    taken = (refl, (refl, (ne_eqb q.taken p.taken (λ e. apart.taken (sym e)), tt)));
    slots = λ m. (refl, (refl, (refl, tt)));
  }
