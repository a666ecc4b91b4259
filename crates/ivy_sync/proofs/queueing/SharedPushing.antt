-- One value more is sent under a lock.
use Rattle.std.proofs.Common.{◌≡◌, ℕ, ◌^◌, ◌<◌, false, List, [], ◌∷◌, ◌++◌, refl, ap, ◌∙◌, append_assoc}
use Rattle.ivy_calls.specs.declared.answer.Answer.{Answer}
use Rattle.ivy_sync.specs.declared.queue.Queue.{Queue}
use Rattle.ivy_sync.specs.meeting.Counts.{is_advance_of}
use Rattle.ivy_sync.specs.Doing.{asks, stores}
use Rattle.ivy_sync.specs.queueing.SharedQueues.{is_sending, sends_next, shares, Shares, LeavesShared, SharesAll}
use Rattle.ivy_sync.specs.HeapWords.{is_write_in}
use Rattle.ivy_sync.proofs.answers.Lists.{All-both}

pub none_shared : (a : ℕ) (q : Queue) → LeavesShared a q []
none_shared a q = record { sending = tt; taken = tt; lock = tt }

pub shared_both : (a : ℕ) (q : Queue) (xs ys : List Answer) → LeavesShared a q xs
    → LeavesShared a q ys → LeavesShared a q (xs ++ ys)
shared_both a q xs ys h k = record {
  sending = All-both (λ (r : Answer). is_sending q r.call ≡ false) xs ys h.sending k.sending;
  taken = All-both (λ (r : Answer). is_advance_of q.taken r.call ≡ false) xs ys h.taken k.taken;
  lock = All-both (λ (r : Answer). is_write_in a r.call ≡ false) xs ys h.lock k.lock;
}

shares-append : (a : ℕ) (q : Queue) (refusals : List Answer) (n value found : ℕ)
    (rest more : List Answer)
    → shares a q refusals n value found rest ++ more
    ≡ shares a q refusals n value found (rest ++ more)
shares-append a q refusals n value found rest more =
    append_assoc refusals (asks a 0 ∷ (sends_next q n value found ++ stores a 0 ∷ rest)) more

-- what comes after it
further : (a : ℕ) (q : Queue) (other refusals : List Answer) (n value found : ℕ)
    (rest old more : List Answer) → old ≡ other ++ shares a q refusals n value found rest
    → old ++ more ≡ other ++ shares a q refusals n value found (rest ++ more)
further a q other refusals n value found rest old more e =
    ap (λ (l : List Answer). l ++ more) e
    ∙ append_assoc other (shares a q refusals n value found rest) more
    ∙ ap (λ (l : List Answer). other ++ l) (shares-append a q refusals n value found rest more)

pub shares_more : (a : ℕ) (q : Queue) (vs : List ℕ) (old more : List Answer) → SharesAll a q vs old
    → LeavesShared a q more → SharesAll a q vs (old ++ more)
shares_more a q [] old more h k = shared_both a q old more h k
shares_more a q (v ∷ vs) old more h k =
    let b = h.0 in (
      record {
        other = b.other;
        alone = b.alone;
        refusals = b.refusals;
        each = b.each;
        n = b.n;
        found = b.found;
        rest = b.rest ++ more;
        fits = b.fits;
        whole = further a q b.other b.refusals b.n v b.found b.rest old more b.whole;
      },
      shares_more a q vs b.rest more h.1 k,
    )

pub shares_push : (a : ℕ) (q : Queue) (vs : List ℕ) (v : ℕ) (old new : List Answer)
    → SharesAll a q vs old → v < 2 ^ 64 → Shares a q v old new → SharesAll a q (vs ++ v ∷ []) new
shares_push a q [] v old new h fits w = (
  record {
    other = old;
    alone = h;
    refusals = w.refusals;
    each = w.each;
    n = w.n;
    found = w.found;
    rest = [];
    fits = fits;
    whole = w.whole;
  },
  none_shared a q,
)
shares_push a q (x ∷ xs) v old new h fits w =
    let b = h.0 in
    let more : List Answer = shares a q w.refusals w.n v w.found [] in (
      record {
        other = b.other;
        alone = b.alone;
        refusals = b.refusals;
        each = b.each;
        n = b.n;
        found = b.found;
        rest = b.rest ++ more;
        fits = b.fits;
        whole = w.whole ∙ further a q b.other b.refusals b.n x b.found b.rest old more b.whole;
      },
      shares_push a q xs v b.rest (b.rest ++ more) h.1 fits
          (record {
            refusals = w.refusals;
            each = w.each;
            n = w.n;
            found = w.found;
            whole = refl;
          }),
    )
