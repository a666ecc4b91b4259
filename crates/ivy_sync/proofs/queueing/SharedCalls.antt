-- What a send under a lock leaves.
use Rattle.std.proofs.Common.{◌≡◌, ℕ, inl, inr, List, [], ◌∷◌, ◌++◌, subst}
use Rattle.ivy_model.specs.declared.call.Call.TheVariants.{Store}
use Rattle.ivy_model.specs.declared.fault.Fault.{Fault}
use Rattle.ivy_calls.specs.declared.answer.Answer.{Answer}
use Rattle.ivy_calls.specs.declared.error.CallError.{CallError}
use Rattle.ivy_calls.specs.Fails.{Fails}
use Rattle.ivy_sync.specs.declared.error.SyncError.{SyncError}
use Rattle.ivy_sync.specs.declared.error.SyncError.TheVariants as error
use Rattle.ivy_sync.specs.declared.queue.Queue.{Queue}
use Rattle.ivy_sync.specs.Doing.{Locks}
use Rattle.ivy_sync.specs.Failing.{FailsToSend}
use Rattle.ivy_sync.specs.queueing.Queues.{AddsSend}
use Rattle.ivy_sync.specs.queueing.SharedQueues.{counts, FailsToShare}

module _ (can : Fault → Type 0) (a : ℕ) (q : Queue) (value n : ℕ) (old held mid new : List Answer)
    (locks : Locks a old held) where
  pub send_stops : (e : SyncError) → mid ≡ held ++ counts q.sent n ∷ []
      → FailsToSend can q n value e mid new → FailsToShare can a q value e old new
  send_stops (error.Call e) so fails =
      inr (
        held,
        locks,
        inr (inl (
          n,
          subst (λ h. FailsToSend can q n value
              (error.Call e) h new) so fails,
        )),
      )
  send_stops (error.Spent place) so fails =
      inr (
        held,
        locks,
        (
          n,
          subst (λ h. FailsToSend can q n value
              (error.Spent place) h new) so fails,
        ),
      )

  pub release_stops : (e : CallError) (sent : List Answer) → mid ≡ held ++ counts q.sent n ∷ []
      → AddsSend q n value mid sent → Fails can (Store 8 a 0) e sent new
      → FailsToShare can a q value (error.Call e) old new
  release_stops e sent so w fails =
      inr (held, locks, inr (inr (n, sent, subst (λ h. AddsSend q n value h sent) so w, fails)))
