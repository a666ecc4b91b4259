-- What serving and posting comes to: it did all that its definition says, or nothing changed but
-- that the post was asked once. The post was `post` and is `then`.
use Rattle.std.specs.Prelude.{◌≡◌, ℕ, Result, OnOk, OnErr, IfOk, IfErr}
use Rattle.ivy_model.specs.declared.Fault.{Fault}
use Rattle.ivy_model.specs.Wants.{RanOut}
use Rattle.ivy_wire.specs.Posts.{PostOps, HasRefused}
use Rattle.ivy_pagetable.specs.stated.States.{IdleState}
use Rattle.ivy_coherence.specs.stated.Serving.{Serving}

-- Messages were served, and what comes of that was posted: what the entry is then; the manager and
-- the count of messages that fitted no rule, as they were and are.
pub record HasServed {P S : Type 0} (ops : PostOps P) (post then : P) (r : Result IdleState Fault)
    (old new : S) (count counted : ℕ) (v : Serving S) : Type 0 where
  pub idle : IfOk r (λ i. i ≡ v.idle)
  pub manager : OnOk r (new ≡ v.manager)
  pub breaches : OnOk r (counted ≡ v.breaches)
  pub posted : OnOk r (then ≡ ops.after post v.posted)
  pub took : OnOk r (ops.takes post v.posted)
  pub err : OnErr r ((new ≡ old) × (counted ≡ count))
  pub fault : IfErr r (HasRefused ops post then v.posted)
  pub want : IfErr r RanOut
