-- What a step of a node comes to: it did all that its definition says, or nothing changed but that
-- the post was asked once. The post was `post` and is `then`.
use Rattle.std.specs.Prelude.{◌≡◌, ◌<◌, ◌⊎◌, Result, OnOk, OnErr, IfErr}
use Rattle.ivy_model.specs.declared.Fault.{Fault}
use Rattle.ivy_model.specs.declared.Fault.TheVariants.{Memory}
use Rattle.ivy_model.specs.stated.Limits.{most_pages}
use Rattle.ivy_model.specs.Wants.{RanOut}
use Rattle.ivy_wire.specs.Posts.{PostOps, HasRefused}
use Rattle.ivy_coherence.specs.stated.Coherent.{Coherent}
use Rattle.ivy_coherence.specs.stated.MessageSteps.{CoherenceEffect}

-- there was no memory for a page: only where there are more than a narrow configuration has, so that
-- pages are made when they are first written
abbrev pub IsWantOfPage : {S : Type 0} → Coherent S → Fault → Type 0
IsWantOfPage c fault = (most_pages < c.config.pages) × (fault ≡ Memory)

-- the node was `old` and is `new`
pub record IsStep {P A S : Type 0} (ops : PostOps P) (post then : P) (r : Result A Fault)
    (old new : Coherent S) (effect : CoherenceEffect S) : Type 0 where
  pub ok : OnOk r (new ≡ effect.after)
  pub posted : OnOk r (then ≡ ops.after post effect.posted)
  pub took : OnOk r (ops.takes post effect.posted)
  pub err : OnErr r (new ≡ old)
  pub fault : IfErr r (λ fault. (IsWantOfPage old fault × (then ≡ post))
      ⊎ HasRefused ops post then effect.posted fault)
  pub want : IfErr r RanOut
