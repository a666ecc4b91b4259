-- What a call of these programs adds to what its node was answered.
use Rattle.std.specs.Prelude.{◌≡◌, List, ◌++◌}
use Rattle.std.specs.List.{AllByRecursion as Each, flat_map}
use Rattle.ivy_calls.specs.declared.answer.Answer.{Answer}

-- some answers were added, which are such ones
pub record AddsSome (Are : List Answer → Type 0) (old new : List Answer) : Type 0 where
  pub added : List Answer
  pub are : Are added
  pub whole : new ≡ old ++ added

-- some tries in vain were added
pub record AddsVain (InVain : List Answer → Type 0) (old new : List Answer) : Type 0 where
  pub vain : List (List Answer)
  pub each : Each InVain vain
  pub whole : new ≡ old ++ flat_map (λ try. try) vain

-- they are some tries in vain, and then one that was not
pub record TriesUntil (InVain Succeeds : List Answer → Type 0) (added : List Answer) : Type 0 where
  pub vain : List (List Answer)
  pub each : Each InVain vain
  pub last : List Answer
  pub succeeds : Succeeds last
  pub whole : added ≡ flat_map (λ try. try) vain ++ last
