-- It owns nothing.
use denote.RattleType.{RattleType}
use denote.Param.Send.{IsSend, IsSync, part_keyless}
use Rattle.ivy_model.specs.contracts.story.Story.{the_row}

owned_so : (T : RattleType) → IsSend (the_row T)
owned_so T = record { owned = λ d vs. ((λ vss. (tt, ((λ uss. (tt, tt)), tt))), tt); leaving = λ k f vs. tt }

pub sync : (T : RattleType) → IsSync (the_row T)
sync T = record { shared = λ d b o κ q. part_keyless (the_row T) (owned_so T) q d b o }
