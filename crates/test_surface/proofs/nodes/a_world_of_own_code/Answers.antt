use Rattle.std.proofs.Common.{refl, arith}
use Rattle.test_surface.proofs.nodes.a_world_of_own_code.Goals as goal

pub hand-requires : goal.hand-requires
hand-requires g c = (3, omega arith, refl)
