use Rattle.std.proofs.Common.{refl, arith}
use Rattle.ivy_embedded.proofs.embedded.make_call.Goals as goal

pub call_in_place-requires : goal.call_in_place-requires
call_in_place-requires c = record { width = (3, omega arith, refl) }

pub call_in_place-requires-in-Store-eq8-default-default : goal.call_in_place-requires-in-Store-eq8-default-default
call_in_place-requires-in-Store-eq8-default-default c = record { width = (3, omega arith, refl) }
