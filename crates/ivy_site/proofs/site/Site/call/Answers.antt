-- Eight is a width of words.
use Rattle.std.proofs.Common.{refl, arith}
use Rattle.ivy_site.proofs.site.Site.call.Goals as goal

pub call_in_place-requires : goal.call_in_place-requires
call_in_place-requires g c = record { width = (3, omega arith, refl) }

pub call_in_place-requires-in-Store-eq8-default-default : goal.call_in_place-requires-in-Store-eq8-default-default
call_in_place-requires-in-Store-eq8-default-default g c = record { width = (3, omega arith, refl) }
