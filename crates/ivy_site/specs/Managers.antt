-- The manager of a node as the definitions see it.
use Rattle.ivy_site.specs.declared.manager.Either.{Either}
use Rattle.ivy_site.specs.declared.manager.Either.TheVariants as either
use Rattle.ivy_host.specs.stated.Managers.{Managed, Fixed, Dynamic}

abbrev pub managed : {A : Type 0} → Either A → Managed
managed (either.Fixed s) = Fixed s
managed (either.Dynamic s) = Dynamic s
