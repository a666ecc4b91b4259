use Rattle.std.proofs.Common.{sym, subst, arith}
use Rattle.ivy_dynamic.specs.stated.Dynamic.{Hints, dynamic_ops}
use Rattle.ivy_dynamic.specs.DynamicLaws.{steady_new}
use Rattle.ivy_pagetable.specs.Manager.{IsNew}
use Rattle.test_surface.specs.declared.common.TheConstants.{PAIR}
use Rattle.test_surface.proofs.layers.sending_on.Goals as goal

pub sending_on-requires-clause-fresh : goal.sending_on-requires-clause-fresh
sending_on-requires-clause-fresh g c =
    subst (λ (s : Hints). IsNew dynamic_ops PAIR 1 s) (sym c.requires)
    (steady_new PAIR 1 (omega arith))
