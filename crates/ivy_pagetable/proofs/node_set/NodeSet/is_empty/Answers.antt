use Rattle.std.proofs.Common.{◌≡◌, eqb, IsTrue, ◌↔◌, arith, subst}
use Rattle.std.specs.FinSet as set
use Rattle.ivy_pagetable.proofs.Bits.{emptiness}
use Rattle.ivy_pagetable.proofs.node_set.NodeSet.is_empty.Goals as goal

pub returns : goal.returns
returns c =
    subst (λ s. IsTrue (eqb c.self.inside.bits 0) ↔ (s ≡ set.empty)) c.self.view_is
    (emptiness c.self.inside.bits (omega (arith, c.self.invariant)))
