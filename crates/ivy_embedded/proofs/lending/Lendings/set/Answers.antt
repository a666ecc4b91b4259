use Rattle.std.proofs.Common.{◌≡◌, ◌-◌, arith, ap}
use Rattle.ivy_embedded.specs.declared.lending.Lendings.TheInside.{Inside}
use Rattle.ivy_embedded.proofs.LentPages.{lent_few}
use Rattle.ivy_embedded.proofs.lending.Lendings.set.Goals as goal
use Rattle.ivy_embedded.proofs.lending.Lendings.set.Goals.{then-ne, else-ne}

pub overflow_add-self : goal.overflow_add-self
overflow_add-self c =
    let few = lent_few c.self.inside.each.items in
    let count = c.self.invariant.0 in
    let long = c.self.invariant.1 in
    elim c.if-ne.branch [
      | then-ne w ↦
          let less : c.if-ne.self-inside.lent ≡ c.self.inside.lent - 1 =
          ap (λ (i : Inside). i.lent) w.self-inside-is in omega (arith, few, count, long, less)
      | else-ne w ↦
          let same : c.if-ne.self-inside.lent ≡ c.self.inside.lent =
          ap (λ (i : Inside). i.lent) w.self-inside-is in omega (arith, few, count, long, same)
    ]
