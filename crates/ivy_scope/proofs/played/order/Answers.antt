use Rattle.std.proofs.Common.{rules, sym}
use Rattle.ivy_scope.proofs.played.order.Goals as goal

pub returns : goal.returns
returns g c = record {
  order = c.in-Some.records.items;
  is = search rules;
  printed = rw (sym c.deref.ensures.value) c.in_ok-print_order.ensures;
}
