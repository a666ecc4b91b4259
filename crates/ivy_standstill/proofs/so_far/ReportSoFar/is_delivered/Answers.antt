use Rattle.std.proofs.Common.{rules, ◌≡◌, ◌∙◌, map, subst, sym}
use Rattle.ivy_standstill.specs.SoFar.{so_far_of, AreDelivered}
use Rattle.ivy_standstill.proofs.SoFar.{delivered_so_far}
use Rattle.ivy_standstill.proofs.so_far.ReportSoFar.is_delivered.Goals as goal

pub returns-in-Ok : goal.returns-in-Ok
returns-in-Ok g c =
    let same : map so_far_of c.deref.result.now ≡ c.args.self.now = search rules in
    λ t. subst AreDelivered same (delivered_so_far c.deref.result.now (c.is_delivered.ensures t))

pub is_delivered-requires : goal.is_delivered-requires
is_delivered-requires g c = record {
  each = c.deref.ensures.len ∙ sym c.len.ensures ∙ sym c.in-Ok.ensures.1;
}
