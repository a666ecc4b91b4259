use Rattle.std.proofs.Common.{ltb, ltb-true, ltb-false, arith, rules}
use Rattle.std.proofs.lemmas.List.Sorted.{IsPartitionPoint-from_clause, IsPartitionedBy-ltb}
use Rattle.ivy_alloc.proofs.Given.{starts_rise}
use Rattle.ivy_alloc.proofs.extent.place_of.Goals as goal

pub returns-clause-before : goal.returns-clause-before
returns-clause-before c =
    let parted = IsPartitionedBy-ltb (λ e. e.start) _ c.args.start (starts_rise _ c.requires) in
    let point =
    IsPartitionPoint-from_clause (λ e. ltb e.start c.args.start) _ _
    c.partition_point.ensures.partitioned parted (λ a r q k. search rules) in
    λ k d h. ltb-true _ _ (point.0 k d (omega arith) h)

pub returns-clause-after : goal.returns-clause-after
returns-clause-after c =
    let parted = IsPartitionedBy-ltb (λ e. e.start) _ c.args.start (starts_rise _ c.requires) in
    let point =
    IsPartitionPoint-from_clause (λ e. ltb e.start c.args.start) _ _
    c.partition_point.ensures.partitioned parted (λ a r q k. search rules) in
    λ k d f h. ltb-false _ _ (point.1 k d f h)
