use Rattle.std.proofs.Common.{rules, zero-le, leb}
use Rattle.std.proofs.lemmas.List.Sorted.{IsPartitionPoint-from_clause, IsPartitionedBy-leb}
use Rattle.rv_isa.proofs.Levels.{filter_prefix}
use Rattle.rv_isa.proofs.arrivals.count_until.Goals as goal

pub returns-clause-not_later : goal.returns-clause-not_later
returns-clause-not_later c =
    let point = IsPartitionPoint-from_clause (λ a. leb a.cycle c.args.cycle) _ _ c.partition_point.ensures.partitioned
    (IsPartitionedBy-leb (λ a. a.cycle) _ c.args.cycle c.requires) (λ a r q k. search rules) in
    filter_prefix (λ a. leb a.cycle c.args.cycle) _ _ (λ k d lt. point.0 k d zero-le lt) point.1
    c.partition_point.ensures.bound
