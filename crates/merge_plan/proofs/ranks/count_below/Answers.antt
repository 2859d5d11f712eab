use Rattle.std.proofs.Common.{ltb, sym, arith, rules}
use Rattle.std.proofs.lemmas.List.Sorted.{IsPartitionPoint-from_clause, IsPartitionedBy-ltb}
use Rattle.merge_plan.proofs.Ranking.{passing}
use Rattle.merge_plan.proofs.ranks.count_below.Goals as goal

pub returns : goal.returns
returns c =
    let parted = IsPartitionedBy-ltb (λ x. x) c.args.ranks.now c.args.end c.requires in
    let point = IsPartitionPoint-from_clause (λ x. ltb x c.args.end) _ _ c.partition_point.ensures.partitioned parted (λ a r q k. search rules) in
    sym (passing (λ x. ltb x c.args.end) c.args.ranks.now c.partition_point.result c.partition_point.ensures.bound (λ k d lt. point.0 k d (omega arith) lt) (λ k d le lt. point.1 k d le lt))
