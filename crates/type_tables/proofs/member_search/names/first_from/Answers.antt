use Rattle.std.proofs.Common.{ltb, ltb-true, arith, rules}
use Rattle.std.proofs.lemmas.Bool.{ltb-false}
use Rattle.std.proofs.lemmas.List.Sorted.{IsPartitionPoint-from_clause, IsPartitionedBy-ltb}
use Rattle.type_tables.proofs.member_search.names.first_from.Goals as goal

pub returns-clause-before : goal.returns-clause-before
returns-clause-before c =
    let parted = IsPartitionedBy-ltb (λ x. x) c.args.rows.now c.args.start c.requires in
    let point = IsPartitionPoint-from_clause (λ x. ltb x c.args.start) _ _ c.partition_point.ensures.partitioned parted (λ a r q k. search rules) in
    λ k h. ltb-true _ _ (point.0 k 0 (omega arith) h)

pub returns-clause-behind : goal.returns-clause-behind
returns-clause-behind c =
    let parted = IsPartitionedBy-ltb (λ x. x) c.args.rows.now c.args.start c.requires in
    let point = IsPartitionPoint-from_clause (λ x. ltb x c.args.start) _ _ c.partition_point.ensures.partitioned parted (λ a r q k. search rules) in
    λ k h l. ltb-false _ _ (point.1 k 0 h l)
