-- The stretches that begin at the RVA or before it stand before the others.
use Rattle.std.proofs.Common.{◌-◌, leb, leb-true, sym, arith, rules}
use Rattle.std.proofs.lemmas.Bool.{leb-false}
use Rattle.std.proofs.lemmas.List.Sorted.{IsPartitionPoint-from_clause, IsPartitionedBy-leb}
use Rattle.pe_image.specs.declared.stretches.Stretch.{Stretch}
use Rattle.pe_image.proofs.Looking.{in_order, found_before, found_at}
use Rattle.pe_image.proofs.stretches.find.Goals as goal

pub returns-then-passed-eq0 : goal.returns-then-passed-eq0
returns-then-passed-eq0 c =
    let parted = IsPartitionedBy-leb (λ (s : Stretch). s.from) c.args.stretches.now c.from-rva.result (in_order 0 _ c.requires) in
    let point = IsPartitionPoint-from_clause (λ (s : Stretch). leb s.from c.from-rva.result) _ _ c.partition_point-passed.ensures.partitioned parted (λ a r q k. search rules) in
    sym (found_before _ _ _ (λ i d h. omega (arith, c.from-rva.ensures, leb-false _ _ (point.1 i d (omega arith) h))))

pub returns : goal.returns
returns c =
    let parted = IsPartitionedBy-leb (λ (s : Stretch). s.from) c.args.stretches.now c.from-rva.result (in_order 0 _ c.requires) in
    let point = IsPartitionPoint-from_clause (λ (s : Stretch). leb s.from c.from-rva.result) _ _ c.partition_point-passed.ensures.partitioned parted (λ a r q k. search rules) in
    sym (found_at _ _ _ (c.partition_point-passed.result - 1) _ (omega arith)
    (λ i d h. omega (arith, c.from-rva.ensures, leb-true _ _ (point.0 i d (omega arith) (omega arith))))
    (λ i d h l. omega (arith, c.from-rva.ensures, leb-false _ _ (point.1 i d (omega arith) l))))
