use Rattle.std.proofs.Common.{rules}
use Rattle.std.proofs.lemmas.List.Sorted.{answers_always}
use Rattle.il_code.specs.declared.blocks.Block.{Block}
use Rattle.il_code.proofs.Order.{are_ordered}
use Rattle.il_code.proofs.blocks.sorted.Goals as goal

pub returns-clause-ordered : goal.returns-clause-ordered
returns-clause-ordered c =
    are_ordered c.sort_unstable_by_key.new.self.items
    (c.sort_unstable_by_key.ensures.sorted (λ (b : Block). (b.range.from, record { 0 = b.range.to }, b.shares)) (answers_always _ _ _ (λ f a r g h. search rules)))
