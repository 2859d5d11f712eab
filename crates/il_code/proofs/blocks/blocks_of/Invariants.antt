use Rattle.std.proofs.Common.{◌≡◌, ◌++◌, drop}
use Rattle.il_code.specs.Blocks.{blocks_from, AreBounded}
use Rattle.il_code.proofs.blocks.blocks_of.Given as goal

abbrev pub invariant-loop-i : goal.invariant-loop-i
invariant-loop-i l = record {
  items : l.blocks.items ++ blocks_from l.i (drop l.i l.all) ≡ blocks_from 0 l.all;
  bounded : AreBounded l.blocks.items;
}
