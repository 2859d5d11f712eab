use Rattle.std.proofs.Common.{◌≡◌, Some}
use Rattle.std.specs.List.{slice_get}
use Rattle.il_code.specs.Around.{HasBegun}
use Rattle.il_code.specs.Blocks.{IsRun}
use Rattle.il_code.specs.Nesting.{IsFirstWithin}
use Rattle.il_code.specs.declared.blocks.Block.{Block}
use Rattle.il_code.proofs.nesting.first_within.Given as goal

abbrev pub invariant-loop-at : goal.invariant-loop-at
invariant-loop-at l = record {
  run : IsRun l.blocks l.run l.at;
  first : IsFirstWithin l.blocks l.at l.first;
  begun : (c : Block) → slice_get l.blocks l.run ≡ Some c → HasBegun l.blocks l.run c.range.from l.begun;
}
