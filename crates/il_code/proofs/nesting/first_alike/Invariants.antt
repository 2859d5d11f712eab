use Rattle.il_code.specs.Blocks.{IsRun}
use Rattle.il_code.specs.Nesting.{IsFirstAlike}
use Rattle.il_code.proofs.nesting.first_alike.Given as goal

abbrev pub invariant-loop-at : goal.invariant-loop-at
invariant-loop-at l = record {
  run : IsRun l.blocks l.run l.at;
  first : IsFirstAlike l.blocks l.at l.first;
}
