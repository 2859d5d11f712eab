use Rattle.std.proofs.Common.{◌≡◌, drop}
use Rattle.il_base.specs.declared.world_model.record.AsmRec.{AsmRec}
use Rattle.rules.specs.link_rules.Faults.{first_of, cyclic_nesting_row, cyclic_nesting}
use Rattle.link_faults.proofs.nesting.cyclic_nesting.Given as goal

abbrev pub invariant-loop-file : goal.invariant-loop-file
invariant-loop-file l = first_of (λ i (rec : AsmRec). first_of (cyclic_nesting_row rec i) 0 rec.nested_class) l.file (drop l.file l.recs) ≡ cyclic_nesting l.recs
