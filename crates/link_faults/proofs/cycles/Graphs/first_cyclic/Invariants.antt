use Rattle.std.proofs.Common.{◌≡◌, drop}
use Rattle.il_base.specs.declared.world_model.record.AsmRec.{AsmRec}
use Rattle.rules.specs.link_rules.Faults.{first_of, cyclic_type, cyclic_types}
use Rattle.link_faults.proofs.cycles.Graphs.first_cyclic.Given as goal

abbrev pub invariant-loop-file : goal.invariant-loop-file
invariant-loop-file l =
    first_of (λ i (rec : AsmRec). first_of (cyclic_type l.scope.all.now i) 0 rec.type_def) l.file (drop l.file l.recs) ≡ cyclic_types l.scope.all.now l.recs
