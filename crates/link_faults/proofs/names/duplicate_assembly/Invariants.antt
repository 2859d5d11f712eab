use Rattle.std.proofs.Common.{◌≡◌, drop}
use Rattle.std.specs.HashSet.{contains_by}
use Rattle.il_base.specs.world_model.Core.{same_name}
use Rattle.rules.specs.link_rules.Faults.{duplicate_assembly}
use Rattle.link_faults.specs.Names.{taken_by}
use Rattle.link_faults.proofs.names.duplicate_assembly.Given as goal

abbrev pub invariant-loop-file : goal.invariant-loop-file
invariant-loop-file l = taken_by (λ name. contains_by (λ k. same_name name k.now) l.names) l.file (drop l.file l.recs) ≡ duplicate_assembly l.recs
