use Rattle.std.proofs.Common.{◌≡◌, ◌++◌, drop}
use Rattle.rules.specs.mark_rules.Naming.{type_parts}
use Rattle.mark_parts.proofs.sigs.add_types.Given as goal

abbrev pub invariant-loop-ty : goal.invariant-loop-ty
invariant-loop-ty l = l.parts ++ type_parts l.row (drop l.ty-index l.types) ≡ l.initial.parts ++ type_parts l.row l.types
