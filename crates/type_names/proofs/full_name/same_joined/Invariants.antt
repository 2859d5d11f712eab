use Rattle.std.proofs.Common.{◌≡◌, drop}
use Rattle.il_base.specs.world_model.Core.{same_name}
use Rattle.rules.specs.type_rules.Texts.{full_name_of}
use Rattle.type_names.proofs.full_name.same_joined.Given as goal

abbrev pub invariant-loop-i : goal.invariant-loop-i
invariant-loop-i l =
    same_name (drop l.i (full_name_of l.namespace l.name)) (drop l.i (full_name_of l.with l.other))
    ≡ same_name (full_name_of l.namespace l.name) (full_name_of l.with l.other)
