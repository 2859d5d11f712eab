use Rattle.std.proofs.Common.{◌≡◌, ◌++◌, map, drop}
use Rattle.std.specs.List.{flat_map}
use Rattle.rules.specs.merge_rules.Refs.{locals_of_met}
use Rattle.token_keys.specs.met_forms.Told.{met_told}
use Rattle.restrict.proofs.reference_types.locals.locals_sigs.Given as goal

abbrev pub invariant-loop-met : goal.invariant-loop-met
invariant-loop-met l = l.all.items ++ flat_map locals_of_met (map met_told (drop l.met-index l.mets)) ≡ flat_map locals_of_met (map met_told l.mets)
