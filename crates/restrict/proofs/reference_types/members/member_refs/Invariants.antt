use Rattle.std.proofs.Common.{◌≡◌, ◌++◌, map, drop}
use Rattle.std.specs.List.{flat_map}
use Rattle.token_keys.specs.key_codes.Keys as coded
use Rattle.rules.specs.merge_rules.Refs.{members_of_met}
use Rattle.token_keys.specs.met_forms.Told.{met_told}
use Rattle.restrict.proofs.reference_types.members.member_refs.Given as goal

abbrev pub invariant-loop-met : goal.invariant-loop-met
invariant-loop-met l =
    map coded.member_key l.all.items ++ flat_map members_of_met (map met_told (drop l.met-index l.mets)) ≡ flat_map members_of_met (map met_told l.mets)
