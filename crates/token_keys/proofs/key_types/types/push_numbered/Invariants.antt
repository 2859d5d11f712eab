use Rattle.std.proofs.Common.{◌≡◌, ◌++◌, drop}
use Rattle.std.specs.List.{flat_map}
use Rattle.rules.specs.merge_rules.Refs.{type_of_number}
use Rattle.token_keys.proofs.key_types.types.push_numbered.Given as goal

abbrev pub invariant-loop-number : goal.invariant-loop-number
invariant-loop-number l = l.types.items ++ flat_map type_of_number (drop l.number-index l.numbers) ≡ l.initial.types.items ++ flat_map type_of_number l.numbers
