use Rattle.std.proofs.Common.{◌≡◌, ◌++◌, drop}
use Rattle.std.specs.List.{flat_map}
use Rattle.rules.specs.merge_rules.Refs.{types_of_sig}
use Rattle.token_keys.proofs.key_types.types.push_of_sigs.Given as goal

abbrev pub invariant-loop-sig : goal.invariant-loop-sig
invariant-loop-sig l = l.types.items ++ flat_map types_of_sig (drop l.sig-index l.sigs) ≡ l.initial.types.items ++ flat_map types_of_sig l.sigs
