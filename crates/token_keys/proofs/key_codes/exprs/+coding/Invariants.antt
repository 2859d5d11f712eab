use Rattle.std.proofs.Common.{◌≡◌, ◌++◌, drop}
use Rattle.std.specs.List.{flat_map}
use Rattle.link_faults.specs.Codes.{type_code}
use Rattle.token_keys.proofs.key_codes.exprs.+coding.Given as goal

abbrev pub invariant-add_exprs-loop-ty : goal.invariant-add_exprs-loop-ty
invariant-add_exprs-loop-ty l = l.code.items ++ flat_map type_code (drop l.ty-index l.types) ≡ l.initial.code.items ++ flat_map type_code l.types
