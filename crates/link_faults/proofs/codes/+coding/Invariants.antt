use Rattle.std.proofs.Common.{◌≡◌, ◌++◌, drop}
use Rattle.std.specs.List.{flat_map}
use Rattle.link_faults.specs.Codes.{type_code}
use Rattle.link_faults.proofs.codes.+coding.Given as goal

abbrev pub invariant-add_types-loop-ty : goal.invariant-add_types-loop-ty
invariant-add_types-loop-ty l = l.code ++ flat_map type_code (drop l.ty-index l.types) ≡ l.initial.code ++ flat_map type_code l.types
