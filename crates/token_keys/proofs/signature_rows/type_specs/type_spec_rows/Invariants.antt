use Rattle.std.proofs.Common.{◌≡◌, map, take}
use Rattle.token_keys.specs.signature_rows.Rows.{type_spec_by}
use Rattle.token_keys.proofs.signature_rows.type_specs.type_spec_rows.Given as goal

abbrev pub invariant-loop-sig : goal.invariant-loop-sig
invariant-loop-sig l = l.rows ≡ map (type_spec_by l.tokens) (take l.sig-index l.sigs)
