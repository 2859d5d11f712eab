use Rattle.std.proofs.Common.{◌≡◌, ◌++◌, map, drop}
use Rattle.token_keys.specs.key_codes.Keys as coded
use Rattle.restrict.specs.member_rows.Rows.{method_spec_by}
use Rattle.restrict.proofs.member_rows.instances.rows_of.Given as goal

abbrev pub invariant-loop-key : goal.invariant-loop-key
invariant-loop-key l = l.rows ++ map (method_spec_by l.parts) (map coded.instance_key (drop l.key-index l.instances)) ≡ map (method_spec_by l.parts) (map coded.instance_key l.instances)
