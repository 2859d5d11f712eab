use Rattle.std.proofs.Common.{◌≡◌, ◌++◌, map, drop}
use Rattle.std.specs.List.{flat_map}
use Rattle.token_keys.specs.key_codes.Keys as coded
use Rattle.restrict.specs.member_rows.Rows.{member_ref_by}
use Rattle.restrict.proofs.member_rows.members.rows_of.Given as goal

abbrev pub invariant-loop-key : goal.invariant-loop-key
invariant-loop-key l = l.rows ++ flat_map (member_ref_by l.parts) (map coded.member_key (drop l.key-index l.members)) ≡ flat_map (member_ref_by l.parts) (map coded.member_key l.members)
