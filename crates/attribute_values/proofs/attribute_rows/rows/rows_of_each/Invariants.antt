use Rattle.std.proofs.Common.{◌≡◌, ◌++◌, drop}
use Rattle.std.specs.List.{flat_map}
use Rattle.mark_parts.specs.mark_tables.Assemblies.{rec_of}
use Rattle.attribute_values.specs.attribute_rows.Parents.{rows_of_token}
use Rattle.attribute_values.proofs.attribute_rows.rows.rows_of_each.Given as goal

abbrev pub invariant-loop-token : goal.invariant-loop-token
invariant-loop-token l = l.rows.items ++ flat_map (rows_of_token (rec_of l.asm)) (drop l.token-index l.tokens) ≡ flat_map (rows_of_token (rec_of l.asm)) l.tokens
