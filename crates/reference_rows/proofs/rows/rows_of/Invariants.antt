use Rattle.std.proofs.Common.{◌≡◌, ◌++◌, drop}
use Rattle.std.specs.List.{flat_map}
use Rattle.reference_rows.specs.Types.{type_ref_by}
use Rattle.reference_rows.proofs.rows.rows_of.Given as goal

abbrev pub invariant-loop-id : goal.invariant-loop-id
invariant-loop-id l = l.rows ++ flat_map (type_ref_by l.tokens l.assemblies) (drop l.id-index l.ids) ≡ flat_map (type_ref_by l.tokens l.assemblies) l.ids
