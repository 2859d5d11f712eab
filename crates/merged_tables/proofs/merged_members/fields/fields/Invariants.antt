use Rattle.std.proofs.Common.{◌≡◌, ◌++◌, drop}
use Rattle.std.specs.List.{flat_map}
use Rattle.merged_tables.specs.merged_members.Members.{field_of}
use Rattle.merged_tables.proofs.merged_members.fields.fields.Given as goal

abbrev pub invariant-loop-at : goal.invariant-loop-at
invariant-loop-at l = l.rows ++ flat_map (field_of l.recs l.tokens) (drop l.at-index l.places) ≡ flat_map (field_of l.recs l.tokens) l.places
