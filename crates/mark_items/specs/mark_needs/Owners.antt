-- The needs of members, in pieces.
use Rattle.std.specs.Prelude.{List, [], ◌∷◌, ◌++◌, map, slice_get, Bool, if◌then◌else◌}
use Rattle.std.specs.List.{flat_map, filter}
use Rattle.il_base.specs.declared.world_model.record.AsmRec.{AsmRec}
use Rattle.il_base.specs.world_model.Worlds.{type_id}
use Rattle.rules.specs.declared.link_rules.row_at.RowAt.{RowAt}
use Rattle.rules.specs.link_rules.Types.{at_row}
use Rattle.rules.specs.link_rules.Cycles.{listed}
use Rattle.rules.specs.type_rules.Rows.{fields_of_type, is_enum, is_instance_field, owner_of_field, rec_at}
use Rattle.rules.specs.mark_rules.Facts.{Fact}
use Rattle.rules.specs.mark_rules.Facts.Fact.{instantiated}
use Rattle.rules.specs.mark_rules.Places.{marks_type, marks_field}

-- the type of a field
abbrev pub field_owner_facts : List AsmRec → RowAt → List Fact
field_owner_facts recs at = flat_map (λ (rec : AsmRec). map (λ t. marks_type recs (at_row at.asm t)) (listed (owner_of_field rec at.row))) (listed (rec_at recs at))

-- of these fields all, or those of instances
abbrev pub laid : Bool → List AsmRec → List RowAt → List RowAt
laid with_static recs rows = if with_static then rows else filter (is_instance_field recs) rows

-- that a field is marked, where it is an instance's
abbrev pub instance_fact : List AsmRec → RowAt → List Fact
instance_fact recs at = if is_instance_field recs at then marks_field recs at ∷ [] else []

-- what the layout of a value type needs
abbrev pub value_needs : List AsmRec → RowAt → List Fact
value_needs recs at = instantiated (type_id recs at.asm at.row) ∷ map (marks_field recs) (laid (is_enum recs at) recs (fields_of_type recs at))
