-- The types that are nested in a type.
use Rattle.std.specs.Prelude.{ℕ, List, [], ◌∷◌, length, map, Some, if◌then◌else◌, unwrap_or}
use Rattle.std.specs.List.{AllZip, range_with_len}
use Rattle.il_base.specs.declared.world_model.record.AsmRec.{AsmRec}
use Rattle.rules.specs.declared.link_rules.row_at.RowAt.{RowAt}
use Rattle.rules.specs.link_rules.Types.{at_row, encloser, same_place}
use Rattle.type_tables.specs.declared.groups.Groups.{Groups}
use Rattle.type_tables.specs.Groups.{AreGroups}
use Rattle.descriptor_texts.specs.declared.nested_types.nested.NestedTypes.{NestedTypes}

-- by what a type is grouped
abbrev pub key_of : AsmRec → ℕ → ℕ
key_of rec k = unwrap_or (encloser rec k) 4294967295

abbrev pub keys_of : AsmRec → List ℕ
keys_of rec = map (key_of rec) (range_with_len 0 (length rec.type_def))

-- a type, where it is nested in another
abbrev pub nested_at : AsmRec → RowAt → ℕ → List RowAt
nested_at rec at k = if same_place (encloser rec k) (Some at.row) then at_row at.asm k ∷ [] else []

abbrev pub AreNestedIn : AsmRec → Groups → Type 0
AreNestedIn rec groups = AreGroups (keys_of rec) groups

abbrev pub AreNested : List AsmRec → NestedTypes → Type 0
AreNested recs n = AllZip AreNestedIn recs n.groups.items
