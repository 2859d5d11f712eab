-- The new numbers and places of types, methods and fields of a merge.
use Rattle.std.specs.Prelude.{ℕ, ◌+◌, ◌-◌, List, length, Option, Some, slice_get, nat_lt, position, unwrap_or, if◌then◌else◌}
use Rattle.std.specs.Option.{option_map, option_and_then}
use Rattle.il_base.specs.world_model.Worlds.{types_in}
use Rattle.il_base.specs.core_table.Record.{core_record}
use Rattle.rules.specs.declared.link_rules.core_type_name.CoreTypeName.{CoreTypeName}
use Rattle.rules.specs.link_rules.CoreNames.{same_core_name}
use Rattle.rules.specs.link_rules.Members.{methods_in, fields_in}
use Rattle.rules.specs.merge_rules.Numbers.{kept_types, kept_methods, kept_fields}
use Rattle.rules.specs.change_rules.Change.{Rho, Keep, Undone, Change}
use Rattle.rules.specs.world_change_rules.Places.{Places}
use Rattle.rules.specs.merged_world_rules.Merge.{Merge, before, after, names_before, names_after}
use Rattle.rules.specs.merged_world_rules.Numbering.{CoreRows, same_rows, new_number, old_number, new_place}

-- ---- the core library: its own rows stay, and a name that only modifiers use is found again by itself

abbrev pub place_of_name : List CoreTypeName → CoreTypeName → Option ℕ
place_of_name names x = position (same_core_name x) names

-- The new row of a row of the core library: one of its `own` rows stays. One of the added `names` becomes the row of the same name
-- among `those`.
abbrev pub named_row : ℕ → List CoreTypeName → List CoreTypeName → ℕ → Option ℕ
named_row own names those r =
    if nat_lt r own then Some r else option_map (λ j. own + j) (option_and_then (place_of_name those) (slice_get names (r - own)))

abbrev pub core_rows : ℕ → List CoreTypeName → List CoreTypeName → CoreRows
core_rows own names those = record {
  to = named_row own names those;
  back = λ s. unwrap_or (named_row own those names s) 0;
  count = own + length those;
}

abbrev pub type_core : Merge → CoreRows
type_core m = core_rows (length core_record.type_def) (names_before m) (names_after m)

abbrev pub method_core : CoreRows
method_core = same_rows (length core_record.method_def)

abbrev pub field_core : CoreRows
field_core = same_rows (length core_record.field)

-- ---- numbers and places

abbrev pub rho_of : Merge → Rho
rho_of m = record {
  typ = new_number types_in (type_core m) (before m) (kept_types (before m) m.kept);
  method = new_number methods_in method_core (before m) (kept_methods (before m) m.kept);
  field = new_number fields_in field_core (before m) (kept_fields (before m) m.kept);
}

abbrev pub back_of : Merge → Rho
back_of m = record {
  typ = old_number types_in (type_core m) (before m) (kept_types (before m) m.kept);
  method = old_number methods_in method_core (before m) (kept_methods (before m) m.kept);
  field = old_number fields_in field_core (before m) (kept_fields (before m) m.kept);
}

abbrev pub change_of : (m : Merge) → Undone (back_of m) (rho_of m) → Keep → Change
change_of m undone keep = record { rho = rho_of m; back = back_of m; undone = undone; keep = keep }

abbrev pub places_of : Merge → Places
places_of m = record {
  typ = new_place types_in (type_core m) (after m) (before m) (kept_types (before m) m.kept);
  method = new_place methods_in method_core (after m) (before m) (kept_methods (before m) m.kept);
  field = new_place fields_in field_core (after m) (before m) (kept_fields (before m) m.kept);
}
