-- The tables of a world in which the names of dependencies are looked up.
use Rattle.std.specs.Prelude.{◌≡◌, List, ◌∷◌, map}
use Rattle.std.specs.List.{flat_map}
use Rattle.il_base.specs.declared.ids.Item.{Item}
use Rattle.il_base.specs.declared.world_model.record.AsmRec.{AsmRec}
use Rattle.rules.specs.declared.link_rules.row_at.RowAt.{RowAt}
use Rattle.rules.specs.link_rules.Types.{at_row}
use Rattle.rules.specs.link_rules.Cycles.{listed}
use Rattle.rules.specs.type_rules.Rows.{owner_of_field, rec_at}
use Rattle.rules.specs.mark_rules.Facts.{Fact}
use Rattle.rules.specs.mark_rules.Places.{marks_type}
use Rattle.rules.specs.mark_rules.Dependencies.{dependency_members, dependency_facts}
use Rattle.attribute_values.specs.declared.dependency_forms.dependency.Dependency.{Dependency}
use Rattle.attribute_values.specs.dependency_forms.Told.{dependency_told}
use Rattle.mark_parts.specs.mark_tables.Assemblies.{all_of, IsMarker}
use Rattle.descriptor_texts.specs.nested_types.Nested.{AreNested}
use Rattle.mark_dependencies.specs.declared.lookup.Lookup.{Lookup}

abbrev pub recs_in : Lookup → List AsmRec
recs_in l = all_of l.marker.now

pub record IsLookup (l : Lookup) : Type 0 where
  pub marker : IsMarker l.marker.now
  pub nested : AreNested (recs_in l) l.nested.now
  pub names : l.names.now ≡ recs_in l

-- the type that has a field
abbrev pub field_owner : List AsmRec → RowAt → List RowAt
field_owner recs at = flat_map (λ (rec : AsmRec). map (at_row at.asm) (listed (owner_of_field rec at.row))) (listed (rec_at recs at))

-- the facts that a dependency gives, and those that it gives of a type
abbrev pub told_facts : List AsmRec → Item → RowAt → Dependency → List Fact
told_facts recs i at d = dependency_facts recs i at (dependency_told d)

abbrev pub kept_of : List AsmRec → Dependency → RowAt → List Fact
kept_of recs d t = marks_type recs t ∷ dependency_members recs (dependency_told d) t
