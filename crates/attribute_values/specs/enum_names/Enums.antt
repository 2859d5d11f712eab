-- The enums of an assembly, and the assembly from which names find them.
use Rattle.std.specs.Prelude.{◌≡◌, ℕ, suc, List, [], length, if◌then◌else◌}
use Rattle.il_base.specs.declared.world_model.record.AsmRec.{AsmRec}
use Rattle.il_base.specs.world_model.Worlds.{type_id}
use Rattle.attr_blobs.specs.declared.value.EnumSize.{EnumSize}
use Rattle.rules.specs.link_rules.Types.{at_row}
use Rattle.rules.specs.type_rules.Rows.{is_enum, each_row}
use Rattle.rules.specs.mark_rules.Attributes.{enum_size, enum_names, path_within, names_of_assembly}
use Rattle.mark_parts.specs.mark_tables.Assemblies.{recs_of, place_of, rec_of, all_of, IsAssembly, IsMarker}
use Rattle.attribute_values.specs.declared.enum_names.named.EnumType.{EnumType}
use Rattle.attribute_values.specs.declared.enum_names.enums.Source.{Source}
use Rattle.attribute_values.specs.enum_names.Names.{names_under}

abbrev pub all_recs : Source → List AsmRec
all_recs s = all_of s.marker.now

abbrev pub own_rec : Source → AsmRec
own_rec s = rec_of s.asm.now

pub record IsSource (s : Source) : Type 0 where
  pub marker : IsMarker s.marker.now
  pub names : s.names.now ≡ all_recs s
  pub asm : IsAssembly s.asm.now
  pub recs : recs_of s.asm.now ≡ all_recs s
  pub own : s.own.now ≡ names_of_assembly (all_recs s) (place_of s.asm.now) (own_rec s)

-- what is kept of the enum in a row of an assembly
abbrev pub enum_of : List AsmRec → ℕ → AsmRec → ℕ → EnumType
enum_of recs a rec k = record { id = type_id recs a k; size = enum_size recs (at_row a k); path = path_within rec (suc (length rec.type_def)) k }

-- the sizes that the type in a row gives, if it is an enum
abbrev pub enum_names_at : Source → ℕ → List EnumSize
enum_names_at s k =
    if is_enum (all_recs s) (at_row (place_of s.asm.now) k) then names_under (all_recs s) s.from (enum_of (all_recs s) (place_of s.asm.now) (own_rec s) k) s.own.now else []

-- the sizes that the types of an assembly give
abbrev pub enums_in : List AsmRec → ℕ → ℕ → AsmRec → List EnumSize
enums_in recs from a rec = each_row (enum_names recs from a rec) rec.type_def
