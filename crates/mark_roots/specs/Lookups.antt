-- What is made of a world to look up what descriptors name.
use Rattle.std.specs.Prelude.{ℕ, List, ◌∷◌, Bool, slice_get}
use Rattle.std.specs.List.{list_any}
use Rattle.il_base.specs.declared.world_model.members.FieldRow.{FieldRow}
use Rattle.il_base.specs.declared.world_model.record.AsmRec.{AsmRec}
use Rattle.il_base.specs.world_model.Core.{same_name}
use Rattle.il_base.specs.world_model.Worlds.{known_then, sig_expr}
use Rattle.descriptor_file.specs.declared.root.Root.{Root}
use Rattle.descriptor_file.specs.declared.root.RootMember.{RootMember}
use Rattle.rules.specs.declared.link_rules.row_at.RowAt.{RowAt}
use Rattle.rules.specs.link_rules.Signatures.{names_at}
use Rattle.rules.specs.link_rules.Cycles.{listed}
use Rattle.rules.specs.mark_rules.Facts.{Fact}
use Rattle.rules.specs.mark_rules.Places.{marks_type}
use Rattle.rules.specs.mark_rules.Annotations.{good_expr}
use Rattle.rules.specs.mark_rules.Roots.{field_text, field_fits, root_members}
use Rattle.mark_parts.specs.mark_tables.Assemblies.{all_of, IsMarker}
use Rattle.descriptor_texts.specs.slashed_names.Names.{AreNames}
use Rattle.descriptor_texts.specs.descriptor_types.Types.{AreTypes}
use Rattle.mark_roots.specs.declared.lookup.Lookup.{Lookup}

abbrev pub recs_in : Lookup → List AsmRec
recs_in l = all_of l.marker.now

pub record IsLookup (l : Lookup) : Type 0 where
  pub marker : IsMarker l.marker.now
  pub names : AreNames (recs_in l) l.names.now
  pub types : AreTypes (recs_in l) l.types.now

-- whether the text of a field is the one that a member element has
abbrev pub fields_fit_by : List AsmRec → ℕ → AsmRec → RootMember → RowAt → FieldRow → Bool
fields_fit_by recs asm rec r t f = list_any (λ e. same_name (field_text recs rec t f.name e) r.text) (good_expr (known_then (sig_expr (names_at recs asm rec)) f.signature))

-- whether an assembly has a field, and a member element names it
abbrev pub field_fits_in : List AsmRec → RootMember → RowAt → RowAt → AsmRec → Bool
field_fits_in recs r t at rec = list_any (field_fits recs r t at rec) (listed (slice_get rec.field at.row))

-- a type, and the members that an element keeps
abbrev pub root_kept : List AsmRec → Root → RowAt → List Fact
root_kept recs r t = marks_type recs t ∷ root_members recs t r
