-- The names under which an enum is found from an assembly.
use Rattle.std.specs.Prelude.{ℕ, List, ◌++◌, Option, Some, None}
use Rattle.std.specs.List.{flat_map}
use Rattle.il_base.specs.declared.world_model.record.AsmRec.{AsmRec}
use Rattle.attr_blobs.specs.declared.value.EnumSize.{EnumSize}
use Rattle.rules.specs.mark_rules.Attributes.{sized}
use Rattle.attribute_values.specs.declared.enum_names.named.EnumType.{EnumType}

-- with the name of an assembly, or without one
abbrev pub sized_under : List AsmRec → ℕ → EnumType → Option (List ℕ) → List EnumSize
sized_under recs from e asm = sized recs from e.id e.size (record { path = e.path; asm = asm })

-- with each of these names of its assembly
abbrev pub named_under : List AsmRec → ℕ → EnumType → List (List ℕ) → List EnumSize
named_under recs from e own = flat_map (λ name. sized_under recs from e (Some name)) own

-- with all
abbrev pub names_under : List AsmRec → ℕ → EnumType → List (List ℕ) → List EnumSize
names_under recs from e own = sized_under recs from e None ++ named_under recs from e own
