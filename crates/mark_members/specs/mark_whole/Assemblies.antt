-- The types of an assembly.
use Rattle.std.specs.Prelude.{ℕ, List, [], ◌∷◌, if◌then◌else◌}
use Rattle.il_base.specs.declared.world_model.types.TypeDefRow.{TypeDefRow}
use Rattle.il_base.specs.declared.world_model.record.AsmRec.{AsmRec}
use Rattle.rules.specs.link_rules.Types.{at_row}
use Rattle.rules.specs.type_rules.Rows.{each_row, is_module_type}
use Rattle.rules.specs.mark_rules.Facts.{Fact}
use Rattle.rules.specs.mark_rules.Places.{marks_type}
use Rattle.rules.specs.mark_rules.Roots.{all_members}

-- a type with all its members; `<Module>` is none
abbrev pub whole_type : List AsmRec → ℕ → ℕ → TypeDefRow → List Fact
whole_type recs a k t = if is_module_type k t then [] else marks_type recs (at_row a k) ∷ all_members recs (at_row a k)

abbrev pub types_kept : List AsmRec → ℕ → AsmRec → List Fact
types_kept recs a rec = each_row (whole_type recs a) rec.type_def
