-- The first type of an assembly, where it has the name `<Module>`, has the assembly's global members (II.22.37).
use Rattle.std.specs.Prelude.{◌≡◌, ◌<◌, suc, length, Option, Some, List, true, false}
use Rattle.descriptor_file.specs.declared.root.Root.{Root}
use Rattle.il_base.specs.world_model.Worlds.{types_in}
use Rattle.rules.specs.declared.link_rules.row_at.RowAt.{RowAt}
use Rattle.rules.specs.link_rules.Types.{at_row}
use Rattle.rules.specs.mark_rules.BadItems.{is_global}
use Rattle.rules.specs.mark_rules.Places.{type_item}
use Rattle.rules.specs.merged_world_rules.Merge.{Merge, before, after}
use Rattle.rules.specs.merged_world_rules.Numbering.{number_at}
use Rattle.merge_laws.proofs.lemmas.merged_places.Ranks.{rank}
use Rattle.merge_laws.proofs.lemmas.merged_places.Rows.{IsThere}
use Rattle.merge_laws.proofs.lemmas.merged_places.Kept.{keeps}
use Rattle.merge_laws.proofs.lemmas.merged_places.Tables.{number_type}
use Rattle.trim_laws.specs.marked_merge_rules.Merges.{IsMarkedMerge}

-- A kept type that isn't `<Module>` of its input isn't that of the output, where its row is its place among the kept ones.
abbrev pub ModulesStay : Type 0
ModulesStay =
    (m : Merge) (entry : Option RowAt) (roots : List Root) → IsMarkedMerge m entry roots → (t : RowAt) → IsThere types_in (before m) t → suc t.asm < length (before m) → m.kept (type_item (before m) t) ≡ true
    → is_global (before m) (Some t) ≡ false → is_global (after m) (Some (at_row 0 (rank (keeps types_in (before m) number_type m.kept) (number_at types_in (before m) t)))) ≡ false
