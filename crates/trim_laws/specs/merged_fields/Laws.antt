-- What a kept field of a merge that keeps exactly what is marked is in the world of the output alone: all that it was, its type moved.
use Rattle.std.specs.Prelude.{◌≡◌, ◌<◌, suc, List, length, Option, Some, Bool, true, IsTrue, slice_get}
use Rattle.std.specs.Option.{option_map}
use Rattle.descriptor_file.specs.declared.root.Root.{Root}
use Rattle.il_base.specs.declared.world_model.members.FieldRow.{FieldRow}
use Rattle.il_base.specs.declared.world_model.record.AsmRec.{AsmRec}
use Rattle.il_base.specs.world_model.Records.{IsRecord}
use Rattle.il_base.specs.world_model.Worlds.{known_map, known_then, sig_expr}
use Rattle.rules.specs.declared.link_rules.row_at.RowAt.{RowAt}
use Rattle.rules.specs.link_rules.Signatures.{names_at}
use Rattle.rules.specs.view_rules.Methods as view
use Rattle.rules.specs.mark_rules.Places.{field_item}
use Rattle.rules.specs.change_rules.Change.{Keep}
use Rattle.rules.specs.change_rules.Moves.{move_expr}
use Rattle.rules.specs.change_rules.Answers.{move_field}
use Rattle.rules.specs.world_change_rules.Places.{keeps_field_row}
use Rattle.rules.specs.merge_rules.Moved.{moved_sig}
use Rattle.rules.specs.merged_world_rules.Merge.{Merge, before, after, output}
use Rattle.rules.specs.merged_world_rules.NewNumbers.{rho_of, places_of}
use Rattle.rules.specs.merged_world_rules.Kept.{HasFlags}
use Rattle.trim_laws.specs.marked_merge_rules.Merges.{IsMarkedMerge}

-- a kept field's signature is read in the output as it was, moved
abbrev pub ReadsFieldSignatures : Merge → Type 0
ReadsFieldSignatures m =
    (at : RowAt) (rec : AsmRec) (row : FieldRow) → slice_get (before m) at.asm ≡ Some rec → slice_get rec.field at.row ≡ Some row → suc at.asm < length (before m)
    → m.kept (field_item (before m) at) ≡ true
    → known_then (sig_expr (names_at (after m) 0 m.left)) (moved_sig (output m) at.asm rec row.signature)
    ≡ known_map (move_expr (rho_of m)) (known_then (sig_expr (names_at (before m) at.asm rec)) row.signature)

-- `field` of FieldMoves (rules/specs/world_change_rules/Rows)
abbrev pub MovesFields : Type 0
MovesFields =
    (m : Merge) (entry : Option RowAt) (roots : List Root) (k : Keep) (kept : RowAt → Bool) → IsMarkedMerge m entry roots → HasFlags m k kept → IsRecord m.left → ReadsFieldSignatures m
    → (at : RowAt) → IsTrue (keeps_field_row k (before m) at)
    → view.field_at (after m) ((places_of m).field at) ≡ option_map (move_field (rho_of m)) (view.field_at (before m) at)
