-- What is asked of a merge besides the laws' other premises: signatures of fields, and enclosers.
use Rattle.std.specs.Prelude.{◌≡◌, ◌<◌, ℕ, suc, length, Some, slice_get, true}
use Rattle.il_base.specs.declared.world_model.members.FieldRow.{FieldRow}
use Rattle.il_base.specs.declared.world_model.record.AsmRec.{AsmRec}
use Rattle.il_base.specs.world_model.Worlds.{known_then, known_map, sig_expr}
use Rattle.rules.specs.declared.link_rules.row_at.RowAt.{RowAt}
use Rattle.rules.specs.link_rules.Types.{at_row, encloser}
use Rattle.rules.specs.link_rules.Signatures.{names_at}
use Rattle.rules.specs.mark_rules.Places.{type_item, field_item}
use Rattle.rules.specs.merge_rules.Moved.{moved_sig}
use Rattle.rules.specs.change_rules.Moves.{move_expr}
use Rattle.rules.specs.merged_world_rules.Merge.{Merge, before, after, output}
use Rattle.rules.specs.merged_world_rules.NewNumbers.{rho_of}

-- a kept field's signature is read in the output as it was, moved
abbrev pub ReadsFieldSignatures : Merge → Type 0
ReadsFieldSignatures m =
    (at : RowAt) (rec : AsmRec) (row : FieldRow) → slice_get (before m) at.asm ≡ Some rec → slice_get rec.field at.row ≡ Some row → suc at.asm < length (before m)
    → m.kept (field_item (before m) at) ≡ true
    → known_then (sig_expr (names_at (after m) 0 m.left)) (moved_sig (output m) at.asm rec row.signature)
    ≡ known_map (move_expr (rho_of m)) (known_then (sig_expr (names_at (before m) at.asm rec)) row.signature)

-- the type around a kept type is kept (II.22.32)
abbrev pub KeepsEnclosers : Merge → Type 0
KeepsEnclosers m =
    (at : RowAt) (rec : AsmRec) (j : ℕ) → slice_get (before m) at.asm ≡ Some rec → encloser rec at.row ≡ Some j → m.kept (type_item (before m) at) ≡ true
    → m.kept (type_item (before m) (at_row at.asm j)) ≡ true
