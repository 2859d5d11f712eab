-- What tokens of members name in the world of a merge's output alone.
use Rattle.std.specs.Prelude.{◌≡◌, ◌<◌, ℕ, suc, length, Some, Bool, true, slice_get, Contains}
use Rattle.il_base.specs.declared.ids.TypeId.{TypeId}
use Rattle.il_base.specs.declared.sig.Sig.{Sig}
use Rattle.il_base.specs.declared.world_model.known.Known.TheVariants.{Good}
use Rattle.il_base.specs.declared.world_model.expr.TypeExpr.{TypeExpr}
use Rattle.il_base.specs.declared.world_model.members.FieldRow.{FieldRow}
use Rattle.il_base.specs.declared.world_model.record.AsmRec.{AsmRec}
use Rattle.il_base.specs.world_model.Records.{IsRecord}
use Rattle.il_base.specs.world_model.Worlds.{known_map, known_then, sig_expr}
use Rattle.rules.specs.declared.link_rules.row_at.RowAt.{RowAt}
use Rattle.rules.specs.link_rules.Members.{type_home}
use Rattle.rules.specs.link_rules.Signatures.{names_at}
use Rattle.rules.specs.mark_rules.Places.{field_item}
use Rattle.rules.specs.merge_rules.Keys.{world_sig}
use Rattle.rules.specs.merge_rules.Refs.{types_of_sig}
use Rattle.rules.specs.merge_rules.Moved.{moved_sig}
use Rattle.merge_laws.specs.merged_record.Laws.{OwnersAreKept}
use Rattle.rules.specs.change_rules.Change.{Keep}
use Rattle.rules.specs.change_rules.Moves.{move_expr}
use Rattle.rules.specs.merged_world_rules.Merge.{Merge, IsMerge, before, after, output}
use Rattle.rules.specs.merged_world_rules.NewNumbers.{rho_of}
use Rattle.rules.specs.merged_world_rules.Kept.{HasFlags}
use Rattle.merge_laws.specs.merged_rows_move.Premises.{ReadsSignatures, ReadsImpls}
use Rattle.merge_laws.specs.merged_references.Written.{HasReferenceRows}
use Rattle.trim_laws.specs.marked_merge_rules.Reads.{AllThere, KeepsMembers, ReadsCallees, ReadsFieldTokens}

-- a kept field's signature is read in the output as it was, moved
abbrev pub ReadsFieldSignatures : Merge → Type 0
ReadsFieldSignatures m =
    (at : RowAt) (rec : AsmRec) (row : FieldRow) → slice_get (before m) at.asm ≡ Some rec → slice_get rec.field at.row ≡ Some row → suc at.asm < length (before m) → m.kept (field_item (before m) at) ≡ true
    → known_then (sig_expr (names_at (after m) 0 m.left)) (moved_sig (output m) at.asm rec row.signature) ≡ known_map (move_expr (rho_of m)) (known_then (sig_expr (names_at (before m) at.asm rec)) row.signature)

-- the types of a signature of an input that has a reading are types of the world
abbrev pub HaveHomes : Merge → Type 0
HaveHomes m =
    (a : ℕ) (rec : AsmRec) (s : Sig) (e : TypeExpr) → slice_get (before m) a ≡ Some rec → suc a < length (before m) → sig_expr (names_at (before m) a rec) s ≡ Good e
    → (t : TypeId) → Contains (types_of_sig (world_sig (before m) a rec s)) t → (at : RowAt) × (type_home (before m) t ≡ Some at)

-- what is asked of a merge: what it meets is there and kept, and signatures of kept members are read
pub record Reads (m : Merge) (k : Keep) (kept : RowAt → Bool) : Type 0 where
  pub merge : IsMerge m
  pub flags : HasFlags m k kept
  pub rows : HasReferenceRows m
  pub there : AllThere m
  pub members : KeepsMembers m
  pub homes : HaveHomes m
  pub methods : ReadsSignatures m
  pub fields : ReadsFieldSignatures m
  pub owners : OwnersAreKept (before m) m.kept
  pub left : IsRecord m.left

abbrev pub ForReads : ((m : Merge) (k : Keep) → Type 0) → Type 0
ForReads P = (m : Merge) (k : Keep) (kept : RowAt → Bool) → Reads m k kept → P m k

abbrev pub CalleesRead : Type 0
CalleesRead = ForReads (λ m k. ReadsCallees m)

abbrev pub FieldTokensRead : Type 0
FieldTokensRead = ForReads (λ m k. ReadsFieldTokens m)

abbrev pub ImplsRead : Type 0
ImplsRead = ForReads (λ m k. ReadsImpls m k)
