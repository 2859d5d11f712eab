-- What a kept method of a marked merge is in the world of the output alone: all that it was, under new numbers.
use Rattle.std.specs.Prelude.{◌≡◌, ◌<◌, ℕ, suc, List, length, Option, Some, Bool, IsTrue, Contains, slice_get}
use Rattle.il_base.specs.declared.ids.TypeId.{TypeId}
use Rattle.il_base.specs.declared.sig.Sig.{Sig}
use Rattle.descriptor_file.specs.declared.root.Root.{Root}
use Rattle.il_base.specs.declared.world_model.known.Known.TheVariants.{Good}
use Rattle.il_base.specs.declared.world_model.expr.TypeExpr.{TypeExpr}
use Rattle.il_base.specs.declared.world_model.record.AsmRec.{AsmRec}
use Rattle.il_base.specs.world_model.Worlds.{sig_expr}
use Rattle.rules.specs.declared.link_rules.row_at.RowAt.{RowAt}
use Rattle.rules.specs.link_rules.Members.{type_home}
use Rattle.rules.specs.link_rules.Signatures.{names_at}
use Rattle.rules.specs.merge_rules.Keys.{world_sig}
use Rattle.rules.specs.merge_rules.Refs.{types_of_sig}
use Rattle.rules.specs.change_rules.Change.{Keep, Undone}
use Rattle.rules.specs.world_change_rules.Places.{keeps_method_row}
use Rattle.rules.specs.world_change_rules.Rows.{MethodMoves}
use Rattle.rules.specs.merged_world_rules.Merge.{Merge, before, after}
use Rattle.rules.specs.merged_world_rules.NewNumbers.{rho_of, back_of, change_of, places_of}
use Rattle.rules.specs.merged_world_rules.Kept.{HasFlags}
use Rattle.merge_laws.specs.merged_rows_move.Premises.{ReadsTokens, ReadsSignatures}
use Rattle.trim_laws.specs.marked_merge_rules.Merges.{IsMarkedMerge}
use Rattle.trim_laws.specs.marked_merge_rules.Reads.{AllThere, ReadsCallees, ReadsFieldTokens}

-- the types in a signature of an input that has a reading are there
abbrev pub HaveHomes : Merge → Type 0
HaveHomes m =
    (a : ℕ) (rec : AsmRec) (s : Sig) (e : TypeExpr) (t : TypeId) → slice_get (before m) a ≡ Some rec → suc a < length (before m) → sig_expr (names_at (before m) a rec) s ≡ Good e
    → Contains (types_of_sig (world_sig (before m) a rec s)) t → (at : RowAt) × (type_home (before m) t ≡ Some at)

-- what the output's references and signatures name is what those of the inputs name, moved
pub record ReadsCode (m : Merge) : Type 0 where
  pub tokens : ReadsTokens m
  pub callees : ReadsCallees m
  pub fields : ReadsFieldTokens m
  pub signatures : ReadsSignatures m
  pub there : AllThere m
  pub homes : HaveHomes m

-- then all of a kept method moves, its body too
abbrev pub MovesMethods : Type 0
MovesMethods =
    (m : Merge) (entry : Option RowAt) (roots : List Root) (k : Keep) (kept : RowAt → Bool) → IsMarkedMerge m entry roots → HasFlags m k kept → ReadsCode m → (undone : Undone (back_of m) (rho_of m)) → (at : RowAt)
    → IsTrue (keeps_method_row k (before m) at) → MethodMoves (change_of m undone k) (places_of m) (after m) (before m) at
