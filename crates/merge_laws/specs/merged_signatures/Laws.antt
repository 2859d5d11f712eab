-- What signatures and type tokens that a merge writes name, in the world of its output alone. They are of inputs, and name something
-- there; each type that they name is written.
use Rattle.std.specs.Prelude.{◌≡◌, ◌<◌, ℕ, suc, List, length, Some, Contains, slice_get}
use Rattle.il_base.specs.declared.ids.TypeId.{TypeId}
use Rattle.il_base.specs.declared.sig.Sig.{Sig}
use Rattle.il_base.specs.declared.sig.MethodSig.{MethodSig}
use Rattle.il_base.specs.declared.world_model.known.Known.TheVariants.{Good}
use Rattle.il_base.specs.declared.world_model.expr.TypeExpr.{TypeExpr}
use Rattle.il_base.specs.declared.world_model.record.AsmRec.{AsmRec}
use Rattle.il_base.specs.world_model.Worlds.{sig_expr}
use Rattle.rules.specs.declared.link_rules.row_at.RowAt.{RowAt}
use Rattle.rules.specs.declared.link_rules.member_type.MethodType.{MethodType}
use Rattle.rules.specs.link_rules.Members.{type_home}
use Rattle.rules.specs.link_rules.Signatures.{names_at, method_type, token_type}
use Rattle.rules.specs.merge_rules.Keys.{TypeKey, type_key, world_sig, world_method_sig}
use Rattle.rules.specs.merge_rules.Order.{met_type}
use Rattle.rules.specs.merge_rules.Refs.{types_of_sig, types_of_method_sig, types_of_key, new_sig, new_method_sig}
use Rattle.rules.specs.merge_rules.Moved.{moved_type}
use Rattle.rules.specs.change_rules.Moves.{move_expr, move_exprs}
use Rattle.rules.specs.merged_world_rules.Merge.{Merge, IsMerge, before, after, output}
use Rattle.rules.specs.merged_world_rules.NewNumbers.{type_core, rho_of}
use Rattle.merge_laws.specs.merged_references.Written.{HasReferenceRows, IsWritten}

-- A type that is written, and that the core library of the output's world has too, where it is the core library's. One of its table is
-- always there; a name that only modifiers use is there where a modifier of the output uses it (II.7.1.1).
pub record IsThere (m : Merge) (t : TypeId) : Type 0 where
  pub written : IsWritten m t
  pub stays : (at : RowAt) → type_home (before m) t ≡ Some at → suc at.asm ≡ length (before m) → (s : ℕ) × ((type_core m).to at.row ≡ Some s)

abbrev pub AreThere : Merge → List TypeId → Type 0
AreThere m ts = (t : TypeId) → Contains ts t → IsThere m t

abbrev pub OfInputs : ((m : Merge) (a : ℕ) (rec : AsmRec) → Type 0) → Type 0
OfInputs P = (m : Merge) → IsMerge m → HasReferenceRows m → (a : ℕ) (rec : AsmRec) → slice_get (before m) a ≡ Some rec → suc a < length (before m) → P m a rec

abbrev pub SignaturesMove : Type 0
SignaturesMove = OfInputs (λ m a rec. (s : Sig) (e : TypeExpr) → sig_expr (names_at (before m) a rec) s ≡ Good e → AreThere m (types_of_sig (world_sig (before m) a rec s))
    → sig_expr (names_at (after m) 0 m.left) (new_sig (output m) (world_sig (before m) a rec s)) ≡ Good (move_expr (rho_of m) e))

abbrev pub MethodTypesMove : Type 0
MethodTypesMove =
    OfInputs (λ m a rec. (s : MethodSig) (t : MethodType) → method_type (names_at (before m) a rec) s ≡ Good t → AreThere m (types_of_method_sig (world_method_sig (before m) a rec s))
    → method_type (names_at (after m) 0 m.left) (new_method_sig (output m) (world_method_sig (before m) a rec s)) ≡ Good (record t { ret = move_expr (rho_of m) t.ret; params = move_exprs (rho_of m) t.params }))

abbrev pub TokensMove : Type 0
TokensMove = OfInputs (λ m a rec. (token : ℕ) (e : TypeExpr) → token_type (before m) a rec token ≡ Good e
    → ((k : TypeKey) → type_key (before m) a rec token ≡ Some k → Contains (output m).mets (met_type k) × AreThere m (types_of_key k))
    → token_type (after m) 0 m.left (moved_type (output m) a rec token) ≡ Good (move_expr (rho_of m) e))
