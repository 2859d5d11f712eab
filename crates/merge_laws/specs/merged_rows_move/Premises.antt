-- What is asked of references and names where a merge's rows are read again.
use Rattle.std.specs.Prelude.{◌≡◌, ◌<◌, ◌==◌, ℕ, suc, List, [], ◌∷◌, length, map, Some, None, slice_get, IsTrue, false, true}
use Rattle.std.specs.List.{Contains, flat_map, filter}
use Rattle.il_base.specs.declared.table.TheConstants.{TYPE_DEF}
use Rattle.il_base.specs.declared.world_model.known.Known.TheVariants.{Good}
use Rattle.il_base.specs.declared.world_model.expr.TypeExpr.{TypeExpr}
use Rattle.il_base.specs.declared.world_model.types.TypeDefRow.{TypeDefRow}
use Rattle.il_base.specs.declared.world_model.types.InterfaceImplRow.{InterfaceImplRow}
use Rattle.il_base.specs.declared.world_model.members.MethodDefRow.{MethodDefRow}
use Rattle.il_base.specs.declared.world_model.members.MethodImplRow.{MethodImplRow}
use Rattle.il_base.specs.declared.world_model.record.AsmRec.{AsmRec}
use Rattle.il_base.specs.world_model.Records.{IsRecord}
use Rattle.il_base.specs.world_model.Tokens.{token_of, index_in}
use Rattle.il_base.specs.world_model.Worlds.{known_then, known_map}
use Rattle.rules.specs.declared.link_rules.row_at.RowAt.{RowAt}
use Rattle.rules.specs.link_rules.Types.{at_row, encloser}
use Rattle.rules.specs.link_rules.Signatures.{token_type, names_at, method_type}
use Rattle.rules.specs.link_rules.Members.{generic_method}
use Rattle.rules.specs.link_rules.Cycles.{listed}
use Rattle.rules.specs.link_rules.Linked.{link_fault_of}
use Rattle.rules.specs.type_rules.Dispatch.{good_use}
use Rattle.rules.specs.mark_rules.Places.{type_item, method_item, impl_item}
use Rattle.rules.specs.merge_rules.Numbers.{kept_types}
use Rattle.rules.specs.merge_rules.Names.{collision}
use Rattle.rules.specs.merge_rules.Keys.{TypeKey, type_key}
use Rattle.rules.specs.merge_rules.Order.{met_type}
use Rattle.rules.specs.merge_rules.Moved.{moved_type, moved_method_sig}
use Rattle.rules.specs.merge_rules.Restricted.{impl_row, has_kept_body}
use Rattle.rules.specs.change_rules.Change.{Keep}
use Rattle.rules.specs.change_rules.Moves.{move_expr}
use Rattle.rules.specs.change_rules.Keeps.{keeps_expr}
use Rattle.rules.specs.world_change_rules.Places.{type_number}
use Rattle.rules.specs.world_change_rules.Rows.{move_method_type, Impl, move_impl, impl_by, keeps_impl}
use Rattle.rules.specs.merged_world_rules.Merge.{Merge, before, after, output}
use Rattle.rules.specs.merged_world_rules.NewNumbers.{rho_of}

-- the output refers to what a token of an input names
abbrev pub IsMet : Merge → ℕ → AsmRec → ℕ → Type 0
IsMet m a rec token = (k : TypeKey) → type_key (before m) a rec token ≡ Some k → Contains (output m).mets (met_type k)

-- a token that names a type names the moved one in the output
abbrev pub ReadsTokens : Merge → Type 0
ReadsTokens m =
    (a : ℕ) (rec : AsmRec) (token : ℕ) (e : TypeExpr) → slice_get (before m) a ≡ Some rec → suc a < length (before m) → IsMet m a rec token → token_type (before m) a rec token ≡ Good e
    → token_type (after m) 0 m.left (moved_type (output m) a rec token) ≡ Good (move_expr (rho_of m) e)

-- a kept type's base has a reading, as where no marked item is bad
abbrev pub HasGoodBases : Merge → Type 0
HasGoodBases m =
    (at : RowAt) (rec : AsmRec) (t : TypeDefRow) → slice_get (before m) at.asm ≡ Some rec → slice_get rec.type_def at.row ≡ Some t → suc at.asm < length (before m)
    → m.kept (type_item (before m) at) ≡ true → (t.extends == 0) ≡ false → (e : TypeExpr) × (token_type (before m) at.asm rec t.extends ≡ Good e)

-- the interface of a kept row of a kept type has a reading, and is kept
pub record GoodInterface (m : Merge) (k : Keep) (a : ℕ) (rec : AsmRec) (row : InterfaceImplRow) : Type 0 where
  pub typ : TypeExpr
  pub reads : token_type (before m) a rec row.interface ≡ Good typ
  pub stays : IsTrue (keeps_expr k typ)

-- of rows whose class is kept: others aren't written
abbrev pub HasGoodInterfaces : Merge → Keep → Type 0
HasGoodInterfaces m k =
    (a i j : ℕ) (rec : AsmRec) (row : InterfaceImplRow) → slice_get (before m) a ≡ Some rec → slice_get rec.interface_impl i ≡ Some row → suc a < length (before m)
    → (row.class == token_of TYPE_DEF (suc j)) ≡ true → m.kept (type_item (before m) (at_row a j)) ≡ true → m.kept (impl_item (before m) (at_row a i)) ≡ true → GoodInterface m k a rec row

-- the declaration and the body that a MethodImpl row names, where both are there
abbrev pub uses_of : List AsmRec → ℕ → AsmRec → MethodImplRow → List Impl
uses_of recs a rec row =
    flat_map (λ d. map (impl_by d) (listed (good_use (generic_method recs a rec row.body)))) (listed (good_use (generic_method recs a rec row.declaration)))

-- A MethodImpl row of a kept class names in the output what it named, moved, if its body is kept; one that isn't written has no kept body.
pub record ReadsImpl (m : Merge) (k : Keep) (a : ℕ) (rec : AsmRec) (row : MethodImplRow) : Type 0 where
  pub kept : has_kept_body (output m) a rec row ≡ true → (class : ℕ)
      → uses_of (after m) 0 m.left (impl_row (output m) a rec row class) ≡ map (move_impl (rho_of m)) (filter (keeps_impl k) (uses_of (before m) a rec row))
  pub gone : has_kept_body (output m) a rec row ≡ false → filter (keeps_impl k) (uses_of (before m) a rec row) ≡ []

-- of rows whose class is kept: others aren't written, and what they name may be gone
abbrev pub ReadsImpls : Merge → Keep → Type 0
ReadsImpls m k =
    (a i j : ℕ) (rec : AsmRec) (row : MethodImplRow) → slice_get (before m) a ≡ Some rec → slice_get rec.method_impl i ≡ Some row → suc a < length (before m) → index_in TYPE_DEF row.class ≡ Some j
    → m.kept (type_item (before m) (at_row a j)) ≡ true → ReadsImpl m k a rec row

-- a kept method's signature is read in the output as it was, moved
abbrev pub ReadsSignatures : Merge → Type 0
ReadsSignatures m =
    (at : RowAt) (rec : AsmRec) (row : MethodDefRow) → slice_get (before m) at.asm ≡ Some rec → slice_get rec.method_def at.row ≡ Some row → suc at.asm < length (before m)
    → m.kept (method_item (before m) at) ≡ true
    → known_then (method_type (names_at (after m) 0 m.left)) (moved_method_sig (output m) at.asm rec row.signature)
    ≡ known_map (move_method_type (rho_of m)) (known_then (method_type (names_at (before m) at.asm rec)) row.signature)

-- Enclosers of kept types are kept, and those of shown ones shown; no shown type needs a new name; the output is a record that links.
pub record KeepsNames (m : Merge) (k : Keep) : Type 0 where
  pub enclosers : (at : RowAt) (rec : AsmRec) (j : ℕ) → slice_get (before m) at.asm ≡ Some rec → encloser rec at.row ≡ Some j → m.kept (type_item (before m) at) ≡ true
      → m.kept (type_item (before m) (at_row at.asm j)) ≡ true
  pub shown : (at : RowAt) (rec : AsmRec) (j : ℕ) → slice_get (before m) at.asm ≡ Some rec → encloser rec at.row ≡ Some j → IsTrue (k.shown (type_number (before m) at))
      → IsTrue (k.shown (type_number (before m) (at_row at.asm j)))
  pub apart : collision (before m) (λ t. k.shown t.0) (kept_types (before m) m.kept) ≡ None
  pub record_left : IsRecord m.left
  pub links_left : link_fault_of (m.left ∷ []) ≡ None
