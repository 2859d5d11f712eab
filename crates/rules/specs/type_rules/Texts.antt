-- A type's text: its namespace, a full stop and its name; a nested type's name alone, after its encloser and `+`; arguments
-- in brackets after a constructed type, `[]` after an array's element, `&` after what is referred to.
use Rattle.std.specs.Prelude.{ℕ, zero, suc, List, [], ◌∷◌, ◌++◌, length, codes, Option, Some, None, slice_get, Bool, true, false}
use Rattle.std.specs.Fmt.{decimal}
use Rattle.il_base.specs.declared.ids.TypeId.{TypeId}
use Rattle.il_base.specs.declared.world_model.expr.TypeExpr.{TypeExpr, fold-TypeExpr}
use Rattle.il_base.specs.declared.world_model.expr.TypeExpr.TheOpen.{TypeExpr-F}
use Rattle.il_base.specs.declared.world_model.types.TypeDefRow.{TypeDefRow}
use Rattle.il_base.specs.declared.world_model.record.AsmRec.{AsmRec}
use Rattle.il_base.specs.world_model.Worlds.{prim_type}
use Rattle.rules.specs.declared.link_rules.row_at.RowAt.{RowAt}
use Rattle.rules.specs.link_rules.Types.{encloser}
use Rattle.rules.specs.link_rules.Members.{type_home}

-- ---- names of definitions

-- a type's full name: namespace, full stop and name; without a namespace the name alone
abbrev pub full_name_of : List ℕ → List ℕ → List ℕ
full_name_of [] name = name
full_name_of (c ∷ cs) name = (c ∷ cs) ++ codes "." ++ name

abbrev pub full_name : TypeDefRow → List ℕ
full_name t = full_name_of t.namespace t.name

-- the name of a type with this encloser: a nested type has its name alone, since it has no namespace of its own (II.22.37),
-- also in a file that gives it one
abbrev pub part_name : Option ℕ → TypeDefRow → List ℕ
part_name None t = full_name t
part_name (Some around) t = t.name

abbrev pub part_or_none : Option ℕ → Option TypeDefRow → List ℕ
part_or_none around None = []
part_or_none around (Some t) = part_name around t

-- the name of a type with those of its enclosers, at most n of them
abbrev pub nested_name : (ℕ → List ℕ) → Option ℕ → List ℕ → List ℕ
nested_name outer None name = name
nested_name outer (Some k) name = outer k ++ codes "+" ++ name

unfoldable pub row_name : AsmRec → ℕ → ℕ → List ℕ
row_name rec zero k = []
row_name rec (suc n) k = nested_name (row_name rec n) (encloser rec k) (part_or_none (encloser rec k) (slice_get rec.type_def k))

-- no chain of enclosers of a linked world is longer than its assembly has types
abbrev pub name_at : List AsmRec → RowAt → List ℕ
name_at recs at = elim (slice_get recs at.asm) [ None ↦ [] | Some rec ↦ row_name rec (length rec.type_def) at.row ]

unfoldable pub definition_text : List AsmRec → Option TypeId → List ℕ
definition_text recs None = []
definition_text recs (Some t) = elim (type_home recs t) [ None ↦ [] | Some at ↦ name_at recs at ]

-- ---- types

abbrev pub joined : List (List ℕ) → List ℕ
joined [] = []
joined (x ∷ []) = x
joined (x ∷ y ∷ xs) = x ++ codes "," ++ joined (y ∷ xs)

abbrev pub modifier_text : Bool → List ℕ
modifier_text true = codes " modreq("
modifier_text false = codes " modopt("

-- the text of one level of a type, by the texts of the types that it holds; parameters and modifiers as ILAsm writes them (II.7.1)
abbrev pub text_layer : List AsmRec → TypeExpr-F (List ℕ) → List ℕ
text_layer recs (TypeExpr-F.Prim n) = definition_text recs (prim_type recs n)
text_layer recs (TypeExpr-F.Def t) = definition_text recs (Some t)
text_layer recs (TypeExpr-F.Inst t args) = definition_text recs (Some t) ++ codes "[" ++ joined args ++ codes "]"
text_layer recs (TypeExpr-F.Array x) = x ++ codes "[]"
text_layer recs (TypeExpr-F.ByRef x) = x ++ codes "&"
text_layer recs (TypeExpr-F.Var n) = codes "!" ++ decimal n
text_layer recs (TypeExpr-F.MVar n) = codes "!!" ++ decimal n
text_layer recs (TypeExpr-F.Mod required by x) = x ++ modifier_text required ++ definition_text recs (Some by) ++ codes ")"

unfoldable pub text : List AsmRec → TypeExpr → List ℕ
text recs = fold-TypeExpr (List ℕ) (text_layer recs)
