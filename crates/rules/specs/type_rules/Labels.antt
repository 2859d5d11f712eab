-- What reflection says of where a type stands: its own name, its namespace, and the type that it is nested in (II.22.32, II.22.37).
use Rattle.std.specs.Prelude.{ℕ, zero, suc, List, [], ◌++◌, length, codes, Option, Some, None, slice_get}
use Rattle.std.specs.Fmt.{decimal}
use Rattle.std.specs.Option.{option_and_then, option_map}
use Rattle.il_base.specs.declared.ids.TypeId.{TypeId}
use Rattle.il_base.specs.declared.world_model.expr.TypeExpr.{TypeExpr, fold-TypeExpr}
use Rattle.il_base.specs.declared.world_model.expr.TypeExpr.TheOpen.{TypeExpr-F}
use Rattle.il_base.specs.declared.world_model.types.TypeDefRow.{TypeDefRow}
use Rattle.il_base.specs.declared.world_model.record.AsmRec.{AsmRec}
use Rattle.il_base.specs.world_model.Worlds.{prim_type}
use Rattle.rules.specs.declared.link_rules.row_at.RowAt.{RowAt}
use Rattle.rules.specs.link_rules.Types.{at_row, encloser}
use Rattle.rules.specs.link_rules.Members.{type_home}

-- ---- of a definition's row

abbrev pub own_name : Option TypeDefRow → List ℕ
own_name None = []
own_name (Some t) = t.name

abbrev pub own_space : Option TypeDefRow → List ℕ
own_space None = []
own_space (Some t) = t.namespace

-- its name, without its enclosers
abbrev pub label_at : List AsmRec → RowAt → List ℕ
label_at recs at = elim (slice_get recs at.asm) [ None ↦ [] | Some rec ↦ own_name (slice_get rec.type_def at.row) ]

abbrev pub space_around : (ℕ → List ℕ) → Option ℕ → List ℕ → List ℕ
space_around outer None own = own
space_around outer (Some k) own = outer k

-- the namespace of a type with at most n types around it: that of the outermost, since nested types have none of their own
unfoldable pub row_space : AsmRec → ℕ → ℕ → List ℕ
row_space rec zero k = []
row_space rec (suc n) k = space_around (row_space rec n) (encloser rec k) (own_space (slice_get rec.type_def k))

-- no chain of enclosers of a linked world is longer than its assembly has types
abbrev pub space_at : List AsmRec → RowAt → List ℕ
space_at recs at = elim (slice_get recs at.asm) [ None ↦ [] | Some rec ↦ row_space rec (length rec.type_def) at.row ]

-- the type that it is nested in
abbrev pub encloser_at : List AsmRec → RowAt → Option RowAt
encloser_at recs at = option_and_then (λ rec. option_map (at_row at.asm) (encloser rec at.row)) (slice_get recs at.asm)

-- ---- of a definition

unfoldable pub definition_label : List AsmRec → Option TypeId → List ℕ
definition_label recs None = []
definition_label recs (Some t) = elim (type_home recs t) [ None ↦ [] | Some at ↦ label_at recs at ]

unfoldable pub definition_space : List AsmRec → Option TypeId → List ℕ
definition_space recs None = []
definition_space recs (Some t) = elim (type_home recs t) [ None ↦ [] | Some at ↦ space_at recs at ]

-- ---- of a type: a constructed one is named by its definition, `[]` is after an array's element

abbrev pub label_layer : List AsmRec → TypeExpr-F (List ℕ) → List ℕ
label_layer recs (TypeExpr-F.Prim n) = definition_label recs (prim_type recs n)
label_layer recs (TypeExpr-F.Def t) = definition_label recs (Some t)
label_layer recs (TypeExpr-F.Inst t args) = definition_label recs (Some t)
label_layer recs (TypeExpr-F.Array x) = x ++ codes "[]"
label_layer recs (TypeExpr-F.ByRef x) = x ++ codes "&"
label_layer recs (TypeExpr-F.Var n) = codes "!" ++ decimal n
label_layer recs (TypeExpr-F.MVar n) = codes "!!" ++ decimal n
label_layer recs (TypeExpr-F.Mod required by x) = x

unfoldable pub label : List AsmRec → TypeExpr → List ℕ
label recs = fold-TypeExpr (List ℕ) (label_layer recs)

-- an array has the namespace of its element, a generic parameter none
abbrev pub space_layer : List AsmRec → TypeExpr-F (List ℕ) → List ℕ
space_layer recs (TypeExpr-F.Prim n) = definition_space recs (prim_type recs n)
space_layer recs (TypeExpr-F.Def t) = definition_space recs (Some t)
space_layer recs (TypeExpr-F.Inst t args) = definition_space recs (Some t)
space_layer recs (TypeExpr-F.Array x) = x
space_layer recs (TypeExpr-F.ByRef x) = x
space_layer recs (TypeExpr-F.Var n) = []
space_layer recs (TypeExpr-F.MVar n) = []
space_layer recs (TypeExpr-F.Mod required by x) = x

unfoldable pub space : List AsmRec → TypeExpr → List ℕ
space recs = fold-TypeExpr (List ℕ) (space_layer recs)
