-- The types that tokens and signatures of an assembly name (II.22.38, II.22.39, II.23.2).
use Rattle.std.specs.Prelude.{ℕ, suc, List, [], length, map, Option, Some, None, slice_get, nat_eq, ◌==◌, ◌&&◌, Bool, if◌then◌else◌}
use Rattle.std.specs.Option.{option_and_then}
use Rattle.il_base.specs.declared.sig.MethodSig.{MethodSig}
use Rattle.il_base.specs.declared.table.TheConstants.{TYPE_SPEC}
use Rattle.il_base.specs.declared.world_model.known.Known.{Known}
use Rattle.il_base.specs.declared.world_model.known.Known.TheVariants.{Good, Bad}
use Rattle.il_base.specs.declared.world_model.known.BadKind.TheVariants.{Unresolved}
use Rattle.il_base.specs.declared.world_model.expr.TypeExpr.{TypeExpr}
use Rattle.il_base.specs.declared.world_model.expr.TypeExpr as expr
use Rattle.il_base.specs.declared.world_model.types.TypeSpecRow.{TypeSpecRow}
use Rattle.il_base.specs.declared.world_model.record.AsmRec.{AsmRec}
use Rattle.il_base.specs.world_model.Tokens.{table_of, index_in}
use Rattle.il_base.specs.world_model.Exprs.{subst, same_expr, same_exprs, same_bool}
use Rattle.il_base.specs.world_model.Worlds.{Names, known_map, known_then, all_known, type_id, core_types, prim_of, prim_type, sig_expr}
use Rattle.rules.specs.declared.link_rules.row_at.RowAt.{RowAt}
use Rattle.rules.specs.declared.link_rules.member_type.MethodType.{MethodType}
use Rattle.rules.specs.link_rules.Types.{definition_at, added_by}

-- ---- definitions as types

-- the element type of a primitive of the core library, which is the last assembly
abbrev pub prim_at : List AsmRec → RowAt → Option ℕ
prim_at recs at = if suc at.asm == length recs then option_and_then prim_of (slice_get (core_types recs) at.row) else None

-- the type of a definition: a primitive of the core library is always its element type
unfoldable pub definition_expr : List AsmRec → RowAt → TypeExpr
definition_expr recs at = elim (prim_at recs at) [ Some n ↦ expr.Prim n | None ↦ expr.Def (type_id recs at.asm at.row) ]

abbrev pub known_expr : List AsmRec → Option RowAt → Known TypeExpr
known_expr recs None = Bad Unresolved
known_expr recs (Some at) = Good (definition_expr recs at)

-- ---- tokens

-- what a TypeDef or TypeRef token names
unfoldable pub named_type : List AsmRec → ℕ → AsmRec → ℕ → Known TypeExpr
named_type recs a rec token = known_expr recs (definition_at recs a rec token)

abbrev pub names_at : List AsmRec → ℕ → AsmRec → Names
names_at recs a rec = record { types = λ token. Some (named_type recs a rec token); core = prim_type recs; added = added_by recs a rec }

-- what a TypeSpec row names
abbrev pub spec_type : List AsmRec → ℕ → AsmRec → TypeSpecRow → Known TypeExpr
spec_type recs a rec row = known_then (sig_expr (names_at recs a rec)) row.signature

abbrev pub spec_type_at : List AsmRec → ℕ → AsmRec → Option TypeSpecRow → Known TypeExpr
spec_type_at recs a rec None = Bad Unresolved
spec_type_at recs a rec (Some row) = spec_type recs a rec row

-- what a TypeDef, TypeRef or TypeSpec token names
unfoldable pub token_type : List AsmRec → ℕ → AsmRec → ℕ → Known TypeExpr
token_type recs a rec token =
    if table_of token == TYPE_SPEC then spec_type_at recs a rec (option_and_then (slice_get rec.type_spec) (index_in TYPE_SPEC token))
    else named_type recs a rec token

-- ---- signatures of members

abbrev pub method_type_of : MethodSig → TypeExpr → List TypeExpr → MethodType
method_type_of s ret params = record { this = s.this; generic = s.generic; ret = ret; params = params }

-- a method's signature with its types, the return before the parameters
unfoldable pub method_type : Names → MethodSig → Known MethodType
method_type names s =
    known_then (λ (ret : TypeExpr). known_map (λ params. method_type_of s ret params) (all_known (map (sig_expr names) s.params))) (sig_expr names s.ret)

-- a method's signature with arguments of the type put in
unfoldable pub subst_method : List TypeExpr → MethodType → MethodType
subst_method targs m = record { this = m.this; generic = m.generic; ret = subst targs [] m.ret; params = map (subst targs []) m.params }

unfoldable pub same_method_type : MethodType → MethodType → Bool
same_method_type a b = same_bool a.this b.this && nat_eq a.generic b.generic && same_expr a.ret b.ret && same_exprs a.params b.params
