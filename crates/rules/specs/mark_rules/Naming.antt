-- The parts of an item, and what they name: the types of its signature, the operands of its code, and so on. A part is good and
-- names a type or a member, or it is bad. What good parts name is marked; a bad part makes a marked item bad.
use Rattle.std.specs.Prelude.{ℕ, List, [], ◌∷◌, ◌++◌, map, Option, Some, None, ◌==◌, if◌then◌else◌}
use Rattle.std.specs.List.{flat_map}
use Rattle.il_base.specs.declared.ids.TypeId.{TypeId}
use Rattle.il_base.specs.declared.ids.Item.TheVariants as item
use Rattle.il_base.specs.declared.sig.Sig.{Sig}
use Rattle.il_base.specs.declared.sig.MethodSig.{MethodSig}
use Rattle.il_base.specs.declared.table.TheConstants.{FIELD, MEMBER_REF, METHOD_SPEC}
use Rattle.il_base.specs.declared.world_model.known.Known.{Known}
use Rattle.il_base.specs.declared.world_model.known.Known.TheVariants.{Good, Bad}
use Rattle.il_base.specs.declared.world_model.known.BadKind.{BadKind}
use Rattle.il_base.specs.declared.world_model.known.BadKind.TheVariants.{Unresolved}
use Rattle.il_base.specs.declared.world_model.expr.TypeExpr.{TypeExpr, fold-TypeExpr}
use Rattle.il_base.specs.declared.world_model.expr.TypeExpr.TheOpen.{TypeExpr-F}
use Rattle.il_base.specs.declared.world_model.expr.MethodUse.{MethodUse}
use Rattle.il_base.specs.declared.world_model.expr.FieldUse.{FieldUse}
use Rattle.il_base.specs.declared.world_model.members.MemberRefRow.{MemberRefRow}
use Rattle.il_base.specs.declared.world_model.members.MethodSpecRow.{MethodSpecRow}
use Rattle.il_base.specs.declared.world_model.record.AsmRec.{AsmRec}
use Rattle.il_base.specs.world_model.Tokens.{table_of, index_in}
use Rattle.il_base.specs.world_model.Worlds.{known_map, known_then, row_below, sig_expr}
use Rattle.std.specs.Prelude.{slice_get}
use Rattle.std.specs.Option.{option_and_then}
use Rattle.rules.specs.declared.link_rules.member_type.MethodType.{MethodType}
use Rattle.rules.specs.link_rules.Signatures.{names_at, token_type, method_type}
use Rattle.rules.specs.link_rules.Members.{fields_in, arguments_of, generic_method, method_spec_use, field_def_use, field_ref_use}
use Rattle.rules.specs.mark_rules.Facts.{Fact}
use Rattle.rules.specs.mark_rules.Facts.Fact.{marked}

-- ---- type expressions

abbrev pub types_layer : TypeExpr-F (List TypeId) → List TypeId
types_layer (TypeExpr-F.Prim n) = []
types_layer (TypeExpr-F.Def t) = t ∷ []
types_layer (TypeExpr-F.Inst t args) = t ∷ flat_map (λ xs. xs) args
types_layer (TypeExpr-F.Array x) = x
types_layer (TypeExpr-F.ByRef x) = x
types_layer (TypeExpr-F.Var n) = []
types_layer (TypeExpr-F.MVar n) = []
types_layer (TypeExpr-F.Mod required by x) = by ∷ x

-- the definitions that a type names: its own, and those of its arguments, elements and modifiers; primitives are core types
unfoldable pub types_in : TypeExpr → List TypeId
types_in = fold-TypeExpr (List TypeId) types_layer

abbrev pub mark_types : List TypeId → List Fact
mark_types ts = map (λ t. marked (item.Typ t)) ts

abbrev pub of_expr : TypeExpr → List Fact
of_expr e = mark_types (types_in e)

abbrev pub of_exprs : List TypeExpr → List Fact
of_exprs es = flat_map of_expr es

-- a member with its owner and arguments
abbrev pub of_method_use : MethodUse → List Fact
of_method_use u = marked (item.Method u.method) ∷ of_expr u.owner ++ of_exprs u.args

abbrev pub of_field_use : FieldUse → List Fact
of_field_use u = marked (item.Field u.field) ∷ of_expr u.owner

-- ---- parts

-- what a part names
pub data Named : Type 0 where
  type : TypeExpr → Named
  method : MethodUse → Named
  field : FieldUse → Named

-- a part of an item: the row that has it, by its token, and for an operand the IL offset of its instruction, for others 0
pub record Part : Type 0 where
  pub token : ℕ
  pub at : ℕ
  pub named : Known Named

abbrev pub of_named : Named → List Fact
of_named (type e) = of_expr e
of_named (method u) = of_method_use u
of_named (field u) = of_field_use u

abbrev pub of_known : {A : Type 0} → (A → List Fact) → Known A → List Fact
of_known f (Good x) = f x
of_known f (Bad why) = []

-- what the good parts of an item mark
abbrev pub of_parts : List Part → List Fact
of_parts parts = flat_map (λ (p : Part). of_known of_named p.named) parts

abbrev pub good_part : ℕ → Named → Part
good_part place n = record { token = place; at = 0; named = Good n }

abbrev pub bad_part : ℕ → BadKind → Part
bad_part place why = record { token = place; at = 0; named = Bad why }

abbrev pub type_parts : ℕ → List TypeExpr → List Part
type_parts place es = map (λ e. good_part place (type e)) es

-- ---- signatures: a bad one is one bad part

abbrev pub parts_of : {A : Type 0} → ℕ → (A → List Part) → Known A → List Part
parts_of place f (Good x) = f x
parts_of place f (Bad why) = bad_part place why ∷ []

abbrev pub sig_parts : List AsmRec → ℕ → AsmRec → ℕ → Known Sig → List Part
sig_parts recs a rec place s = parts_of place (λ e. type_parts place (e ∷ [])) (known_then (sig_expr (names_at recs a rec)) s)

abbrev pub sigs_parts : List AsmRec → ℕ → AsmRec → ℕ → Known (List Sig) → List Part
sigs_parts recs a rec place s = parts_of place (type_parts place) (known_then (arguments_of (names_at recs a rec)) s)

abbrev pub method_type_parts : ℕ → MethodType → List Part
method_type_parts place m = type_parts place (m.ret ∷ m.params)

abbrev pub method_sig_parts : List AsmRec → ℕ → AsmRec → ℕ → Known MethodSig → List Part
method_sig_parts recs a rec place s = parts_of place (method_type_parts place) (known_then (method_type (names_at recs a rec)) s)

-- ---- tokens

-- a TypeDef, TypeRef or TypeSpec token
abbrev pub type_token_part : List AsmRec → ℕ → AsmRec → ℕ → ℕ → ℕ → Part
type_token_part recs a rec place offset token = record { token = place; at = offset; named = known_map type (token_type recs a rec token) }

abbrev pub spec_use_at : List AsmRec → ℕ → AsmRec → Option MethodSpecRow → Known MethodUse
spec_use_at recs a rec None = Bad Unresolved
spec_use_at recs a rec (Some row) = method_spec_use recs a rec row

-- what a MethodDef, MemberRef or MethodSpec token names
unfoldable pub method_named : List AsmRec → ℕ → AsmRec → ℕ → Known MethodUse
method_named recs a rec token =
    if table_of token == METHOD_SPEC then spec_use_at recs a rec (option_and_then (slice_get rec.method_spec) (index_in METHOD_SPEC token))
    else generic_method recs a rec token

abbrev pub field_def_at : List AsmRec → ℕ → AsmRec → Option ℕ → Known FieldUse
field_def_at recs a rec None = Bad Unresolved
field_def_at recs a rec (Some k) = field_def_use recs a rec k

abbrev pub field_ref_at : List AsmRec → ℕ → AsmRec → Option MemberRefRow → Known FieldUse
field_ref_at recs a rec None = Bad Unresolved
field_ref_at recs a rec (Some row) = field_ref_use recs a rec row

-- what a Field or MemberRef token names
unfoldable pub field_named : List AsmRec → ℕ → AsmRec → ℕ → Known FieldUse
field_named recs a rec token =
    if table_of token == FIELD then field_def_at recs a rec (row_below (fields_in rec) (index_in FIELD token))
    else field_ref_at recs a rec (option_and_then (slice_get rec.member_ref) (index_in MEMBER_REF token))

abbrev pub method_token_part : List AsmRec → ℕ → AsmRec → ℕ → ℕ → ℕ → Part
method_token_part recs a rec place offset token = record { token = place; at = offset; named = known_map method (method_named recs a rec token) }

abbrev pub field_token_part : List AsmRec → ℕ → AsmRec → ℕ → ℕ → ℕ → Part
field_token_part recs a rec place offset token = record { token = place; at = offset; named = known_map field (field_named recs a rec token) }
