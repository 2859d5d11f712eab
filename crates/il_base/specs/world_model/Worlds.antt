-- Look-ups in a world: the ids of rows, what tokens name, the type that a signature names.
use Rattle.std.specs.Prelude.{ℕ, zero, suc, ◌+◌, ◌-◌, List, [], ◌∷◌, length, codes, Option, Some, None, slice_get, position, find, nat_lt, ◌==◌, Bool, if◌then◌else◌}
use Rattle.std.specs.Option.{option_map, option_and_then}
use Rattle.il_base.specs.declared.ids.TypeId.{TypeId}
use Rattle.il_base.specs.declared.table.TheConstants.{TYPE_REF, TYPE_DEF, FIELD, METHOD_DEF, MEMBER_REF, TYPE_SPEC, METHOD_SPEC}
use Rattle.il_base.specs.declared.sig.Sig.{Sig, fold-Sig}
use Rattle.il_base.specs.declared.sig.Sig.TheOpen.{Sig-F}
use Rattle.il_base.specs.declared.element.TheConstants as element
use Rattle.il_base.specs.declared.world_model.known.Known.{Known}
use Rattle.il_base.specs.declared.world_model.known.Known.TheVariants.{Good, Bad}
use Rattle.il_base.specs.declared.world_model.known.BadKind.TheVariants.{Unresolved}
use Rattle.il_base.specs.declared.world_model.expr.TypeExpr.{TypeExpr, out-TypeExpr}
use Rattle.il_base.specs.declared.world_model.expr.TypeExpr.TheOpen.{TypeExpr-F}
use Rattle.il_base.specs.declared.world_model.expr.TypeExpr as expr
use Rattle.il_base.specs.declared.world_model.expr.MethodUse.{MethodUse}
use Rattle.il_base.specs.declared.world_model.expr.FieldUse.{FieldUse}
use Rattle.il_base.specs.declared.world_model.types.TypeDefRow.{TypeDefRow}
use Rattle.il_base.specs.declared.world_model.record.AsmRec.{AsmRec}
use Rattle.il_base.specs.declared.world_model.world.TypeLink.{TypeLink}
use Rattle.il_base.specs.declared.world_model.world.MethodLink.{MethodLink}
use Rattle.il_base.specs.declared.world_model.world.FieldLink.{FieldLink}
use Rattle.il_base.specs.declared.world_model.world.World.{World}
use Rattle.il_base.specs.world_model.Tokens.{table_of, index_in}
use Rattle.il_base.specs.world_model.Core.{same_name, is_code}
use Rattle.il_base.specs.world_model.Exprs.{subst}

-- ---- what may be bad

abbrev pub known_map : {A B : Type 0} → (A → B) → Known A → Known B
known_map f (Good x) = Good (f x)
known_map f (Bad why) = Bad why

abbrev pub known_then : {A B : Type 0} → (A → Known B) → Known A → Known B
known_then f (Good x) = f x
known_then f (Bad why) = Bad why

abbrev pub known_or : {A : Type 0} → Option (Known A) → Known A
known_or None = Bad Unresolved
known_or (Some k) = k

-- all values of a list, or why the first bad one is bad
abbrev pub all_known : {A : Type 0} → List (Known A) → Known (List A)
all_known [] = Good []
all_known (x ∷ xs) = known_then (λ y. known_map (λ ys. y ∷ ys) (all_known xs)) x

-- ---- ids: the rows of a table of all assemblies in order

-- how many such rows the assemblies before one have
unfoldable pub rows_before : (AsmRec → ℕ) → List AsmRec → ℕ → ℕ
rows_before count recs zero = 0
rows_before count [] (suc a) = 0
rows_before count (rec ∷ recs) (suc a) = count rec + rows_before count recs a

abbrev pub types_in : AsmRec → ℕ
types_in rec = length rec.type_def

-- the id of a type by its assembly and its row, both from 0
abbrev pub type_id : List AsmRec → ℕ → ℕ → TypeId
type_id recs a k = record { 0 = rows_before types_in recs a + k }

-- ---- places among the links of an assembly, by its rows

abbrev pub row_below : ℕ → Option ℕ → Option ℕ
row_below count None = None
row_below count (Some k) = if nat_lt k count then Some k else None

abbrev pub behind : ℕ → Option ℕ → Option ℕ
behind count at = option_map (λ k. count + k) at

-- TypeRef, TypeDef and TypeSpec rows, in this order
abbrev pub type_rows : AsmRec → ℕ
type_rows rec = length rec.type_ref + (length rec.type_def + length rec.type_spec)

unfoldable pub type_row : AsmRec → ℕ → Option ℕ
type_row rec token =
    if table_of token == TYPE_REF then row_below (length rec.type_ref) (index_in TYPE_REF token)
    else if table_of token == TYPE_DEF then behind (length rec.type_ref) (row_below (length rec.type_def) (index_in TYPE_DEF token))
    else behind (length rec.type_ref + length rec.type_def) (row_below (length rec.type_spec) (index_in TYPE_SPEC token))

-- MethodDef, MemberRef and MethodSpec rows, in this order
abbrev pub method_rows : AsmRec → ℕ
method_rows rec = length rec.method_def + (length rec.member_ref + length rec.method_spec)

unfoldable pub method_row : AsmRec → ℕ → Option ℕ
method_row rec token =
    if table_of token == METHOD_DEF then row_below (length rec.method_def) (index_in METHOD_DEF token)
    else if table_of token == MEMBER_REF then behind (length rec.method_def) (row_below (length rec.member_ref) (index_in MEMBER_REF token))
    else behind (length rec.method_def + length rec.member_ref) (row_below (length rec.method_spec) (index_in METHOD_SPEC token))

-- Field and MemberRef rows, in this order
abbrev pub field_rows : AsmRec → ℕ
field_rows rec = length rec.field + length rec.member_ref

unfoldable pub field_row : AsmRec → ℕ → Option ℕ
field_row rec token =
    if table_of token == FIELD then row_below (length rec.field) (index_in FIELD token)
    else behind (length rec.field) (row_below (length rec.member_ref) (index_in MEMBER_REF token))

-- the place of a token's link among all links of its kind
unfoldable pub link_place : (AsmRec → ℕ) → (AsmRec → ℕ → Option ℕ) → List AsmRec → ℕ → ℕ → Option ℕ
link_place count row recs a token =
    behind (rows_before count recs a) (option_and_then (λ rec. row rec token) (slice_get recs a))

-- ---- what a token of an assembly names; None where there is no such row

-- the type that a token names, by these links
unfoldable pub type_link_at : List AsmRec → List TypeLink → ℕ → ℕ → Option (Known TypeExpr)
type_link_at recs links a token = option_map (λ (l : TypeLink). l.to) (option_and_then (slice_get links) (link_place type_rows type_row recs a token))

-- the type that a modifier alone finds under a TypeRef token, by these links
unfoldable pub added_link_at : List AsmRec → List TypeLink → ℕ → ℕ → Option TypeId
added_link_at recs links a token =
    if table_of token == TYPE_REF
    then option_and_then (λ (l : TypeLink). l.added) (option_and_then (slice_get links) (link_place type_rows type_row recs a token))
    else None

abbrev pub type_at : World → ℕ → ℕ → Option (Known TypeExpr)
type_at w a token = type_link_at w.recs w.types a token

unfoldable pub method_at : World → ℕ → ℕ → Option (Known MethodUse)
method_at w a token = option_map (λ (l : MethodLink). l.to) (option_and_then (slice_get w.methods) (link_place method_rows method_row w.recs a token))

unfoldable pub field_at : World → ℕ → ℕ → Option (Known FieldUse)
field_at w a token = option_map (λ (l : FieldLink). l.to) (option_and_then (slice_get w.fields) (link_place field_rows field_row w.recs a token))

-- ---- the core library's primitives

-- the element types that the core library's types of these names have (II.23.1.16)
unfoldable pub prims : List (ℕ × List ℕ)
prims =
    (element.VOID, codes "Void") ∷ (element.BOOLEAN, codes "Boolean") ∷ (element.CHAR, codes "Char") ∷ (element.I1, codes "SByte") ∷ (element.U1, codes "Byte")
    ∷ (element.I2, codes "Int16") ∷ (element.U2, codes "UInt16") ∷ (element.I4, codes "Int32") ∷ (element.U4, codes "UInt32") ∷ (element.I8, codes "Int64")
    ∷ (element.U8, codes "UInt64") ∷ (element.STRING, codes "String") ∷ (element.I, codes "IntPtr") ∷ (element.U, codes "UIntPtr") ∷ (element.OBJECT, codes "Object") ∷ []

abbrev pub is_prim_name : List ℕ → ℕ × List ℕ → Bool
is_prim_name name p = same_name name p.1

-- the element type of a row of the core library; None for a type that is no primitive
unfoldable pub prim_of : TypeDefRow → Option ℕ
prim_of row =
    if same_name row.namespace (codes "System") then option_map (λ p. p.0) (find (is_prim_name row.name) prims) else None

abbrev pub is_code_of : ℕ → TypeDefRow → Bool
is_code_of n row = is_code n (prim_of row)

-- the rows of the core library, which is the last assembly
unfoldable pub core_types : List AsmRec → List TypeDefRow
core_types [] = []
core_types (rec ∷ []) = rec.type_def
core_types (rec ∷ next ∷ recs) = core_types (next ∷ recs)

-- the type of the core library that a primitive is
unfoldable pub prim_type : List AsmRec → ℕ → Option TypeId
prim_type recs n = option_map (λ k. type_id recs (length recs - 1) k) (position (is_code_of n) (core_types recs))

-- ---- the type that a signature names

-- The type that a TypeDef or TypeRef token names, which is a definition or a primitive. A TypeSpec token in a signature
-- names nothing.
unfoldable pub named_in : (ℕ → Option (Known TypeExpr)) → ℕ → Known TypeExpr
named_in types token = if table_of token == TYPE_SPEC then Bad Unresolved else known_or (types token)

abbrev pub known_type : Option TypeId → Known TypeId
known_type None = Bad Unresolved
known_type (Some t) = Good t

-- the definition that stands in an instance or a modifier; `core` gives that of a primitive
abbrev pub definition_in : (ℕ → Option TypeId) → TypeExpr-F TypeExpr → Known TypeId
definition_in core (TypeExpr-F.Def t) = Good t
definition_in core (TypeExpr-F.Prim n) = known_type (core n)
definition_in core _ = Bad Unresolved

unfoldable pub definition_of : (ℕ → Option TypeId) → TypeExpr → Known TypeId
definition_of core e = definition_in core (out-TypeExpr e)

-- what the tokens of an assembly name, the definitions of primitives, and the types that modifiers alone find
pub record Names : Type 0 where
  pub types : ℕ → Option (Known TypeExpr)
  pub core : ℕ → Option TypeId
  pub added : ℕ → Option TypeId

unfoldable pub definition_named : Names → ℕ → Known TypeId
definition_named names token = known_then (definition_of names.core) (named_in names.types token)

abbrev pub found_or_named : Option TypeId → Known TypeId → Known TypeId
found_or_named None named = named
found_or_named (Some t) named = Good t

-- the definition that a modifier names: one that modifiers alone find, else what any token names (II.7.1.1)
unfoldable pub modifier_named : Names → ℕ → Known TypeId
modifier_named names token = found_or_named (names.added token) (definition_named names token)

abbrev pub instance_of : Known TypeId → Known (List TypeExpr) → Known TypeExpr
instance_of t args = known_then (λ (d : TypeId). known_map (λ xs. expr.Inst d xs) args) t

abbrev pub modified : Bool → Known TypeId → Known TypeExpr → Known TypeExpr
modified required by inner = known_then (λ (d : TypeId). known_map (λ x. expr.Mod required d x) inner) by

-- one level of a signature, with what each type that it holds names in its place
abbrev pub sig_layer : Names → Sig-F (Known TypeExpr) → Known TypeExpr
sig_layer names (Sig-F.Prim n) = Good (expr.Prim n)
sig_layer names (Sig-F.Named value token) = named_in names.types token
sig_layer names (Sig-F.Array x) = known_map (λ e. expr.Array e) x
sig_layer names (Sig-F.ByRef x) = known_map (λ e. expr.ByRef e) x
sig_layer names (Sig-F.Inst value token args) = instance_of (definition_named names token) (all_known args)
sig_layer names (Sig-F.Var n) = Good (expr.Var n)
sig_layer names (Sig-F.MVar n) = Good (expr.MVar n)
sig_layer names (Sig-F.Mod required token x) = modified required (modifier_named names token) x
sig_layer names (Sig-F.Pinned x) = x

-- the type that a signature names, or why its first bad token is bad
unfoldable pub sig_expr : Names → Sig → Known TypeExpr
sig_expr names = fold-Sig (Known TypeExpr) (sig_layer names)

-- what the tokens of an assembly name by these links
abbrev pub names_by : List AsmRec → List TypeLink → ℕ → Names
names_by recs links a = record { types = type_link_at recs links a; core = prim_type recs; added = added_link_at recs links a }

-- the type that a signature of an assembly names, with these arguments of the type and of the method put in
unfoldable pub expr_by : List AsmRec → List TypeLink → ℕ → List TypeExpr → List TypeExpr → Sig → Known TypeExpr
expr_by recs links a targs margs s = known_map (subst targs margs) (sig_expr (names_by recs links a) s)

abbrev pub expr_in : World → ℕ → List TypeExpr → List TypeExpr → Sig → Known TypeExpr
expr_in w a targs margs s = expr_by w.recs w.types a targs margs s
