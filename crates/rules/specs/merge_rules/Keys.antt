-- The keys of references, by what these name, so that equal references get one row. A type has the key of its row, a signature that
-- of the types which its tokens name, a member that of its row and its owner. A reference that names nothing has the key of its
-- names.
use Rattle.std.specs.Prelude.{ℕ, zero, suc, List, [], ◌∷◌, length, map, Option, Some, None, slice_get, nat_eq, nat_lt, ◌==◌, ◌&&◌, ◌||◌, Bool, true, false, if◌then◌else◌}
use Rattle.std.specs.List.{list_any}
use Rattle.std.specs.Option.{option_map, option_and_then}
use Rattle.std.specs.Cmp.Lexicographic.{pointwise}
use Rattle.il_base.specs.declared.ids.TypeId.{TypeId}
use Rattle.il_base.specs.declared.ids.MethodId.{MethodId}
use Rattle.il_base.specs.declared.ids.FieldId.{FieldId}
use Rattle.il_base.specs.declared.sig.Sig.{Sig, fold-Sig, out-Sig}
use Rattle.il_base.specs.declared.sig.Sig.TheOpen.{Sig-F}
use Rattle.il_base.specs.declared.sig.Sig as sig
use Rattle.il_base.specs.declared.sig.MethodSig.{MethodSig}
use Rattle.il_base.specs.declared.table.TheConstants.{TYPE_REF, FIELD, METHOD_DEF, METHOD_SPEC, TYPE_SPEC}
use Rattle.il_base.specs.declared.world_model.known.Known.{Known}
use Rattle.il_base.specs.declared.world_model.known.Known.TheVariants.{Good, Bad}
use Rattle.il_base.specs.declared.world_model.expr.TypeExpr.{TypeExpr, fold-TypeExpr, out-TypeExpr}
use Rattle.il_base.specs.declared.world_model.expr.TypeExpr.TheOpen.{TypeExpr-F}
use Rattle.il_base.specs.declared.world_model.expr.MethodUse.{MethodUse}
use Rattle.il_base.specs.declared.world_model.expr.FieldUse.{FieldUse}
use Rattle.il_base.specs.declared.world_model.types.TypeSpecRow.{TypeSpecRow}
use Rattle.il_base.specs.declared.world_model.members.MethodSpecRow.{MethodSpecRow}
use Rattle.il_base.specs.declared.world_model.record.AsmRec.{AsmRec}
use Rattle.il_base.specs.world_model.Tokens.{table_of, index_in}
use Rattle.il_base.specs.world_model.Core.{same_name}
use Rattle.il_base.specs.world_model.Exprs.{same_bool, same_expr}
use Rattle.il_base.specs.world_model.Worlds.{prim_type}
use Rattle.rules.specs.declared.link_rules.row_at.RowAt.{RowAt}
use Rattle.rules.specs.link_rules.Types.{at_row, added_by}
use Rattle.rules.specs.link_rules.Signatures.{named_type}
use Rattle.rules.specs.link_rules.Members.{type_home, owner_of, param_count}
use Rattle.rules.specs.link_rules.Cycles.{listed, is_value_type}
use Rattle.rules.specs.type_rules.Rows.{rec_at}
use Rattle.rules.specs.mark_rules.Naming.{method_named, field_named}
use Rattle.rules.specs.merge_rules.Absent.{absent_type}

-- ---- signatures over the types of the world

-- The type that a token of an assembly names, as a number: one more than its place among the types of the world. The references
-- that name nothing come after these types. A token without a row has 0.
abbrev pub number_of : List AsmRec → Known TypeExpr → ℕ
number_of recs (Good e) = def_number (out-TypeExpr e)
  where
    def_number : TypeExpr-F TypeExpr → ℕ
    def_number (TypeExpr-F.Def t) = suc t.0
    def_number (TypeExpr-F.Prim n) = elim (prim_type recs n) [ Some t ↦ suc t.0 | None ↦ 0 ]
    def_number _ = 0
number_of recs (Bad why) = 0

abbrev pub number_or : Option TypeId → ℕ → ℕ
number_or None other = other
number_or (Some t) other = suc t.0

abbrev pub absent_number : List AsmRec → ℕ → ℕ → ℕ
absent_number recs a token = number_or (option_and_then (λ k. absent_type recs (at_row a k)) (index_in TYPE_REF token)) 0

abbrev pub found_or : ℕ → ℕ → ℕ
found_or zero other = other
found_or (suc t) other = suc t

unfoldable pub class_number : List AsmRec → ℕ → AsmRec → ℕ → ℕ
class_number recs a rec token = found_or (number_of recs (named_type recs a rec token)) (absent_number recs a token)

-- the number of a modifier's type, which can also be a name that only modifiers use
abbrev pub modifier_number : List AsmRec → ℕ → AsmRec → ℕ → ℕ
modifier_number recs a rec token = number_or (added_by recs a rec token) (class_number recs a rec token)

abbrev pub world_layer : List AsmRec → ℕ → AsmRec → Sig-F Sig → Sig
world_layer recs a rec (Sig-F.Prim n) = sig.Prim n
world_layer recs a rec (Sig-F.Named value token) = sig.Named value (class_number recs a rec token)
world_layer recs a rec (Sig-F.Array x) = sig.Array x
world_layer recs a rec (Sig-F.ByRef x) = sig.ByRef x
world_layer recs a rec (Sig-F.Inst value token args) = sig.Inst value (class_number recs a rec token) args
world_layer recs a rec (Sig-F.Var n) = sig.Var n
world_layer recs a rec (Sig-F.MVar n) = sig.MVar n
world_layer recs a rec (Sig-F.Mod required token x) = sig.Mod required (modifier_number recs a rec token) x
world_layer recs a rec (Sig-F.Pinned x) = sig.Pinned x

-- a signature with the numbers of types in place of tokens; CLASS and VALUETYPE stay (II.23.2.12)
unfoldable pub world_sig : List AsmRec → ℕ → AsmRec → Sig → Sig
world_sig recs a rec = fold-Sig Sig (world_layer recs a rec)

abbrev pub world_sigs : List AsmRec → ℕ → AsmRec → List Sig → List Sig
world_sigs recs a rec sigs = map (world_sig recs a rec) sigs

-- ---- a signature that is made of a type

abbrev pub is_value : List AsmRec → TypeId → Bool
is_value recs t = list_any (is_value_type recs) (listed (type_home recs t))

abbrev pub made_layer : List AsmRec → TypeExpr-F Sig → Sig
made_layer recs (TypeExpr-F.Prim n) = sig.Prim n
made_layer recs (TypeExpr-F.Def t) = sig.Named (is_value recs t) (suc t.0)
made_layer recs (TypeExpr-F.Inst t args) = sig.Inst (is_value recs t) (suc t.0) args
made_layer recs (TypeExpr-F.Array x) = sig.Array x
made_layer recs (TypeExpr-F.ByRef x) = sig.ByRef x
made_layer recs (TypeExpr-F.Var n) = sig.Var n
made_layer recs (TypeExpr-F.MVar n) = sig.MVar n
made_layer recs (TypeExpr-F.Mod required by x) = sig.Mod required (suc by.0) x

-- the signature of a type, with VALUETYPE exactly for value types
unfoldable pub made_sig : List AsmRec → TypeExpr → Sig
made_sig recs = fold-TypeExpr Sig (made_layer recs)

-- ---- equality of signatures

abbrev pub all_same : List (Sig → Bool) → List Sig → Bool
all_same [] [] = true
all_same [] (y ∷ ys) = false
all_same (f ∷ fs) [] = false
all_same (f ∷ fs) (y ∷ ys) = f y && all_same fs ys

abbrev pub same_in : Sig-F (Sig → Bool) → Sig-F Sig → Bool
same_in (Sig-F.Prim n) (Sig-F.Prim m) = nat_eq n m
same_in (Sig-F.Named v t) (Sig-F.Named w u) = same_bool v w && nat_eq t u
same_in (Sig-F.Array x) (Sig-F.Array y) = x y
same_in (Sig-F.ByRef x) (Sig-F.ByRef y) = x y
same_in (Sig-F.Inst v t xs) (Sig-F.Inst w u ys) = same_bool v w && nat_eq t u && all_same xs ys
same_in (Sig-F.Var n) (Sig-F.Var m) = nat_eq n m
same_in (Sig-F.MVar n) (Sig-F.MVar m) = nat_eq n m
same_in (Sig-F.Mod r t x) (Sig-F.Mod s u y) = same_bool r s && nat_eq t u && x y
same_in (Sig-F.Pinned x) (Sig-F.Pinned y) = x y
same_in _ _ = false

abbrev pub same_layer : Sig-F (Sig → Bool) → Sig → Bool
same_layer parts other = same_in parts (out-Sig other)

unfoldable pub same_sig : Sig → Sig → Bool
same_sig = fold-Sig (Sig → Bool) same_layer

unfoldable pub same_sigs : List Sig → List Sig → Bool
same_sigs = pointwise same_sig

-- ---- types, members and instances

-- a type by its place among the types of the world, or a signature
pub data TypeKey : Type 0 where
  named : TypeId → TypeKey
  spec : Sig → TypeKey

abbrev pub same_type : TypeKey → TypeKey → Bool
same_type (named t) (named u) = nat_eq t.0 u.0
same_type (spec s) (spec r) = same_sig s r
same_type _ _ = false

-- a method's signature over the types of the world
abbrev pub world_method_sig : List AsmRec → ℕ → AsmRec → MethodSig → MethodSig
world_method_sig recs a rec s = record s { ret = world_sig recs a rec s.ret; params = world_sigs recs a rec s.params }

abbrev pub same_method_sig : MethodSig → MethodSig → Bool
same_method_sig s r = same_bool s.this r.this && nat_eq s.generic r.generic && same_sig s.ret r.ret && same_sigs s.params r.params

-- the key of a method: a definition by its own token, a method with the type in which it is found, or one that isn't there by its
-- parent, name and signature
pub data MethodKey : Type 0 where
  own_method : MethodId → MethodKey
  found_method : MethodId → TypeExpr → MethodKey
  absent_method : TypeKey → List ℕ → MethodSig → MethodKey

abbrev pub same_method : MethodKey → MethodKey → Bool
same_method (own_method m) (own_method n) = nat_eq m.0 n.0
same_method (found_method m e) (found_method n f) = nat_eq m.0 n.0 && same_expr e f
same_method (absent_method p x s) (absent_method q y r) = same_type p q && same_name x y && same_method_sig s r
same_method _ _ = false

pub data FieldKey : Type 0 where
  own_field : FieldId → FieldKey
  found_field : FieldId → TypeExpr → FieldKey

abbrev pub same_field : FieldKey → FieldKey → Bool
same_field (own_field m) (own_field n) = nat_eq m.0 n.0
same_field (found_field m e) (found_field n f) = nat_eq m.0 n.0 && same_expr e f
same_field _ _ = false

-- a method with arguments
pub record InstanceKey : Type 0 where
  pub method : MethodKey
  pub args : List Sig

abbrev pub same_instance : InstanceKey → InstanceKey → Bool
same_instance x y = same_method x.method y.method && same_sigs x.args y.args

-- ---- the key of a token

abbrev pub numbered_key : ℕ → Option TypeKey
numbered_key zero = None
numbered_key (suc t) = Some (named (record { 0 = t }))

abbrev pub spec_key : List AsmRec → ℕ → AsmRec → Option TypeSpecRow → Option TypeKey
spec_key recs a rec None = None
spec_key recs a rec (Some row) = good_spec row.signature
  where
    good_spec : Known Sig → Option TypeKey
    good_spec (Good s) = Some (spec (world_sig recs a rec s))
    good_spec (Bad why) = None

-- the key of a TypeDef, TypeRef or TypeSpec token; a TypeSpec token stays one, with its signature moved token by token
unfoldable pub type_key : List AsmRec → ℕ → AsmRec → ℕ → Option TypeKey
type_key recs a rec token =
    if table_of token == TYPE_SPEC then spec_key recs a rec (option_and_then (slice_get rec.type_spec) (index_in TYPE_SPEC token))
    else numbered_key (class_number recs a rec token)

abbrev pub expr_key_in : List AsmRec → TypeExpr → TypeExpr-F TypeExpr → Option TypeKey
expr_key_in recs e (TypeExpr-F.Def t) = Some (named t)
expr_key_in recs e (TypeExpr-F.Prim n) = option_map named (prim_type recs n)
expr_key_in recs e _ = Some (spec (made_sig recs e))

-- the key of a type that is the owner of a member
unfoldable pub expr_key : List AsmRec → TypeExpr → Option TypeKey
expr_key recs e = expr_key_in recs e (out-TypeExpr e)

-- whether a definition is of an input and isn't generic
abbrev pub is_plain_input : List AsmRec → Option RowAt → Bool
is_plain_input recs owner =
    list_any (λ (t : RowAt). nat_lt (suc t.asm) (length recs) && list_any (λ (rec : AsmRec). param_count rec t.row == 0) (listed (rec_at recs t))) (listed owner)

-- whether a type is written without type arguments: with arguments a type that isn't generic can't run
abbrev pub is_bare_in : TypeExpr-F TypeExpr → Bool
is_bare_in (TypeExpr-F.Inst t args) = false
is_bare_in _ = true

-- whether an owner is a type of an input that isn't generic, written without arguments
abbrev pub is_plain_owner : List AsmRec → TypeExpr → Bool
is_plain_owner recs e = is_bare_in (out-TypeExpr e) && is_plain_input recs (option_and_then (type_home recs) (owner_of recs e))

-- A MethodDef token keeps naming its row, and so does a reference to a method of an input's type that isn't generic.
abbrev pub method_key_of : List AsmRec → Bool → MethodUse → MethodKey
method_key_of recs own u = if own || is_plain_owner recs u.owner then own_method u.method else found_method u.method u.owner

abbrev pub field_key_of : List AsmRec → Bool → FieldUse → FieldKey
field_key_of recs own u = if own || is_plain_owner recs u.owner then own_field u.field else found_field u.field u.owner

abbrev pub good : {A : Type 0} → Known A → Option A
good (Good x) = Some x
good (Bad why) = None

-- the key of a MethodDef or MemberRef token
unfoldable pub method_key : List AsmRec → ℕ → AsmRec → ℕ → Option MethodKey
method_key recs a rec token = option_map (method_key_of recs (table_of token == METHOD_DEF)) (good (method_named recs a rec token))

unfoldable pub field_key : List AsmRec → ℕ → AsmRec → ℕ → Option FieldKey
field_key recs a rec token = option_map (field_key_of recs (table_of token == FIELD)) (good (field_named recs a rec token))

abbrev pub instance_by : List AsmRec → ℕ → AsmRec → MethodSpecRow → Option InstanceKey
instance_by recs a rec row =
    option_and_then (λ m. option_map (λ (args : List Sig). record { method = m; args = world_sigs recs a rec args }) (good row.instantiation)) (method_key recs a rec row.method)

-- the key of a MethodSpec token
unfoldable pub instance_key : List AsmRec → ℕ → AsmRec → ℕ → Option InstanceKey
instance_key recs a rec token = option_and_then (instance_by recs a rec) (option_and_then (slice_get rec.method_spec) (index_in METHOD_SPEC token))
