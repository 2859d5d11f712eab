-- The member that a reference names (II.22.25, II.22.29): it is found by its name and signature in its parent and then in the
-- bases, the nearest first.
use Rattle.std.specs.Prelude.{ℕ, zero, suc, ◌+◌, ◌-◌, List, [], ◌∷◌, length, map, take, drop, Option, Some, None, slice_get, nat_lt, nat_le, ◌==◌, ◌&&◌, ◌||◌, not, Bool, true, false, if◌then◌else◌}
use Rattle.std.specs.List.{position_from, count_by, range_with_len}
use Rattle.std.specs.Option.{option_map, option_and_then}
use Rattle.il_base.specs.declared.type_flags.TheConstants.{INTERFACE}
use Rattle.il_base.specs.declared.method_flags.TheConstants.{COMPILER_CONTROLLED}
use Rattle.il_base.specs.declared.ids.TypeId.{TypeId}
use Rattle.il_base.specs.Flags.{has_flag, access_of}
use Rattle.il_base.specs.declared.sig.Sig.{Sig}
use Rattle.il_base.specs.declared.table.TheConstants.{TYPE_DEF, METHOD_DEF, MEMBER_REF}
use Rattle.il_base.specs.declared.world_model.known.Known.{Known}
use Rattle.il_base.specs.declared.world_model.known.Known.TheVariants.{Good, Bad}
use Rattle.il_base.specs.declared.world_model.known.BadKind.TheVariants.{Unresolved, Outside}
use Rattle.il_base.specs.declared.world_model.expr.TypeExpr.{TypeExpr, out-TypeExpr}
use Rattle.il_base.specs.declared.world_model.expr.TypeExpr.TheOpen.{TypeExpr-F}
use Rattle.il_base.specs.declared.world_model.expr.TypeExpr as expr
use Rattle.il_base.specs.declared.world_model.expr.MemberSig.{MemberSig}
use Rattle.il_base.specs.declared.world_model.expr.MemberSig.TheVariants as member
use Rattle.il_base.specs.declared.world_model.expr.MethodUse.{MethodUse}
use Rattle.il_base.specs.declared.world_model.expr.FieldUse.{FieldUse}
use Rattle.il_base.specs.declared.world_model.types.TypeDefRow.{TypeDefRow}
use Rattle.il_base.specs.declared.world_model.types.GenericParamRow.{GenericParamRow}
use Rattle.il_base.specs.declared.world_model.members.MethodDefRow.{MethodDefRow}
use Rattle.il_base.specs.declared.world_model.members.FieldRow.{FieldRow}
use Rattle.il_base.specs.declared.world_model.members.MemberRefRow.{MemberRefRow}
use Rattle.il_base.specs.declared.world_model.members.MethodSpecRow.{MethodSpecRow}
use Rattle.il_base.specs.declared.world_model.record.AsmRec.{AsmRec}
use Rattle.il_base.specs.world_model.Tokens.{token_of, table_of, index_in}
use Rattle.il_base.specs.world_model.Core.{same_name}
use Rattle.il_base.specs.world_model.Exprs.{subst, levels, same_expr}
use Rattle.il_base.specs.world_model.Worlds.{Names, known_map, known_then, all_known, rows_before, row_below, types_in, type_id, prim_type, sig_expr}
use Rattle.il_base.specs.declared.core_table.tokens.TheConstants.{ARRAY}
use Rattle.rules.specs.declared.link_rules.row_at.RowAt.{RowAt}
use Rattle.rules.specs.declared.link_rules.member_type.MethodType.{MethodType}
use Rattle.rules.specs.link_rules.Types.{at_row}
use Rattle.rules.specs.link_rules.Signatures.{definition_expr, names_at, token_type, method_type, subst_method, same_method_type}

-- ---- the definition that a type has its members from

-- the assembly and row of an id, where the first of these assemblies has the number a
unfoldable pub home_from : (AsmRec → ℕ) → ℕ → List AsmRec → ℕ → Option RowAt
home_from count a [] n = None
home_from count a (rec ∷ recs) n = if nat_lt n (count rec) then Some (at_row a n) else home_from count (suc a) recs (n - count rec)

abbrev pub type_home : List AsmRec → TypeId → Option RowAt
type_home recs t = home_from types_in 0 recs t.0

-- the type System.Array of the core library
abbrev pub array_type : List AsmRec → Option TypeId
array_type recs = option_map (type_id recs (length recs - 1)) (index_in TYPE_DEF ARRAY)

-- An array has the members of System.Array (I.8.9.1). A reference, a parameter and a modified type have none.
abbrev pub owner_in : List AsmRec → TypeExpr-F TypeExpr → Option TypeId
owner_in recs (TypeExpr-F.Prim n) = prim_type recs n
owner_in recs (TypeExpr-F.Def t) = Some t
owner_in recs (TypeExpr-F.Inst t args) = Some t
owner_in recs (TypeExpr-F.Array x) = array_type recs
owner_in recs _ = None

unfoldable pub owner_of : List AsmRec → TypeExpr → Option TypeId
owner_of recs e = owner_in recs (out-TypeExpr e)

abbrev pub args_in : TypeExpr-F TypeExpr → List TypeExpr
args_in (TypeExpr-F.Inst t args) = args
args_in _ = []

unfoldable pub args_of : TypeExpr → List TypeExpr
args_of e = args_in (out-TypeExpr e)

-- ---- bases (II.10.1)

abbrev pub good_type : Known TypeExpr → Option TypeExpr
good_type (Good e) = Some e
good_type (Bad why) = None

-- a class or an interface, alone or with arguments; a parameter, an array, a reference and a modified type are none
abbrev pub is_named_in : TypeExpr-F TypeExpr → Bool
is_named_in (TypeExpr-F.Prim n) = true
is_named_in (TypeExpr-F.Def t) = true
is_named_in (TypeExpr-F.Inst t args) = true
is_named_in _ = false

unfoldable pub is_named : TypeExpr → Bool
is_named e = is_named_in (out-TypeExpr e)

abbrev pub only_named : Option TypeExpr → Option TypeExpr
only_named None = None
only_named (Some e) = if is_named e then Some e else None

-- whether a type is an interface, by its flags (II.23.1.15)
abbrev pub is_interface_row : TypeDefRow → Bool
is_interface_row t = has_flag t.flags INTERFACE

-- the base of a class, as its row names it (II.22.37); an interface has none, whatever its row names
abbrev pub base_in : List AsmRec → ℕ → AsmRec → TypeDefRow → Option TypeExpr
base_in recs a rec row =
    if row.extends == 0 || is_interface_row row then None else only_named (good_type (token_type recs a rec row.extends))

abbrev pub base_at : List AsmRec → RowAt → Option TypeExpr
base_at recs at =
    option_and_then (λ (rec : AsmRec). option_and_then (base_in recs at.asm rec) (slice_get rec.type_def at.row)) (slice_get recs at.asm)

-- the base of a type, with the type's arguments put in
unfoldable pub base_of : List AsmRec → TypeExpr → Option TypeExpr
base_of recs e = option_map (subst (args_of e) []) (option_and_then (base_at recs) (option_and_then (type_home recs) (owner_of recs e)))

-- a type and its bases, the nearest first, at most n
unfoldable pub bases_from : List AsmRec → ℕ → TypeExpr → List TypeExpr
bases_from recs zero e = []
bases_from recs (suc n) e = e ∷ elim (base_of recs e) [ None ↦ [] | Some b ↦ bases_from recs n b ]

unfoldable pub type_count : List AsmRec → ℕ
type_count recs = rows_before types_in recs (length recs)

-- no chain of bases is longer than there are types, where no type is a base of its own
abbrev pub with_bases : List AsmRec → TypeExpr → List TypeExpr
with_bases recs e = bases_from recs (type_count recs) e

-- ---- members of a definition

-- the rows of a run, which begins and ends at rows from 1
abbrev pub run_of : {A : Type 0} → ℕ → ℕ → List A → List A
run_of first end rows = take (end - first) (drop (first - 1) rows)

-- the place of the first row of a run that passes a test
abbrev pub find_in_run : {A : Type 0} → (A → Bool) → ℕ → ℕ → List A → Option ℕ
find_in_run test first end rows = position_from test (first - 1) (run_of first end rows)

-- whether a member is compiler-controlled, by its flags (II.23.1.5, II.23.1.10): no reference names such a member
abbrev pub is_compiler_controlled : ℕ → Bool
is_compiler_controlled flags = access_of flags == COMPILER_CONTROLLED

abbrev pub is_method_type : List TypeExpr → MethodType → Known MethodType → Bool
is_method_type targs wanted (Good m) = same_method_type (subst_method targs m) wanted
is_method_type targs wanted (Bad why) = false

-- a method of this name and signature, where the type has these arguments; one with a bad signature is none
abbrev pub is_method : List AsmRec → ℕ → AsmRec → List TypeExpr → List ℕ → MethodType → MethodDefRow → Bool
is_method recs a rec targs name wanted m =
    same_name m.name name && not (is_compiler_controlled m.flags)
    && is_method_type targs wanted (known_then (method_type (names_at recs a rec)) m.signature)

abbrev pub is_field_type : List TypeExpr → TypeExpr → Known TypeExpr → Bool
is_field_type targs wanted (Good e) = same_expr (subst targs [] e) wanted
is_field_type targs wanted (Bad why) = false

abbrev pub is_field : List AsmRec → ℕ → AsmRec → List TypeExpr → List ℕ → TypeExpr → FieldRow → Bool
is_field recs a rec targs name wanted f =
    same_name f.name name && not (is_compiler_controlled f.flags)
    && is_field_type targs wanted (known_then (sig_expr (names_at recs a rec)) f.signature)

abbrev pub method_in : List AsmRec → List TypeExpr → List ℕ → MethodType → RowAt → AsmRec → TypeDefRow → Option RowAt
method_in recs targs name wanted at rec row =
    option_map (at_row at.asm) (find_in_run (is_method recs at.asm rec targs name wanted) row.method_list_first row.method_list_end rec.method_def)

abbrev pub field_in : List AsmRec → List TypeExpr → List ℕ → TypeExpr → RowAt → AsmRec → TypeDefRow → Option RowAt
field_in recs targs name wanted at rec row =
    option_map (at_row at.asm) (find_in_run (is_field recs at.asm rec targs name wanted) row.field_list_first row.field_list_end rec.field)

-- the result of a look-up in the definition of a type
abbrev pub in_definition : {A : Type 0} → List AsmRec → (RowAt → AsmRec → TypeDefRow → Option A) → TypeExpr → Option A
in_definition recs look e =
    option_and_then (λ (at : RowAt). option_and_then (λ (rec : AsmRec). option_and_then (look at rec) (slice_get rec.type_def at.row)) (slice_get recs at.asm))
    (option_and_then (type_home recs) (owner_of recs e))

unfoldable pub method_of_type : List AsmRec → List ℕ → MethodType → TypeExpr → Option RowAt
method_of_type recs name wanted e = in_definition recs (method_in recs (args_of e) name wanted) e

unfoldable pub field_of_type : List AsmRec → List ℕ → TypeExpr → TypeExpr → Option RowAt
field_of_type recs name wanted e = in_definition recs (field_in recs (args_of e) name wanted) e

-- ---- the search from a parent

-- a member, and the type in which it was found
pub record Found : Type 0 where
  pub at : RowAt
  pub owner : TypeExpr

abbrev pub found_in : TypeExpr → RowAt → Found
found_in e at = record { at = at; owner = e }

abbrev pub or_next : Option Found → Option Found → Option Found
or_next None later = later
or_next (Some x) later = Some x

-- the member in the first of these types that has one
unfoldable pub search : (TypeExpr → Option RowAt) → List TypeExpr → Option Found
search look [] = None
search look (e ∷ es) = or_next (option_map (found_in e) (look e)) (search look es)

-- the generic parameters of a type, as arguments
abbrev pub own_args : ℕ → List TypeExpr
own_args n = map (λ k. expr.Var k) (range_with_len 0 n)

-- A parent with its own generic parameters in place of its arguments, since a reference's signature is written in these; an array's
-- members are those of System.Array.
abbrev pub open_in : List AsmRec → TypeExpr → TypeExpr-F TypeExpr → TypeExpr
open_in recs e (TypeExpr-F.Inst t args) = expr.Inst t (own_args (length args))
open_in recs e (TypeExpr-F.Array x) = elim (array_type recs) [ Some t ↦ expr.Def t | None ↦ e ]
open_in recs e _ = e

unfoldable pub open_parent : List AsmRec → TypeExpr → TypeExpr
open_parent recs e = open_in recs e (out-TypeExpr e)

-- a member that was found, its owner with the arguments of the parent put in
abbrev pub closed : TypeExpr → Found → Found
closed parent x = record { at = x.at; owner = subst (args_of parent) [] x.owner }

unfoldable pub find_method : List AsmRec → TypeExpr → List ℕ → MethodType → Option Found
find_method recs parent name wanted =
    option_map (closed parent) (search (method_of_type recs name wanted) (with_bases recs (open_parent recs parent)))

unfoldable pub find_field : List AsmRec → TypeExpr → List ℕ → TypeExpr → Option Found
find_field recs parent name wanted =
    option_map (closed parent) (search (field_of_type recs name wanted) (with_bases recs (open_parent recs parent)))

-- ---- uses

abbrev pub methods_in : AsmRec → ℕ
methods_in rec = length rec.method_def

abbrev pub fields_in : AsmRec → ℕ
fields_in rec = length rec.field

-- the most levels that the owner of a member can have
abbrev pub most_levels : ℕ
most_levels = 64

-- `Outside` 5 is a signature outside the profile
abbrev pub method_use : List AsmRec → Option Found → Known MethodUse
method_use recs None = Bad Unresolved
method_use recs (Some x) =
    if nat_lt most_levels (levels x.owner) then Bad (Outside 5)
    else Good (record { method = record { 0 = rows_before methods_in recs x.at.asm + x.at.row }; owner = x.owner; args = [] })

abbrev pub field_use : List AsmRec → Option Found → Known FieldUse
field_use recs None = Bad Unresolved
field_use recs (Some x) =
    if nat_lt most_levels (levels x.owner) then Bad (Outside 5)
    else Good (record { field = record { 0 = rows_before fields_in recs x.at.asm + x.at.row }; owner = x.owner })

-- ---- definitions' own tokens

abbrev pub is_param_of : ℕ → GenericParamRow → Bool
is_param_of token row = row.owner == token

-- how many generic parameters a type has (II.22.20)
unfoldable pub param_count : AsmRec → ℕ → ℕ
param_count rec k = count_by (is_param_of (token_of TYPE_DEF (suc k))) rec.generic_param

abbrev pub with_own_args : List AsmRec → RowAt → ℕ → TypeExpr
with_own_args recs at zero = definition_expr recs at
with_own_args recs at (suc n) = expr.Inst (type_id recs at.asm at.row) (own_args (suc n))

-- a definition as a type: with its own generic parameters as arguments
unfoldable pub own_type : List AsmRec → AsmRec → RowAt → TypeExpr
own_type recs rec at = with_own_args recs at (param_count rec at.row)

-- whether a row, from 1, is in a run
abbrev pub is_in_run : ℕ → ℕ → ℕ → Bool
is_in_run first end row = nat_le first row && nat_lt row end

abbrev pub owns_method : ℕ → TypeDefRow → Bool
owns_method row t = is_in_run t.method_list_first t.method_list_end row

abbrev pub owns_field : ℕ → TypeDefRow → Bool
owns_field row t = is_in_run t.field_list_first t.field_list_end row

-- a member in the first type whose run it is in
abbrev pub own_member : List AsmRec → ℕ → AsmRec → (ℕ → TypeDefRow → Bool) → ℕ → Option Found
own_member recs a rec owns k =
    option_map (λ t. record { at = at_row a k; owner = own_type recs rec (at_row a t) }) (position_from (owns (suc k)) 0 rec.type_def)

unfoldable pub method_def_use : List AsmRec → ℕ → AsmRec → ℕ → Known MethodUse
method_def_use recs a rec k = method_use recs (own_member recs a rec owns_method k)

unfoldable pub field_def_use : List AsmRec → ℕ → AsmRec → ℕ → Known FieldUse
field_def_use recs a rec k = field_use recs (own_member recs a rec owns_field k)

-- ---- member references

-- the parent of a member reference, by a TypeDef, TypeRef or TypeSpec token; one in a module or by a method names nothing
abbrev pub parent_of : List AsmRec → ℕ → AsmRec → MemberRefRow → Known TypeExpr
parent_of recs a rec row = token_type recs a rec row.class

abbrev pub method_in_parent : List AsmRec → ℕ → AsmRec → MemberRefRow → TypeExpr → MemberSig → Known MethodUse
method_in_parent recs a rec row parent (member.Method s) =
    known_then (λ (wanted : MethodType). method_use recs (find_method recs parent row.name wanted)) (method_type (names_at recs a rec) s)
method_in_parent recs a rec row parent (member.Field s) = Bad Unresolved

abbrev pub field_in_parent : List AsmRec → ℕ → AsmRec → MemberRefRow → TypeExpr → MemberSig → Known FieldUse
field_in_parent recs a rec row parent (member.Field s) =
    known_then (λ (wanted : TypeExpr). field_use recs (find_field recs parent row.name wanted)) (sig_expr (names_at recs a rec) s)
field_in_parent recs a rec row parent (member.Method s) = Bad Unresolved

abbrev pub is_field_sig : Known MemberSig → Bool
is_field_sig (Good (member.Field s)) = true
is_field_sig (Good (member.Method s)) = false
is_field_sig (Bad why) = false

abbrev pub is_method_sig : Known MemberSig → Bool
is_method_sig (Good (member.Method s)) = true
is_method_sig (Good (member.Field s)) = false
is_method_sig (Bad why) = false

-- The method that a MemberRef row names: a reference to a field is unresolved here. A bad parent is answered before a bad signature.
unfoldable pub method_ref_use : List AsmRec → ℕ → AsmRec → MemberRefRow → Known MethodUse
method_ref_use recs a rec row =
    if is_field_sig row.signature then Bad Unresolved
    else known_then (λ (parent : TypeExpr). known_then (method_in_parent recs a rec row parent) row.signature) (parent_of recs a rec row)

unfoldable pub field_ref_use : List AsmRec → ℕ → AsmRec → MemberRefRow → Known FieldUse
field_ref_use recs a rec row =
    if is_method_sig row.signature then Bad Unresolved
    else known_then (λ (parent : TypeExpr). known_then (field_in_parent recs a rec row parent) row.signature) (parent_of recs a rec row)

-- ---- method instances (II.22.29)

abbrev pub ref_use_at : List AsmRec → ℕ → AsmRec → Option MemberRefRow → Known MethodUse
ref_use_at recs a rec None = Bad Unresolved
ref_use_at recs a rec (Some row) = method_ref_use recs a rec row

abbrev pub def_use_at : List AsmRec → ℕ → AsmRec → Option ℕ → Known MethodUse
def_use_at recs a rec None = Bad Unresolved
def_use_at recs a rec (Some k) = method_def_use recs a rec k

-- the method of a MethodSpec row, by a MethodDef or MemberRef token
unfoldable pub generic_method : List AsmRec → ℕ → AsmRec → ℕ → Known MethodUse
generic_method recs a rec token =
    if table_of token == METHOD_DEF then def_use_at recs a rec (row_below (methods_in rec) (index_in METHOD_DEF token))
    else ref_use_at recs a rec (option_and_then (slice_get rec.member_ref) (index_in MEMBER_REF token))

abbrev pub instantiated : MethodUse → List TypeExpr → MethodUse
instantiated u args = record { method = u.method; owner = u.owner; args = args }

abbrev pub arguments_of : Names → List Sig → Known (List TypeExpr)
arguments_of names sigs = all_known (map (sig_expr names) sigs)

-- the method that a MethodSpec row names; a bad method is answered before a bad argument
unfoldable pub method_spec_use : List AsmRec → ℕ → AsmRec → MethodSpecRow → Known MethodUse
method_spec_use recs a rec row =
    known_then (λ (u : MethodUse). known_map (instantiated u) (known_then (arguments_of (names_at recs a rec)) row.instantiation)) (generic_method recs a rec row.method)
