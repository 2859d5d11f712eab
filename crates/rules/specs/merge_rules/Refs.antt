-- The reference rows of the output, each once, in the order in which they are first met, and the tokens by which rows and code name
-- them. Rows are counted from 1 in tokens.
use Rattle.std.specs.Prelude.{ℕ, zero, suc, List, [], ◌∷◌, ◌++◌, map, codes, Option, Some, None, slice_get, position, nat_le, ◌+◌, ◌%◌, ◌==◌, ◌&&◌, ◌||◌, length, Bool, false, if◌then◌else◌}
use Rattle.std.specs.List.{list_any, flat_map, filter}
use Rattle.std.specs.Option.{option_map, option_and_then}
use Rattle.il_base.specs.declared.ids.TypeId.{TypeId}
use Rattle.il_base.specs.declared.ids.MethodId.{MethodId}
use Rattle.il_base.specs.declared.ids.FieldId.{FieldId}
use Rattle.il_base.specs.declared.ids.Item.TheVariants as item
use Rattle.il_base.specs.declared.sig.Sig.{Sig, fold-Sig}
use Rattle.il_base.specs.declared.sig.Sig.TheOpen.{Sig-F}
use Rattle.il_base.specs.declared.sig.Sig as sig
use Rattle.il_base.specs.declared.sig.MethodSig.{MethodSig}
use Rattle.il_base.specs.declared.table.TheConstants as table
use Rattle.il_base.specs.declared.world_model.known.Known.{Known}
use Rattle.il_base.specs.declared.world_model.known.Known.TheVariants.{Good, Bad}
use Rattle.il_base.specs.declared.world_model.expr.TypeExpr.{TypeExpr}
use Rattle.il_base.specs.declared.world_model.expr.MemberSig.TheVariants as member
use Rattle.il_base.specs.declared.world_model.assemblies.AssemblyRefRow.{AssemblyRefRow}
use Rattle.il_base.specs.declared.world_model.types.TypeDefRow.{TypeDefRow}
use Rattle.il_base.specs.declared.world_model.types.TypeRefRow.{TypeRefRow}
use Rattle.il_base.specs.declared.world_model.types.TypeSpecRow.{TypeSpecRow}
use Rattle.il_base.specs.declared.world_model.members.FieldRow.{FieldRow}
use Rattle.il_base.specs.declared.world_model.members.MethodDefRow.{MethodDefRow}
use Rattle.il_base.specs.declared.world_model.members.MemberRefRow.{MemberRefRow}
use Rattle.il_base.specs.declared.world_model.members.MethodSpecRow.{MethodSpecRow}
use Rattle.il_base.specs.declared.world_model.members.StandAloneSigRow.{StandAloneSigRow}
use Rattle.il_base.specs.declared.world_model.record.AsmRec.{AsmRec}
use Rattle.il_base.specs.world_model.Tokens.{token_of, index_in}
use Rattle.il_base.specs.world_model.Core.{same_name, is_core_scope}
use Rattle.il_base.specs.world_model.Exprs.{same_expr}
use Rattle.il_base.specs.world_model.Worlds.{type_id}
use Rattle.rules.specs.declared.link_rules.row_at.RowAt.{RowAt}
use Rattle.rules.specs.link_rules.Types.{ref_at, encloser}
use Rattle.rules.specs.link_rules.Members.{home_from, type_home, methods_in, fields_in}
use Rattle.rules.specs.link_rules.Cycles.{listed, same_row}
use Rattle.rules.specs.type_rules.Rows.{rec_at, type_row_at, each_row}
use Rattle.rules.specs.mark_rules.Places.{is_core}
use Rattle.rules.specs.merge_rules.Absent.{bare, same_assembly, reference_rows, reference_at, definition_of, assembly_scope, reference_scope, type_count, absent_type, absent_row}
use Rattle.rules.specs.merge_rules.Numbers.{Kept, inputs, kept_types, kept_methods, kept_fields, new_row}
use Rattle.rules.specs.merge_rules.Keys.{TypeKey, named, spec, same_sig, same_sigs, MethodKey, own_method, found_method, absent_method, same_type, world_method_sig, same_method_sig, FieldKey, own_field, found_field, InstanceKey, same_instance, expr_key, world_sig}
use Rattle.rules.specs.merge_rules.Order.{Met, met_type, met_sig, met_method, met_field, met_instance, met_locals}

-- ---- each once, as first met

abbrev pub met_once : {A : Type 0} → (A → A → Bool) → List A → A → List A
met_once same xs x = if list_any (same x) xs then xs else xs ++ x ∷ []

abbrev pub all_once : {A : Type 0} → (A → A → Bool) → List A → List A → List A
all_once same xs [] = xs
all_once same xs (y ∷ ys) = all_once same (met_once same xs y) ys

abbrev pub each_once : {A : Type 0} → (A → A → Bool) → List A → List A
each_once same xs = all_once same [] xs

-- ---- the types of the core library that a reference needs a TypeRef row for

abbrev pub numbers_layer : Sig-F (List ℕ) → List ℕ
numbers_layer (Sig-F.Prim n) = []
numbers_layer (Sig-F.Named value n) = n ∷ []
numbers_layer (Sig-F.Array x) = x
numbers_layer (Sig-F.ByRef x) = x
numbers_layer (Sig-F.Inst value n args) = n ∷ flat_map (λ xs. xs) args
numbers_layer (Sig-F.Var n) = []
numbers_layer (Sig-F.MVar n) = []
numbers_layer (Sig-F.Mod required n x) = n ∷ x
numbers_layer (Sig-F.Pinned x) = x

-- the types in a signature over the types of the world, in the order of its blob
unfoldable pub numbers_in : Sig → List ℕ
numbers_in = fold-Sig (List ℕ) numbers_layer

abbrev pub type_of_number : ℕ → List TypeId
type_of_number zero = []
type_of_number (suc t) = record { 0 = t } ∷ []

abbrev pub types_of_sig : Sig → List TypeId
types_of_sig s = flat_map type_of_number (numbers_in s)

abbrev pub types_of_sigs : List Sig → List TypeId
types_of_sigs ss = flat_map types_of_sig ss

abbrev pub types_of_key : TypeKey → List TypeId
types_of_key (named t) = t ∷ []
types_of_key (spec s) = types_of_sig s

abbrev pub types_of_method_sig : MethodSig → List TypeId
types_of_method_sig s = types_of_sigs (s.ret ∷ s.params)

-- the signature of a member, over the types of the world
abbrev pub known_list : {A : Type 0} → Known A → List A
known_list (Good x) = x ∷ []
known_list (Bad why) = []

abbrev pub own_method_sig : List AsmRec → RowAt → List MethodSig
own_method_sig recs at =
    flat_map (λ (rec : AsmRec). flat_map (λ (m : MethodDefRow). map (world_method_sig recs at.asm rec) (known_list m.signature)) (listed (slice_get rec.method_def at.row))) (listed (rec_at recs at))

abbrev pub own_field_sig : List AsmRec → RowAt → List Sig
own_field_sig recs at =
    flat_map (λ (rec : AsmRec). flat_map (λ (f : FieldRow). map (world_sig recs at.asm rec) (known_list f.signature)) (listed (slice_get rec.field at.row))) (listed (rec_at recs at))

abbrev pub method_at : List AsmRec → MethodId → Option RowAt
method_at recs m = home_from methods_in 0 recs m.0

abbrev pub field_at : List AsmRec → FieldId → Option RowAt
field_at recs f = home_from fields_in 0 recs f.0

abbrev pub types_of_owner : List AsmRec → TypeExpr → List TypeId
types_of_owner recs e = flat_map types_of_key (listed (expr_key recs e))

-- the types that a method's reference names: those of its parent, then those of its own signature
abbrev pub types_of_method : List AsmRec → MethodKey → List TypeId
types_of_method recs (own_method m) = []
types_of_method recs (found_method m e) =
    types_of_owner recs e ++ flat_map types_of_method_sig (flat_map (own_method_sig recs) (listed (method_at recs m)))
types_of_method recs (absent_method p name s) = types_of_key p ++ types_of_method_sig s

abbrev pub types_of_field : List AsmRec → FieldKey → List TypeId
types_of_field recs (own_field f) = []
types_of_field recs (found_field f e) = types_of_owner recs e ++ types_of_sigs (flat_map (own_field_sig recs) (listed (field_at recs f)))

abbrev pub types_of_met : List AsmRec → Met → List TypeId
types_of_met recs (met_type k) = types_of_key k
types_of_met recs (met_sig s) = types_of_sig s
types_of_met recs (met_method m) = types_of_method recs m
types_of_met recs (met_field f) = types_of_field recs f
types_of_met recs (met_instance i) = types_of_method recs i.method ++ types_of_sigs i.args
types_of_met recs (met_locals ss) = types_of_sigs ss

abbrev pub same_id : TypeId → TypeId → Bool
same_id t u = t.0 == u.0

-- whether a type needs a TypeRef row: it is of the core library, or isn't there
abbrev pub is_reference : List AsmRec → TypeId → Bool
is_reference recs t = nat_le (type_count recs) t.0 || is_core recs (item.Typ t)

-- ---- scopes

abbrev pub enclosing_type : List AsmRec → RowAt → Option TypeId
enclosing_type recs at = option_and_then (λ (rec : AsmRec). option_map (type_id recs at.asm) (encloser rec at.row)) (rec_at recs at)

abbrev pub outer_reference : List AsmRec → RowAt → Option TypeId
outer_reference recs at =
    elim (definition_of recs at) [ Some def ↦ Some (type_id recs def.asm def.row) | None ↦ absent_type recs at ]

abbrev pub scope_type_by : List AsmRec → TypeId → Option RowAt → Option TypeId
scope_type_by recs t None = option_and_then (enclosing_type recs) (type_home recs t)
scope_type_by recs t (Some at) = option_and_then (outer_reference recs) (reference_scope recs at)

-- the type that a TypeRef row of the output has as its scope: the encloser of its type; where the type isn't there, the scope that
-- the inputs have
unfoldable pub scope_type : List AsmRec → TypeId → Option TypeId
scope_type recs t = scope_type_by recs t (absent_row recs t)

-- a type after its scopes, over at most n of them
unfoldable pub with_scopes : List AsmRec → ℕ → TypeId → List TypeId
with_scopes recs zero t = t ∷ []
with_scopes recs (suc n) t = flat_map (with_scopes recs n) (listed (scope_type recs t)) ++ t ∷ []

-- no chain of scopes is longer than there are types and references
abbrev pub most_scopes : List AsmRec → ℕ
most_scopes recs = type_count recs + length (reference_rows recs)

-- the types that have a TypeRef row
unfoldable pub type_refs : List AsmRec → List Met → List TypeId
type_refs recs mets = each_once same_id (flat_map (with_scopes recs (most_scopes recs)) (filter (is_reference recs) (flat_map (types_of_met recs) mets)))

-- ---- TypeSpec rows: tokens of signatures, and owners of members

abbrev pub spec_of_key : TypeKey → List Sig
spec_of_key (named t) = []
spec_of_key (spec s) = s ∷ []

abbrev pub spec_of_method : List AsmRec → MethodKey → List Sig
spec_of_method recs (own_method m) = []
spec_of_method recs (found_method m e) = flat_map spec_of_key (listed (expr_key recs e))
spec_of_method recs (absent_method p name s) = spec_of_key p

abbrev pub spec_of_field : List AsmRec → FieldKey → List Sig
spec_of_field recs (own_field f) = []
spec_of_field recs (found_field f e) = flat_map spec_of_key (listed (expr_key recs e))

abbrev pub specs_of_met : List AsmRec → Met → List Sig
specs_of_met recs (met_type k) = spec_of_key k
specs_of_met recs (met_sig s) = []
specs_of_met recs (met_method m) = spec_of_method recs m
specs_of_met recs (met_field f) = spec_of_field recs f
specs_of_met recs (met_instance i) = spec_of_method recs i.method
specs_of_met recs (met_locals ss) = []

unfoldable pub type_specs : List AsmRec → List Met → List Sig
type_specs recs mets = each_once same_sig (flat_map (specs_of_met recs) mets)

-- ---- MemberRef rows

pub data MemberKey : Type 0 where
  a_method : MethodId → TypeExpr → MemberKey
  a_field : FieldId → TypeExpr → MemberKey
  an_absent : TypeKey → List ℕ → MethodSig → MemberKey

abbrev pub same_member : MemberKey → MemberKey → Bool
same_member (a_method m e) (a_method n f) = m.0 == n.0 && same_expr e f
same_member (a_field m e) (a_field n f) = m.0 == n.0 && same_expr e f
same_member (an_absent p x s) (an_absent q y r) = same_type p q && same_name x y && same_method_sig s r
same_member _ _ = false

abbrev pub member_of_method : MethodKey → List MemberKey
member_of_method (own_method m) = []
member_of_method (found_method m e) = a_method m e ∷ []
member_of_method (absent_method p name s) = an_absent p name s ∷ []

abbrev pub member_of_field : FieldKey → List MemberKey
member_of_field (own_field f) = []
member_of_field (found_field f e) = a_field f e ∷ []

abbrev pub members_of_met : Met → List MemberKey
members_of_met (met_type k) = []
members_of_met (met_sig s) = []
members_of_met (met_method m) = member_of_method m
members_of_met (met_field f) = member_of_field f
members_of_met (met_instance i) = member_of_method i.method
members_of_met (met_locals ss) = []

unfoldable pub member_refs : List Met → List MemberKey
member_refs mets = each_once same_member (flat_map members_of_met mets)

-- ---- MethodSpec and StandAloneSig rows

abbrev pub instances_of_met : Met → List InstanceKey
instances_of_met (met_instance i) = i ∷ []
instances_of_met _ = []

unfoldable pub method_specs : List Met → List InstanceKey
method_specs mets = each_once same_instance (flat_map instances_of_met mets)

abbrev pub locals_of_met : Met → List (List Sig)
locals_of_met (met_locals ss) = ss ∷ []
locals_of_met _ = []

unfoldable pub locals_sigs : List Met → List (List Sig)
locals_sigs mets = each_once same_sigs (flat_map locals_of_met mets)

-- ---- assemblies

-- the assembly through which the inputs first name a type of the core library, in the order of inputs and rows
abbrev pub names_core_type : List AsmRec → TypeId → ℕ → AsmRec → ℕ → TypeRefRow → List AssemblyRefRow
names_core_type recs t a rec k row =
    if is_core_scope rec row.resolution_scope && list_any (λ (at : RowAt). list_any (same_row at) (listed (type_home recs t))) (listed (ref_at recs a rec k))
    then listed (option_and_then (slice_get rec.assembly_ref) (index_in table.ASSEMBLY_REF row.resolution_scope)) else []

abbrev pub system_runtime : AssemblyRefRow
system_runtime = record {
  major_version = 0;
  minor_version = 0;
  build_number = 0;
  revision_number = 0;
  flags = 0;
  public_key_or_token = [];
  name = codes "System.Runtime";
  culture = [];
  hash_value = [];
}

abbrev pub first_or : {A : Type 0} → List A → A → A
first_or [] other = other
first_or (x ∷ xs) other = x

unfoldable pub scope_of : List AsmRec → TypeId → AssemblyRefRow
scope_of recs t =
    bare (first_or (flat_map (λ (x : ℕ × AsmRec). each_row (names_core_type recs t x.0 x.1) x.1.type_ref) (inputs recs)) system_runtime)

-- the assembly that a TypeRef row has as its scope: none where that is a type or the module
abbrev pub assemblies_of : List AsmRec → TypeId → List AssemblyRefRow
assemblies_of recs t =
    elim (absent_row recs t) [ Some at ↦ map bare (listed (assembly_scope recs at)) | None ↦ elim (scope_type recs t) [ Some around ↦ [] | None ↦ scope_of recs t ∷ [] ] ]

unfoldable pub assembly_refs : List AsmRec → List Met → List AssemblyRefRow
assembly_refs recs mets = each_once same_assembly (flat_map (assemblies_of recs) (type_refs recs mets))

-- ---- tokens

-- the output: the inputs, the kept rows, and the references that these make
pub record Output : Type 0 where
  pub recs : List AsmRec
  pub kept : Kept
  pub mets : List Met

abbrev pub row_token : ℕ → Option ℕ → ℕ
row_token table None = 0
row_token table (Some k) = token_of table (suc k) % 4294967296

abbrev pub kept_token : ℕ → List RowAt → Option RowAt → ℕ
kept_token table rows at = row_token table (option_and_then (new_row rows) at)

-- the token of a type: its row for a type of an input, else its TypeRef row
unfoldable pub type_token : Output → TypeId → ℕ
type_token o t =
    if is_reference o.recs t then row_token table.TYPE_REF (position (same_id t) (type_refs o.recs o.mets))
    else kept_token table.TYPE_DEF (kept_types o.recs o.kept) (type_home o.recs t)

unfoldable pub key_token : Output → TypeKey → ℕ
key_token o (named t) = type_token o t
key_token o (spec s) = row_token table.TYPE_SPEC (position (same_sig s) (type_specs o.recs o.mets))

abbrev pub member_token : Output → MemberKey → ℕ
member_token o m = row_token table.MEMBER_REF (position (same_member m) (member_refs o.mets))

unfoldable pub method_token : Output → MethodKey → ℕ
method_token o (own_method m) = kept_token table.METHOD_DEF (kept_methods o.recs o.kept) (method_at o.recs m)
method_token o (found_method m e) = member_token o (a_method m e)
method_token o (absent_method p name s) = member_token o (an_absent p name s)

unfoldable pub field_token : Output → FieldKey → ℕ
field_token o (own_field f) = kept_token table.FIELD (kept_fields o.recs o.kept) (field_at o.recs f)
field_token o (found_field f e) = member_token o (a_field f e)

unfoldable pub instance_token : Output → InstanceKey → ℕ
instance_token o i = row_token table.METHOD_SPEC (position (same_instance i) (method_specs o.mets))

unfoldable pub locals_token : Output → List Sig → ℕ
locals_token o ss = row_token table.STAND_ALONE_SIG (position (same_sigs ss) (locals_sigs o.mets))

-- ---- signatures of the output

abbrev pub number_token : Output → ℕ → ℕ
number_token o zero = 0
number_token o (suc t) = type_token o (record { 0 = t })

abbrev pub new_sig_layer : Output → Sig-F Sig → Sig
new_sig_layer o (Sig-F.Prim n) = sig.Prim n
new_sig_layer o (Sig-F.Named value n) = sig.Named value (number_token o n)
new_sig_layer o (Sig-F.Array x) = sig.Array x
new_sig_layer o (Sig-F.ByRef x) = sig.ByRef x
new_sig_layer o (Sig-F.Inst value n args) = sig.Inst value (number_token o n) args
new_sig_layer o (Sig-F.Var n) = sig.Var n
new_sig_layer o (Sig-F.MVar n) = sig.MVar n
new_sig_layer o (Sig-F.Mod required n x) = sig.Mod required (number_token o n) x
new_sig_layer o (Sig-F.Pinned x) = sig.Pinned x

-- a signature with the output's tokens in place of the numbers of types
unfoldable pub new_sig : Output → Sig → Sig
new_sig o = fold-Sig Sig (new_sig_layer o)

abbrev pub new_method_sig : Output → MethodSig → MethodSig
new_method_sig o s = record s { ret = new_sig o s.ret; params = map (new_sig o) s.params }

-- ---- the rows

-- the scope of a TypeRef row that is in no type and no assembly: 0, or the module (II.22.38)
abbrev pub own_scope : List AsmRec → TypeId → ℕ
own_scope recs t = first_or (map (λ (row : TypeRefRow). row.resolution_scope) (listed (option_and_then (reference_at recs) (absent_row recs t)))) 0

abbrev pub assembly_token : Output → AssemblyRefRow → ℕ
assembly_token o row = row_token table.ASSEMBLY_REF (position (same_assembly row) (assembly_refs o.recs o.mets))

abbrev pub scope_token : Output → TypeId → ℕ
scope_token o t =
    elim (scope_type o.recs t) [ Some around ↦ type_token o around | None ↦ first_or (map (assembly_token o) (assemblies_of o.recs t)) (own_scope o.recs t) ]

abbrev pub found_ref : Output → TypeId → TypeDefRow → TypeRefRow
found_ref o t row = record { resolution_scope = scope_token o t; name = row.name; namespace = row.namespace }

abbrev pub absent_ref : Output → TypeId → TypeRefRow → TypeRefRow
absent_ref o t row = record row { resolution_scope = scope_token o t }

abbrev pub type_ref_row : Output → TypeId → List TypeRefRow
type_ref_row o t =
    elim (absent_row o.recs t) [ Some at ↦ map (absent_ref o t) (listed (reference_at o.recs at)) | None ↦ map (found_ref o t) (listed (option_and_then (type_row_at o.recs) (type_home o.recs t))) ]

unfoldable pub type_ref_rows : Output → List TypeRefRow
type_ref_rows o = flat_map (type_ref_row o) (type_refs o.recs o.mets)

unfoldable pub type_spec_rows : Output → List TypeSpecRow
type_spec_rows o = map (λ s. record { signature = Good (new_sig o s) }) (type_specs o.recs o.mets)

abbrev pub parent_token : Output → TypeExpr → ℕ
parent_token o e = first_or (map (key_token o) (listed (expr_key o.recs e))) 0

abbrev pub method_name : List AsmRec → RowAt → List ℕ
method_name recs at = flat_map (λ (rec : AsmRec). flat_map (λ (m : MethodDefRow). m.name) (listed (slice_get rec.method_def at.row))) (listed (rec_at recs at))

abbrev pub field_name : List AsmRec → RowAt → List ℕ
field_name recs at = flat_map (λ (rec : AsmRec). flat_map (λ (f : FieldRow). f.name) (listed (slice_get rec.field at.row))) (listed (rec_at recs at))

-- the MemberRef row of a member: its name and its own signature, in the type in which it was found; one that isn't there keeps its
-- name and signature
abbrev pub member_ref_row : Output → MemberKey → List MemberRefRow
member_ref_row o (a_method m e) =
    flat_map (λ at. map (λ s. record { class = parent_token o e; name = method_name o.recs at; signature = Good (member.Method (new_method_sig o s)) }) (own_method_sig o.recs at)) (listed (method_at o.recs m))
member_ref_row o (a_field f e) =
    flat_map (λ at. map (λ s. record { class = parent_token o e; name = field_name o.recs at; signature = Good (member.Field (new_sig o s)) }) (own_field_sig o.recs at)) (listed (field_at o.recs f))
member_ref_row o (an_absent p name s) = record { class = key_token o p; name = name; signature = Good (member.Method (new_method_sig o s)) } ∷ []

unfoldable pub member_ref_rows : Output → List MemberRefRow
member_ref_rows o = flat_map (member_ref_row o) (member_refs o.mets)

unfoldable pub method_spec_rows : Output → List MethodSpecRow
method_spec_rows o = map (λ (i : InstanceKey). record { method = method_token o i.method; instantiation = Good (map (new_sig o) i.args) }) (method_specs o.mets)

unfoldable pub locals_rows : Output → List StandAloneSigRow
locals_rows o = map (λ ss. record { signature = Good (map (new_sig o) ss) }) (locals_sigs o.mets)
