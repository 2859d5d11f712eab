-- Custom attributes (II.22.10, II.23.3): the rows of an item, their values, and what a row marks whose constructor is in an input.
use Rattle.std.specs.Prelude.{ℕ, zero, suc, List, [], ◌∷◌, ◌++◌, length, map, codes, Option, Some, None, Result, Ok, Err, slice_get, nat_lt, ◌%◌, ◌==◌, ◌&&◌, ◌||◌, Bool, true, false, not, if◌then◌else◌}
use Rattle.std.specs.List.{list_any, flat_map, filter}
use Rattle.std.specs.Option.{option_map, option_and_then}
use Rattle.il_base.specs.declared.ids.TypeId.{TypeId}
use Rattle.il_base.specs.declared.ids.Item.{Item}
use Rattle.il_base.specs.declared.ids.Item.TheVariants as item
use Rattle.il_base.specs.declared.sig.Sig.{Sig, fold-Sig}
use Rattle.il_base.specs.declared.sig.Sig.TheOpen.{Sig-F}
use Rattle.il_base.specs.declared.sig.MethodSig.{MethodSig}
use Rattle.il_base.specs.declared.element.TheConstants as element
use Rattle.il_base.specs.declared.semantics.TheConstants.{SETTER}
use Rattle.il_base.specs.declared.table.TheConstants.{MODULE, TYPE_REF, TYPE_DEF, FIELD, METHOD_DEF, PARAM, INTERFACE_IMPL, MEMBER_REF, EVENT, PROPERTY, ASSEMBLY, GENERIC_PARAM, GENERIC_PARAM_CONSTRAINT}
use Rattle.il_base.specs.declared.world_model.known.Known.{Known}
use Rattle.il_base.specs.declared.world_model.known.Known.TheVariants.{Good, Bad}
use Rattle.il_base.specs.declared.world_model.expr.TypeExpr.{TypeExpr, out-TypeExpr}
use Rattle.il_base.specs.declared.world_model.expr.TypeExpr.TheOpen.{TypeExpr-F}
use Rattle.il_base.specs.declared.world_model.expr.MethodUse.{MethodUse}
use Rattle.il_base.specs.declared.world_model.expr.MemberSig.{MemberSig}
use Rattle.il_base.specs.declared.world_model.expr.MemberSig.TheVariants as member
use Rattle.il_base.specs.declared.world_model.types.TypeDefRow.{TypeDefRow}
use Rattle.il_base.specs.declared.world_model.types.TypeRefRow.{TypeRefRow}
use Rattle.il_base.specs.declared.world_model.types.GenericParamRow.{GenericParamRow}
use Rattle.il_base.specs.declared.world_model.types.GenericParamConstraintRow.{GenericParamConstraintRow}
use Rattle.il_base.specs.declared.world_model.members.FieldRow.{FieldRow}
use Rattle.il_base.specs.declared.world_model.members.MethodDefRow.{MethodDefRow}
use Rattle.il_base.specs.declared.world_model.members.MemberRefRow.{MemberRefRow}
use Rattle.il_base.specs.declared.world_model.members.PropertyRow.{PropertyRow}
use Rattle.il_base.specs.declared.world_model.members.MethodSemanticsRow.{MethodSemanticsRow}
use Rattle.il_base.specs.declared.world_model.assemblies.AssemblyRow.{AssemblyRow}
use Rattle.il_base.specs.declared.world_model.extras.CustomAttributeRow.{CustomAttributeRow}
use Rattle.il_base.specs.declared.world_model.record.AsmRec.{AsmRec}
use Rattle.il_base.specs.world_model.Tokens.{token_of, index_in}
use Rattle.il_base.specs.declared.world_model.known.BadKind.TheVariants.{Unresolved}
use Rattle.il_base.specs.world_model.Core.{same_name, is_core_scope}
use Rattle.il_base.specs.world_model.Worlds.{known_then, sig_expr, type_id}
use Rattle.attr_blobs.specs.declared.name.TypeName.{TypeName}
use Rattle.attr_blobs.specs.declared.name.NameRead.{NameRead}
use Rattle.attr_blobs.specs.declared.name.NameRead.TheVariants as read
use Rattle.attr_blobs.specs.declared.kind.ParamKind.{ParamKind, fold-ParamKind}
use Rattle.attr_blobs.specs.declared.kind.ParamKind.TheOpen.{ParamKind-F}
use Rattle.attr_blobs.specs.declared.kind.ParamKind as kind
use Rattle.attr_blobs.specs.declared.value.Arg.{Arg, fold-Arg}
use Rattle.attr_blobs.specs.declared.value.Arg.TheOpen.{Arg-F}
use Rattle.attr_blobs.specs.declared.value.NamedArg.{NamedArg}
use Rattle.attr_blobs.specs.declared.value.AttrValue.{AttrValue}
use Rattle.attr_blobs.specs.declared.value.EnumSize.{EnumSize}
use Rattle.attr_blobs.specs.Values.{name_of_text, value_of_blob}
use Rattle.rules.specs.declared.link_rules.row_at.RowAt.{RowAt}
use Rattle.rules.specs.link_rules.Types.{at_row, definition_at, encloser}
use Rattle.rules.specs.link_rules.Signatures.{names_at, prim_at}
use Rattle.rules.specs.link_rules.Members.{with_bases}
use Rattle.rules.specs.link_rules.Cycles.{listed, home_of, is_static_field}
use Rattle.rules.specs.type_rules.Slots.{nearest}
use Rattle.rules.specs.type_rules.Texts.{full_name}
use Rattle.rules.specs.type_rules.Searches.{find_type, has_owner}
use Rattle.rules.specs.type_rules.Rows.{each_row, field_row_at, fields_of_type, is_enum, rec_at, run_places, type_row_at}
use Rattle.rules.specs.mark_rules.Facts.{Fact}
use Rattle.rules.specs.mark_rules.Facts.Fact.{marked}
use Rattle.rules.specs.mark_rules.Places.{row_of, is_core, marks_method, field_item}
use Rattle.rules.specs.mark_rules.Naming.{mark_types, of_expr, of_method_use, method_named}
use Rattle.rules.specs.mark_rules.Members.{properties_of_type}

-- ---- the tokens whose attribute rows are an item's

abbrev pub constraint_token : ℕ → ℕ → GenericParamConstraintRow → List ℕ
constraint_token owner k row = if row.owner == owner then token_of GENERIC_PARAM_CONSTRAINT (suc k) ∷ [] else []

abbrev pub param_tokens : AsmRec → ℕ → ℕ → GenericParamRow → List ℕ
param_tokens rec owner k row =
    if row.owner == owner then token_of GENERIC_PARAM (suc k) ∷ each_row (constraint_token (token_of GENERIC_PARAM (suc k))) rec.generic_param_constraint else []

-- the tokens of the generic parameters of a type or a method, and of their constraints
abbrev pub generic_tokens : AsmRec → ℕ → List ℕ
generic_tokens rec owner = each_row (param_tokens rec owner) rec.generic_param

abbrev pub parameter_tokens : AsmRec → ℕ → List ℕ
parameter_tokens rec k =
    flat_map (λ (m : MethodDefRow). map (λ p. token_of PARAM (suc p)) (run_places m.param_list_first m.param_list_end rec.param)) (listed (slice_get rec.method_def k))

-- the tokens whose attributes are an item's: of an assembly its own and its module's, of a method also those of its parameters
abbrev pub tokens_in : Item → ℕ → AsmRec → List ℕ
tokens_in (item.Asm a) k rec = token_of ASSEMBLY 1 ∷ token_of MODULE 1 ∷ []
tokens_in (item.Typ t) k rec = token_of TYPE_DEF (suc k) ∷ generic_tokens rec (token_of TYPE_DEF (suc k))
tokens_in (item.Method m) k rec = token_of METHOD_DEF (suc k) ∷ parameter_tokens rec k ++ generic_tokens rec (token_of METHOD_DEF (suc k))
tokens_in (item.Field f) k rec = token_of FIELD (suc k) ∷ []
tokens_in (item.Prop p) k rec = token_of PROPERTY (suc k) ∷ []
tokens_in (item.Event e) k rec = token_of EVENT (suc k) ∷ []
tokens_in (item.Impl i) k rec = token_of INTERFACE_IMPL (suc k) ∷ []

abbrev pub has_parent : List ℕ → CustomAttributeRow → Bool
has_parent tokens row = list_any (λ t. row.parent == t) tokens

-- the attribute rows of an item
unfoldable pub attributes_of : List AsmRec → Item → List CustomAttributeRow
attributes_of recs i =
    flat_map (λ (at : RowAt). flat_map (λ (rec : AsmRec). filter (has_parent (tokens_in i at.row rec)) rec.custom_attribute) (listed (rec_at recs at))) (listed (row_of recs i))

-- ---- enums by name, with the size of their underlying type (II.14.3)

abbrev pub size_of_prim : ℕ → ℕ
size_of_prim n =
    if n == element.BOOLEAN || n == element.I1 || n == element.U1 then 1
    else if n == element.CHAR || n == element.I2 || n == element.U2 then 2
    else if n == element.I8 || n == element.U8 then 8
    else 4

abbrev pub prim_size : TypeExpr-F TypeExpr → ℕ
prim_size (TypeExpr-F.Prim n) = size_of_prim n
prim_size _ = 4

abbrev pub expr_size : Known TypeExpr → ℕ
expr_size (Good e) = prim_size (out-TypeExpr e)
expr_size (Bad why) = 4

abbrev pub first_size : List ℕ → ℕ
first_size [] = 4
first_size (n ∷ ns) = n

abbrev pub field_size : List AsmRec → RowAt → List ℕ
field_size recs at =
    flat_map (λ (rec : AsmRec). flat_map (λ (f : FieldRow). if is_static_field f then [] else expr_size (known_then (sig_expr (names_at recs at.asm rec)) f.signature) ∷ []) (listed (slice_get rec.field at.row))) (listed (rec_at recs at))

-- the size of an enum in bytes: that of the type of its first instance field
unfoldable pub enum_size : List AsmRec → RowAt → ℕ
enum_size recs at = first_size (flat_map (field_size recs) (fields_of_type recs at))

-- a type's path: the full name of the outermost type, then the names of nested ones, at most n
abbrev pub path_by : (ℕ → List (List ℕ)) → AsmRec → ℕ → TypeDefRow → Option ℕ → List (List ℕ)
path_by outer rec k t None = full_name t ∷ []
path_by outer rec k t (Some around) = outer around ++ t.name ∷ []

unfoldable pub path_within : AsmRec → ℕ → ℕ → List (List ℕ)
path_within rec zero k = []
path_within rec (suc n) k = flat_map (λ (t : TypeDefRow). path_by (path_within rec n) rec k t (encloser rec k)) (listed (slice_get rec.type_def k))

abbrev pub core_names : List (List ℕ)
core_names = codes "System.Runtime" ∷ codes "System.Console" ∷ codes "System.Private.CoreLib" ∷ codes "mscorlib" ∷ codes "netstandard" ∷ []

-- the names under which an assembly is found
abbrev pub names_of_assembly : List AsmRec → ℕ → AsmRec → List (List ℕ)
names_of_assembly recs a rec = if suc a == length recs then core_names else map (λ (row : AssemblyRow). row.name) rec.assembly

abbrev pub is_found : List AsmRec → ℕ → TypeId → TypeName → Bool
is_found recs from t n = list_any (λ (u : TypeId). u.0 == t.0) (listed (find_type recs from n))

abbrev pub sized : List AsmRec → ℕ → TypeId → ℕ → TypeName → List EnumSize
sized recs from t size n = if is_found recs from t n then record { name = n; size = size } ∷ [] else []

abbrev pub enum_names : List AsmRec → ℕ → ℕ → AsmRec → ℕ → TypeDefRow → List EnumSize
enum_names recs from a rec k t =
    if is_enum recs (at_row a k)
    then flat_map (λ asm. sized recs from (type_id recs a k) (enum_size recs (at_row a k)) (record { path = path_within rec (suc (length rec.type_def)) k; asm = asm })) (None ∷ map (λ n. Some n) (names_of_assembly recs a rec))
    else []

-- the enums of a world by each name that finds them from an assembly
unfoldable pub enums_from : List AsmRec → ℕ → List EnumSize
enums_from recs from = each_row (λ a (rec : AsmRec). each_row (enum_names recs from a rec) rec.type_def) recs

-- ---- the kinds of a constructor's parameters (II.23.3)

abbrev pub prim_kind : ℕ → Option ParamKind
prim_kind n =
    if n == element.STRING then Some kind.Text
    else if n == element.OBJECT then Some kind.Boxed
    else if nat_lt element.VOID n && nat_lt n element.STRING then Some (kind.Prim n)
    else None

abbrev pub is_system_type_row : List AsmRec → RowAt → Bool
is_system_type_row recs at =
    suc at.asm == length recs && list_any (λ (t : TypeDefRow). same_name (full_name t) (codes "System.Type")) (listed (type_row_at recs at))

abbrev pub named_kind : List AsmRec → RowAt → Option ParamKind
named_kind recs at =
    elim (prim_at recs at) [ Some n ↦ prim_kind n | None ↦ (if is_system_type_row recs at then Some kind.Typ else if is_enum recs at then Some (kind.Enum [] (enum_size recs at)) else None) ]

-- whether a TypeRef row leads to the core library, through enclosers, over at most n rows
unfoldable pub is_core_ref_within : AsmRec → ℕ → ℕ → Bool
is_core_ref_within rec zero token = false
is_core_ref_within rec (suc n) token =
    list_any (λ (row : TypeRefRow). is_core_scope rec row.resolution_scope || is_core_ref_within rec n row.resolution_scope)
    (listed (option_and_then (slice_get rec.type_ref) (index_in TYPE_REF token)))

abbrev pub is_core_ref : AsmRec → ℕ → Bool
is_core_ref rec token = is_core_ref_within rec (length rec.type_ref) token

-- the kind of a value type of the core library that isn't in its table: an enum of four bytes
abbrev pub absent_kind : Bool → Option ParamKind
absent_kind true = Some (kind.Enum [] 4)
absent_kind false = None

abbrev pub kind_of_named : List AsmRec → Bool → Option RowAt → Option ParamKind
kind_of_named recs absent None = absent_kind absent
kind_of_named recs absent (Some at) = named_kind recs at

abbrev pub kind_layer : List AsmRec → ℕ → AsmRec → Sig-F (Option ParamKind) → Option ParamKind
kind_layer recs a rec (Sig-F.Prim n) = prim_kind n
kind_layer recs a rec (Sig-F.Named value token) = kind_of_named recs (value && is_core_ref rec token) (definition_at recs a rec token)
kind_layer recs a rec (Sig-F.Array x) = option_map (λ k. kind.List k) x
kind_layer recs a rec (Sig-F.Mod required token x) = x
kind_layer recs a rec _ = None

unfoldable pub kind_of : List AsmRec → ℕ → AsmRec → Sig → Option ParamKind
kind_of recs a rec = fold-Sig (Option ParamKind) (kind_layer recs a rec)

abbrev pub all_some : {A : Type 0} → List (Option A) → Option (List A)
all_some [] = Some []
all_some (None ∷ xs) = None
all_some (Some x ∷ xs) = option_map (λ ys. x ∷ ys) (all_some xs)

abbrev pub kinds_of_known : List AsmRec → ℕ → AsmRec → Known MethodSig → Option (List ParamKind)
kinds_of_known recs a rec (Good s) = all_some (map (kind_of recs a rec) s.params)
kinds_of_known recs a rec (Bad why) = None

abbrev pub ref_sig : MemberRefRow → Known MethodSig
ref_sig row = known_then method_part row.signature
  where
    method_part : MemberSig → Known MethodSig
    method_part (member.Method s) = Good s
    method_part (member.Field s) = Bad Unresolved

-- the signature of a constructor, by a MethodDef or MemberRef token
abbrev pub constructor_sig : AsmRec → ℕ → List (Known MethodSig)
constructor_sig rec token =
    map (λ (m : MethodDefRow). m.signature) (listed (option_and_then (slice_get rec.method_def) (index_in METHOD_DEF token)))
    ++ map ref_sig (listed (option_and_then (slice_get rec.member_ref) (index_in MEMBER_REF token)))

abbrev pub first_kinds : List AsmRec → ℕ → AsmRec → List (Known MethodSig) → Option (List ParamKind)
first_kinds recs a rec [] = None
first_kinds recs a rec (s ∷ ss) = kinds_of_known recs a rec s

abbrev pub read_value : List EnumSize → List ℕ → List ParamKind → Option AttrValue
read_value enums blob kinds = ok_value (value_of_blob enums kinds blob)
  where
    ok_value : Result AttrValue ℕ → Option AttrValue
    ok_value (Ok v) = Some v
    ok_value (Err at) = None

-- the value of an attribute row; None where it has no reading
unfoldable pub value_of : List AsmRec → ℕ → AsmRec → CustomAttributeRow → Option AttrValue
value_of recs a rec row = option_and_then (read_value (enums_from recs a) row.value) (first_kinds recs a rec (constructor_sig rec row.ctor))

-- ---- the types that a value names

abbrev pub found_by : List AsmRec → ℕ → NameRead → List TypeId
found_by recs from (read.Name n) = listed (find_type recs from n)
found_by recs from read.Other = []
found_by recs from read.Malformed = []

-- the type that a text names from an assembly; a text that names none marks nothing
abbrev pub type_named : List AsmRec → ℕ → List ℕ → List TypeId
type_named recs from text = found_by recs from (name_of_text text)

abbrev pub kind_types_layer : List AsmRec → ℕ → ParamKind-F (List TypeId) → List TypeId
kind_types_layer recs from (ParamKind-F.Enum name size) = type_named recs from name
kind_types_layer recs from (ParamKind-F.List x) = x
kind_types_layer recs from _ = []

-- the enums that a kind names; the kind of a parameter names none
abbrev pub kind_types : List AsmRec → ℕ → ParamKind → List TypeId
kind_types recs from = fold-ParamKind (List TypeId) (kind_types_layer recs from)

abbrev pub arg_types_layer : List AsmRec → ℕ → Arg-F (List TypeId) → List TypeId
arg_types_layer recs from (Arg-F.Number n) = []
arg_types_layer recs from (Arg-F.Text text) = []
arg_types_layer recs from (Arg-F.Typ name) = flat_map (type_named recs from) (listed name)
arg_types_layer recs from (Arg-F.Boxed k x) = kind_types recs from k ++ x
arg_types_layer recs from (Arg-F.List xs) = flat_map (λ ys. flat_map (λ y. y) ys) (listed xs)

unfoldable pub arg_types : List AsmRec → ℕ → Arg → List TypeId
arg_types recs from = fold-Arg (List TypeId) (arg_types_layer recs from)

abbrev pub named_types : List AsmRec → ℕ → NamedArg → List TypeId
named_types recs from n = kind_types recs from n.kind ++ arg_types recs from n.value

-- each type value and each enum, found from the attribute's assembly
unfoldable pub value_types : List AsmRec → ℕ → AttrValue → List TypeId
value_types recs from v = flat_map (arg_types recs from) v.fixed ++ flat_map (named_types recs from) v.named

-- ---- the fields and setters that a value names: in the attribute's type, or in the nearest base that has one of that name

abbrev pub is_field_named : List AsmRec → List ℕ → RowAt → Bool
is_field_named recs name at = list_any (λ (f : FieldRow). same_name f.name name) (listed (field_row_at recs at))

abbrev pub fields_named_in : List AsmRec → List ℕ → TypeExpr → List RowAt
fields_named_in recs name e = filter (is_field_named recs name) (flat_map (fields_of_type recs) (listed (home_of recs e)))

abbrev pub head_of : {A : Type 0} → List A → Option A
head_of [] = None
head_of (x ∷ xs) = Some x

abbrev pub field_facts : List AsmRec → List ℕ → TypeExpr → Option (List Fact)
field_facts recs name e = option_map (λ f. marked (field_item recs f) ∷ of_expr e) (head_of (fields_named_in recs name e))

abbrev pub property_row_at : List AsmRec → RowAt → Option PropertyRow
property_row_at recs at = option_and_then (λ (rec : AsmRec). slice_get rec.property at.row) (rec_at recs at)

abbrev pub is_property_called : List AsmRec → List ℕ → RowAt → Bool
is_property_called recs name at = list_any (λ (p : PropertyRow). same_name p.name name) (listed (property_row_at recs at))

abbrev pub properties_called_in : List AsmRec → List ℕ → TypeExpr → List RowAt
properties_called_in recs name e = filter (is_property_called recs name) (flat_map (properties_of_type recs) (listed (home_of recs e)))

abbrev pub setter_in : AsmRec → ℕ → MethodSemanticsRow → List ℕ
setter_in rec token row = if row.association == token && row.semantics % 2 == SETTER then filter (has_owner rec) (listed (index_in METHOD_DEF row.method)) else []

-- the first setter of a property; one without a setter marks nothing, and no base further up is searched
abbrev pub setters_of : List AsmRec → RowAt → List RowAt
setters_of recs p =
    flat_map (λ (rec : AsmRec). map (at_row p.asm) (listed (head_of (flat_map (setter_in rec (token_of PROPERTY (suc p.row))) rec.method_semantics)))) (listed (rec_at recs p))

abbrev pub setter_facts : List AsmRec → List ℕ → TypeExpr → Option (List Fact)
setter_facts recs name e =
    option_map (λ p. flat_map (λ m. marks_method recs m ∷ of_expr e) (setters_of recs p)) (head_of (properties_called_in recs name e))

abbrev pub flat : {A : Type 0} → Option (List A) → List A
flat None = []
flat (Some xs) = xs

abbrev pub named_member : List AsmRec → TypeExpr → NamedArg → List Fact
named_member recs owner n =
    flat (nearest (if n.field then field_facts recs n.name else setter_facts recs n.name) (with_bases recs owner))

-- ---- the rule

abbrev pub is_input_method : List AsmRec → MethodUse → Bool
is_input_method recs u = not (is_core recs (item.Method u.method))

abbrev pub value_facts : List AsmRec → ℕ → MethodUse → AttrValue → List Fact
value_facts recs from u v = flat_map (named_member recs u.owner) v.named ++ mark_types (value_types recs from v)

abbrev pub row_facts : List AsmRec → ℕ → AsmRec → CustomAttributeRow → MethodUse → List Fact
row_facts recs a rec row u =
    if is_input_method recs u then of_method_use u ++ flat_map (value_facts recs a u) (listed (value_of recs a rec row)) else []

abbrev pub good_uses : Known MethodUse → List MethodUse
good_uses (Good u) = u ∷ []
good_uses (Bad why) = []

abbrev pub attribute_facts : List AsmRec → ℕ → AsmRec → CustomAttributeRow → List Fact
attribute_facts recs a rec row = flat_map (row_facts recs a rec row) (good_uses (method_named recs a rec row.ctor))

-- An attribute row of a marked item whose constructor is in an input marks that constructor with its owner and arguments, the
-- fields and setters that its value names, and the types in the value.
unfoldable pub attribute_needs : List AsmRec → Item → List Fact
attribute_needs recs i =
    flat_map (λ (at : RowAt). flat_map (λ (rec : AsmRec). flat_map (attribute_facts recs at.asm rec) (attributes_of recs i)) (listed (rec_at recs at))) (listed (row_of recs i))
