-- The attributes of trimming, recognized by their full name wherever they are defined: `DynamicallyAccessedMembers` (annotations),
-- `RequiresUnreferencedCode` and `DynamicDependency`.
use Rattle.std.specs.Prelude.{ℕ, suc, List, [], ◌∷◌, ◌++◌, map, codes, take, Option, Some, None, slice_get, ◌/◌, ◌%◌, ◌+◌, ◌==◌, ◌&&◌, Bool, false, not, if◌then◌else◌}
use Rattle.std.specs.List.{list_any, flat_map, filter, position_from}
use Rattle.std.specs.Option.{option_and_then}
use Rattle.il_base.specs.declared.ids.Item.{Item}
use Rattle.il_base.specs.declared.ids.Item.TheVariants as item
use Rattle.il_base.specs.declared.element.TheConstants.{STRING}
use Rattle.il_base.specs.Flags.{has_flag}
use Rattle.il_base.specs.declared.generic_flags.TheConstants.{DEFAULT_CONSTRUCTOR_CONSTRAINT}
use Rattle.il_base.specs.declared.table.TheConstants.{TYPE_REF, TYPE_DEF, FIELD, METHOD_DEF, PARAM, MEMBER_REF, GENERIC_PARAM}
use Rattle.il_base.specs.declared.world_model.known.Known.{Known}
use Rattle.il_base.specs.declared.world_model.known.Known.TheVariants.{Good, Bad}
use Rattle.il_base.specs.declared.world_model.expr.TypeExpr.{TypeExpr, fold-TypeExpr}
use Rattle.il_base.specs.declared.world_model.expr.TypeExpr.TheOpen.{TypeExpr-F}
use Rattle.il_base.specs.declared.world_model.types.TypeDefRow.{TypeDefRow}
use Rattle.il_base.specs.declared.world_model.types.TypeRefRow.{TypeRefRow}
use Rattle.il_base.specs.declared.world_model.types.GenericParamRow.{GenericParamRow}
use Rattle.il_base.specs.declared.world_model.members.FieldRow.{FieldRow}
use Rattle.il_base.specs.declared.world_model.members.MethodDefRow.{MethodDefRow}
use Rattle.il_base.specs.declared.world_model.members.MemberRefRow.{MemberRefRow}
use Rattle.il_base.specs.declared.world_model.members.ParamRow.{ParamRow}
use Rattle.il_base.specs.declared.world_model.extras.CustomAttributeRow.{CustomAttributeRow}
use Rattle.il_base.specs.declared.world_model.record.AsmRec.{AsmRec}
use Rattle.il_base.specs.world_model.Tokens.{token_of, table_of, index_in}
use Rattle.il_base.specs.world_model.Core.{same_name}
use Rattle.il_base.specs.world_model.Worlds.{known_then, sig_expr}
use Rattle.attr_blobs.specs.declared.value.Arg.{Arg, out-Arg}
use Rattle.attr_blobs.specs.declared.value.Arg.TheOpen.{Arg-F}
use Rattle.attr_blobs.specs.declared.value.AttrValue.{AttrValue}
use Rattle.rules.specs.declared.link_rules.row_at.RowAt.{RowAt}
use Rattle.rules.specs.link_rules.Types.{encloser}
use Rattle.rules.specs.link_rules.Signatures.{names_at}
use Rattle.rules.specs.link_rules.Members.{owns_method, type_home}
use Rattle.rules.specs.link_rules.Cycles.{listed}
use Rattle.rules.specs.type_rules.Rows.{each_row, rec_at, run_places}
use Rattle.rules.specs.declared.mark_rules.member_kinds.TheConstants as kind
use Rattle.rules.specs.mark_rules.Places.{row_of}
use Rattle.rules.specs.mark_rules.Members.{has_method_row}
use Rattle.rules.specs.mark_rules.Attributes.{head_of, value_of, is_system_type_row}

-- ---- attributes by name

-- the namespace and the name of the type that has an attribute's constructor: a type definition or reference that isn't nested
pub record TypeText : Type 0 where
  pub namespace : List ℕ
  pub name : List ℕ

abbrev pub def_text : AsmRec → ℕ → List TypeText
def_text rec k = elim (encloser rec k) [ Some around ↦ [] | None ↦ map (λ (t : TypeDefRow). record { namespace = t.namespace; name = t.name }) (listed (slice_get rec.type_def k)) ]

abbrev pub ref_text : AsmRec → ℕ → List TypeText
ref_text rec k =
    flat_map (λ (t : TypeRefRow). if table_of t.resolution_scope == TYPE_REF then [] else record { namespace = t.namespace; name = t.name } ∷ []) (listed (slice_get rec.type_ref k))

abbrev pub class_text : AsmRec → ℕ → List TypeText
class_text rec token = flat_map (def_text rec) (listed (index_in TYPE_DEF token)) ++ flat_map (ref_text rec) (listed (index_in TYPE_REF token))

abbrev pub attribute_texts : AsmRec → ℕ → List TypeText
attribute_texts rec ctor =
    flat_map (λ k. flat_map (def_text rec) (listed (position_from (owns_method (suc k)) 0 rec.type_def))) (listed (index_in METHOD_DEF ctor))
    ++ flat_map (λ (row : MemberRefRow). class_text rec row.class) (listed (option_and_then (slice_get rec.member_ref) (index_in MEMBER_REF ctor)))

abbrev pub is_trimming : List ℕ → TypeText → Bool
is_trimming name t = same_name t.name name && same_name t.namespace (codes "System.Diagnostics.CodeAnalysis")

abbrev pub is_called : AsmRec → List ℕ → CustomAttributeRow → Bool
is_called rec name row = list_any (is_trimming name) (attribute_texts rec row.ctor)

abbrev pub dynamically_accessed : List ℕ
dynamically_accessed = codes "DynamicallyAccessedMembersAttribute"

abbrev pub requires_unreferenced : List ℕ
requires_unreferenced = codes "RequiresUnreferencedCodeAttribute"

abbrev pub dynamic_dependency : List ℕ
dynamic_dependency = codes "DynamicDependencyAttribute"

-- ---- annotations

-- the number of an argument that is a set of kinds: its low 32 bits
abbrev pub number_in : Arg-F Arg → List ℕ
number_in (Arg-F.Number n) = n % 4294967296 ∷ []
number_in _ = []

abbrev pub first_number : AttrValue → List ℕ
first_number v = flat_map (λ (x : Arg). number_in (out-Arg x)) (take 1 v.fixed)

abbrev pub or_zero : List ℕ → ℕ
or_zero [] = 0
or_zero (n ∷ ns) = n

abbrev pub is_annotation : AsmRec → ℕ → CustomAttributeRow → Bool
is_annotation rec token row = row.parent == token && is_called rec dynamically_accessed row

-- the kinds of the first annotation of a row, by its token; 0 where it has none
unfoldable pub kinds_at : List AsmRec → ℕ → AsmRec → ℕ → ℕ
kinds_at recs a rec token =
    or_zero (flat_map (λ row. flat_map first_number (listed (value_of recs a rec row))) (listed (head_of (filter (is_annotation rec token) rec.custom_attribute))))

-- the things that may have an annotation; parameters are counted from 0 without `this`
pub data Holder : Type 0 where
  parameter : RowAt → ℕ → Holder
  return_value : RowAt → Holder
  field : RowAt → Holder
  type_parameter : RowAt → ℕ → Holder
  method_parameter : RowAt → ℕ → Holder

abbrev pub text_layer : List AsmRec → TypeExpr-F Bool → Bool
text_layer recs (TypeExpr-F.Prim n) = n == STRING
text_layer recs (TypeExpr-F.Def t) = list_any (is_system_type_row recs) (listed (type_home recs t))
text_layer recs (TypeExpr-F.Mod required by x) = x
text_layer recs _ = false

-- whether a type is System.Type or System.String, modifiers aside
unfoldable pub may_name_type : List AsmRec → TypeExpr → Bool
may_name_type recs = fold-TypeExpr Bool (text_layer recs)

abbrev pub sequence_token : ℕ → ℕ → ParamRow → List ℕ
sequence_token sequence k row = if row.sequence == sequence then token_of PARAM (suc k) ∷ [] else []

abbrev pub tokens_of_run : AsmRec → ℕ → List ℕ → List ℕ
tokens_of_run rec sequence ks = flat_map (λ k. flat_map (sequence_token sequence k) (listed (slice_get rec.param k))) ks

-- the first Param row of a method with a sequence number (II.22.33), 0 for the return
abbrev pub param_token : AsmRec → ℕ → MethodDefRow → Option ℕ
param_token rec sequence m = head_of (tokens_of_run rec sequence (run_places m.param_list_first m.param_list_end rec.param))

abbrev pub kinds_of_param : List AsmRec → RowAt → AsmRec → ℕ → MethodDefRow → ℕ
kinds_of_param recs at rec sequence m = or_zero (map (kinds_at recs at.asm rec) (listed (param_token rec sequence m)))

abbrev pub slot_kinds : List AsmRec → RowAt → ℕ → ℕ
slot_kinds recs at sequence =
    or_zero (flat_map (λ (rec : AsmRec). map (kinds_of_param recs at rec sequence) (listed (slice_get rec.method_def at.row))) (listed (rec_at recs at)))

abbrev pub good_expr : Known TypeExpr → List TypeExpr
good_expr (Good e) = e ∷ []
good_expr (Bad why) = []

abbrev pub field_holds : List AsmRec → RowAt → Bool
field_holds recs at =
    list_any (λ (rec : AsmRec). list_any (λ (f : FieldRow). list_any (may_name_type recs) (good_expr (known_then (sig_expr (names_at recs at.asm rec)) f.signature))) (listed (slice_get rec.field at.row))) (listed (rec_at recs at))

abbrev pub field_kinds : List AsmRec → RowAt → ℕ
field_kinds recs at = or_zero (map (λ (rec : AsmRec). kinds_at recs at.asm rec (token_of FIELD (suc at.row))) (listed (rec_at recs at)))

-- the kinds of a generic parameter; with the `new()` constraint the public constructor without parameters is among them
abbrev pub with_new : GenericParamRow → ℕ → ℕ
with_new row kinds =
    if has_flag row.flags DEFAULT_CONSTRUCTOR_CONSTRAINT && kinds / kind.PUBLIC_PARAMETERLESS_CONSTRUCTOR % 2 == 0 then kinds + kind.PUBLIC_PARAMETERLESS_CONSTRUCTOR else kinds

abbrev pub generic_kinds_by : List AsmRec → ℕ → AsmRec → ℕ → ℕ → ℕ → GenericParamRow → List ℕ
generic_kinds_by recs a rec owner n k row =
    if row.owner == owner && row.number == n then with_new row (kinds_at recs a rec (token_of GENERIC_PARAM (suc k))) ∷ [] else []

abbrev pub generic_kinds : List AsmRec → RowAt → ℕ → ℕ → ℕ
generic_kinds recs at table n =
    or_zero (flat_map (λ (rec : AsmRec). each_row (generic_kinds_by recs at.asm rec (token_of table (suc at.row)) n) rec.generic_param) (listed (rec_at recs at)))

-- ---- need of unreferenced code

abbrev pub is_initializer_name : List AsmRec → RowAt → Bool
is_initializer_name recs at = has_method_row recs (λ (m : MethodDefRow). same_name m.name (codes ".cctor")) at

abbrev pub requires : RowAt → AsmRec → CustomAttributeRow → Bool
requires at rec row = row.parent == token_of METHOD_DEF (suc at.row) && is_called rec requires_unreferenced row

-- whether a method has `RequiresUnreferencedCode`; on a type initializer it doesn't count
unfoldable pub needs_unreferenced : List AsmRec → RowAt → Bool
needs_unreferenced recs at =
    not (is_initializer_name recs at) && list_any (λ (rec : AsmRec). list_any (requires at rec) rec.custom_attribute) (listed (rec_at recs at))

-- ---- dependencies

-- the type in which a dependency seeks its members: its owner, one named by a Type argument, or one of an assembly
pub data Sought : Type 0 where
  own_type : Sought
  type_argument : List ℕ → Sought
  type_text : Option (List ℕ) → Option (List ℕ) → Sought

pub record Dependency : Type 0 where
  pub sought : Sought
  -- a name, or None where kinds say which members
  pub member : Option (List ℕ)
  pub kinds : ℕ

abbrev pub by_type : Option (List ℕ) → Sought
by_type None = own_type
by_type (Some text) = type_argument text

abbrev pub name_or_empty : Option (List ℕ) → List ℕ
name_or_empty None = []
name_or_empty (Some name) = name

abbrev pub of_member : Sought → Option (List ℕ) → Dependency
of_member sought name = record { sought = sought; member = Some (name_or_empty name); kinds = 0 }

abbrev pub of_kinds : Sought → ℕ → Dependency
of_kinds sought n = record { sought = sought; member = None; kinds = n % 4294967296 }

-- the five forms: (member), (member, Type), (member, type, assembly), (kinds, Type), (kinds, type, assembly)
abbrev pub dependency_by : List (Arg-F Arg) → List Dependency
dependency_by (Arg-F.Text m ∷ []) = of_member own_type m ∷ []
dependency_by (Arg-F.Text m ∷ Arg-F.Typ t ∷ []) = of_member (by_type t) m ∷ []
dependency_by (Arg-F.Text m ∷ Arg-F.Text t ∷ Arg-F.Text a ∷ []) = of_member (type_text t a) m ∷ []
dependency_by (Arg-F.Number n ∷ Arg-F.Typ t ∷ []) = of_kinds (by_type t) n ∷ []
dependency_by (Arg-F.Number n ∷ Arg-F.Text t ∷ Arg-F.Text a ∷ []) = of_kinds (type_text t a) n ∷ []
dependency_by _ = []

abbrev pub dependencies_of_row : List AsmRec → ℕ → AsmRec → CustomAttributeRow → List Dependency
dependencies_of_row recs a rec row = flat_map (λ (v : AttrValue). dependency_by (map out-Arg v.fixed)) (listed (value_of recs a rec row))

abbrev pub is_dependency : AsmRec → ℕ → CustomAttributeRow → Bool
is_dependency rec token row = row.parent == token && is_called rec dynamic_dependency row

abbrev pub dependencies_in : List AsmRec → ℕ → AsmRec → ℕ → List Dependency
dependencies_in recs a rec token = flat_map (dependencies_of_row recs a rec) (filter (is_dependency rec token) rec.custom_attribute)

-- a method or a field may have dependencies, by its own row
abbrev pub dependent_token : Item → ℕ → List ℕ
dependent_token (item.Method m) k = token_of METHOD_DEF (suc k) ∷ []
dependent_token (item.Field f) k = token_of FIELD (suc k) ∷ []
dependent_token _ k = []

abbrev pub dependencies_at : List AsmRec → Item → RowAt → List Dependency
dependencies_at recs i at =
    flat_map (λ (rec : AsmRec). flat_map (dependencies_in recs at.asm rec) (dependent_token i at.row)) (listed (rec_at recs at))

-- the dependencies of a method or a field, in the order of their rows
unfoldable pub dependencies : List AsmRec → Item → List Dependency
dependencies recs i = flat_map (dependencies_at recs i) (listed (row_of recs i))
