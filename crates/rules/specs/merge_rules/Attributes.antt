-- The CustomAttribute rows of the output (II.22.10): those of kept items and of the first input's assembly and module. A row whose
-- constructor is in an input names that constructor. Any other row is copied, with its constructor as a reference to the core
-- library or by its names. It is left out where this reference names a type of an input, a method or a module.
use Rattle.std.specs.Prelude.{ℕ, zero, suc, List, ◌∷◌, length, map, Option, Some, None, slice_get, ◌==◌, ◌&&◌, Bool, true, false, if◌then◌else◌}
use Rattle.std.specs.List.{list_any, list_all, flat_map}
use Rattle.std.specs.Option.{option_map, option_and_then}
use Rattle.il_base.specs.declared.sig.Sig.{Sig}
use Rattle.il_base.specs.declared.sig.MethodSig.{MethodSig}
use Rattle.il_base.specs.declared.table.TheConstants.{MODULE, TYPE_REF, MEMBER_REF, TYPE_SPEC, ASSEMBLY_REF}
use Rattle.il_base.specs.declared.cli_format.column.CodedIndex.TheVariants.{HasCustomAttribute}
use Rattle.il_base.specs.cli_format.Tokens.{coded_of}
use Rattle.il_base.specs.declared.world_model.types.TypeRefRow.{TypeRefRow}
use Rattle.il_base.specs.declared.world_model.types.TypeSpecRow.{TypeSpecRow}
use Rattle.il_base.specs.declared.world_model.members.MemberRefRow.{MemberRefRow}
use Rattle.il_base.specs.declared.world_model.extras.CustomAttributeRow.{CustomAttributeRow}
use Rattle.il_base.specs.declared.world_model.record.AsmRec.{AsmRec}
use Rattle.il_base.specs.world_model.Tokens.{table_of, index_in}
use Rattle.rules.specs.link_rules.Types.{or_else, ref_definition}
use Rattle.rules.specs.link_rules.Cycles.{listed}
use Rattle.rules.specs.mark_rules.Attributes.{ref_sig, is_input_method}
use Rattle.rules.specs.mark_rules.Naming.{method_named}
use Rattle.rules.specs.merge_rules.Numbers.{Kept}
use Rattle.rules.specs.merge_rules.Sorted.{by_key}
use Rattle.rules.specs.merge_rules.Keys.{MethodKey, absent_method, good, world_method_sig, type_key, method_key}
use Rattle.rules.specs.merge_rules.Order.{Met, met_method}
use Rattle.rules.specs.merge_rules.Refs.{numbers_in}
use Rattle.rules.specs.merge_rules.Rows.{all_rows, kept_row_token}

-- ---- what a copied attribute may refer to

abbrev pub has_row : {A : Type 0} → Option A → Bool
has_row x = list_any (λ y. true) (listed x)

-- whether a copied attribute may refer to a type, by the type's scope: an assembly, the module, or a type that it may refer to
abbrev pub may_scope : AsmRec → (ℕ → Bool) → TypeRefRow → Bool
may_scope rec outer row =
    if table_of row.resolution_scope == TYPE_REF then list_any outer (listed (index_in TYPE_REF row.resolution_scope))
    else if table_of row.resolution_scope == ASSEMBLY_REF then has_row (option_and_then (slice_get rec.assembly_ref) (index_in ASSEMBLY_REF row.resolution_scope))
    else table_of row.resolution_scope == MODULE

-- whether a TypeRef row names a type of the core library, or nothing; over at most n scopes
unfoldable pub may_refer : List AsmRec → ℕ → AsmRec → ℕ → ℕ → Bool
may_refer recs a rec zero k = false
may_refer recs a rec (suc n) k =
    elim (ref_definition recs a rec k) [ Some at ↦ suc at.asm == length recs | None ↦ list_any (may_scope rec (may_refer recs a rec n)) (listed (slice_get rec.type_ref k)) ]

abbrev pub may_name : List AsmRec → ℕ → AsmRec → ℕ → Bool
may_name recs a rec token = list_any (may_refer recs a rec (length rec.type_ref)) (listed (index_in TYPE_REF token))

-- whether a copied attribute may have a signature: it may refer to the type of each token
abbrev pub may_have : List AsmRec → ℕ → AsmRec → Sig → Bool
may_have recs a rec s = list_all (may_name recs a rec) (numbers_in s)

abbrev pub good_sigs : Option TypeSpecRow → List Sig
good_sigs row = flat_map (λ (r : TypeSpecRow). listed (good r.signature)) (listed row)

abbrev pub may_be_parent : List AsmRec → ℕ → AsmRec → ℕ → Bool
may_be_parent recs a rec token =
    if table_of token == TYPE_SPEC then list_any (may_have recs a rec) (good_sigs (option_and_then (slice_get rec.type_spec) (index_in TYPE_SPEC token)))
    else may_name recs a rec token

abbrev pub may_take : List AsmRec → ℕ → AsmRec → MethodSig → Bool
may_take recs a rec s = list_all (may_have recs a rec) (s.ret ∷ s.params)

-- a constructor that isn't in an input: its parent and its signature have a reading, and may be referred to
abbrev pub is_copied : List AsmRec → ℕ → AsmRec → MemberRefRow → Bool
is_copied recs a rec row = may_be_parent recs a rec row.class && list_any (may_take recs a rec) (listed (good (ref_sig row)))

-- ---- constructors

abbrev pub absent_constructor : List AsmRec → ℕ → AsmRec → MemberRefRow → Option MethodKey
absent_constructor recs a rec row =
    option_and_then (λ p. option_map (λ s. absent_method p row.name (world_method_sig recs a rec s)) (good (ref_sig row))) (type_key recs a rec row.class)

abbrev pub copied_constructor : List AsmRec → ℕ → AsmRec → ℕ → MemberRefRow → Option MethodKey
copied_constructor recs a rec token row =
    if is_copied recs a rec row then or_else (method_key recs a rec token) (absent_constructor recs a rec row) else None

abbrev pub is_in_input : List AsmRec → ℕ → AsmRec → ℕ → Bool
is_in_input recs a rec token = list_any (is_input_method recs) (listed (good (method_named recs a rec token)))

-- the key of an attribute's constructor in the output; None where the attribute is left out
unfoldable pub constructor_key : List AsmRec → ℕ → AsmRec → ℕ → Option MethodKey
constructor_key recs a rec token =
    if is_in_input recs a rec token then method_key recs a rec token
    else option_and_then (copied_constructor recs a rec token) (option_and_then (slice_get rec.member_ref) (index_in MEMBER_REF token))

-- ---- the rows, by their new parents

pub record Attribute : Type 0 where
  pub parent : ℕ
  pub ctor : MethodKey
  pub value : List ℕ

abbrev pub attribute_with : List ℕ → ℕ → MethodKey → Attribute
attribute_with value parent ctor = record { parent = parent; ctor = ctor; value = value }

abbrev pub attribute_in : List AsmRec → Kept → ℕ → AsmRec → ℕ → CustomAttributeRow → List Attribute
attribute_in recs kept a rec k row =
    flat_map (λ parent. map (attribute_with row.value parent) (listed (constructor_key recs a rec row.ctor))) (listed (kept_row_token recs kept a row.parent))

unfoldable pub kept_attributes : List AsmRec → Kept → List Attribute
kept_attributes recs kept =
    by_key (λ (x : Attribute). coded_of HasCustomAttribute x.parent) (all_rows (λ rec. rec.custom_attribute) (attribute_in recs kept) recs)

-- the constructors that the attributes of the output refer to
unfoldable pub met_by_attributes : List AsmRec → Kept → List Met
met_by_attributes recs kept = map (λ (x : Attribute). met_method x.ctor) (kept_attributes recs kept)
