-- The flaws of marked items: parts that name nothing or have no reading, and forms outside the profile. The first bad item is the
-- one at the least place, by assembly, token, offset and kind.
use Rattle.std.specs.Prelude.{ℕ, suc, List, [], ◌∷◌, ◌++◌, map, codes, Option, Some, None, slice_get, nat_lt, nat_eq, ◌==◌, ◌&&◌, ◌||◌, Bool, true, false, not, ◌≡◌, if◌then◌else◌}
use Rattle.std.specs.List.{Contains, list_any, flat_map}
use Rattle.il_base.specs.declared.ids.Item.{Item}
use Rattle.il_base.specs.declared.ids.Item.TheVariants as item
use Rattle.il_base.specs.declared.table.TheConstants.{TYPE_DEF, FIELD, METHOD_DEF, EVENT, PROPERTY, CUSTOM_ATTRIBUTE, METHOD_IMPL, FIELD_RVA, GENERIC_PARAM}
use Rattle.il_base.specs.declared.outside.TheConstants as outside
use Rattle.il_base.specs.declared.type_flags.TheConstants.{EXPLICIT_LAYOUT}
use Rattle.il_base.specs.declared.method_flags.TheConstants as flag
use Rattle.il_base.specs.declared.impl_flags.TheConstants.{NATIVE, OPTIL, UNMANAGED}
use Rattle.il_base.specs.declared.generic_flags.TheConstants.{COVARIANT, CONTRAVARIANT}
use Rattle.il_base.specs.Flags.{has_flag}
use Rattle.il_base.specs.declared.body.Body.{Body}
use Rattle.il_base.specs.declared.world_model.known.Known.{Known}
use Rattle.il_base.specs.declared.world_model.known.Known.TheVariants.{Good, Bad}
use Rattle.il_base.specs.declared.world_model.known.BadKind.{BadKind}
use Rattle.il_base.specs.declared.world_model.known.BadKind.TheVariants.{Unresolved, Outside, Over}
use Rattle.il_base.specs.declared.world_model.expr.MethodUse.{MethodUse}
use Rattle.il_base.specs.declared.world_model.types.TypeDefRow.{TypeDefRow}
use Rattle.il_base.specs.declared.world_model.types.GenericParamRow.{GenericParamRow}
use Rattle.il_base.specs.declared.world_model.members.MethodDefRow.{MethodDefRow}
use Rattle.il_base.specs.declared.world_model.members.MethodImplRow.{MethodImplRow}
use Rattle.il_base.specs.declared.world_model.extras.FieldRvaRow.{FieldRvaRow}
use Rattle.il_base.specs.declared.world_model.extras.CustomAttributeRow.{CustomAttributeRow}
use Rattle.il_base.specs.declared.world_model.record.AsmRec.{AsmRec}
use Rattle.il_base.specs.world_model.Tokens.{token_of, index_in}
use Rattle.il_base.specs.world_model.Core.{same_name}
use Rattle.rules.specs.declared.link_rules.row_at.RowAt.{RowAt}
use Rattle.rules.specs.link_rules.Types.{at_row}
use Rattle.rules.specs.link_rules.Members.{generic_method, is_interface_row}
use Rattle.rules.specs.link_rules.Cycles.{listed}
use Rattle.rules.specs.type_rules.Slots.{is_static, type_of_method}
use Rattle.rules.specs.type_rules.Rows.{each_row, fields_of_type, is_instance_field, is_module_type, methods_of_type, owner_of_field, rec_at, type_row_at}
use Rattle.rules.specs.mark_rules.Facts.{Fact}
use Rattle.rules.specs.mark_rules.Facts.Fact.{marked}
use Rattle.rules.specs.mark_rules.Places.{row_of, is_core, type_item}
use Rattle.rules.specs.mark_rules.Naming.{Named, Part, method_named}
use Rattle.rules.specs.mark_rules.Calls.{is_abstract_method}
use Rattle.rules.specs.mark_rules.Members.{has_method_row}
use Rattle.rules.specs.mark_rules.Properties.{property_owner, event_owner}
use Rattle.rules.specs.mark_rules.Attributes.{has_parent, tokens_in, value_of, is_input_method}
use Rattle.rules.specs.mark_rules.Annotations.{is_called, dynamically_accessed, requires_unreferenced, dynamic_dependency, first_number}
use Rattle.rules.specs.mark_rules.Shown.{parts_of_item}
use Rattle.rules.specs.mark_rules.FlowFlaws.{faults_of_flow}

-- a fault of an item, and its place
pub record Flaw : Type 0 where
  pub asm : ℕ
  pub token : ℕ
  pub offset : ℕ
  pub kind : BadKind

abbrev pub flaw : RowAt → ℕ → ℕ → BadKind → Flaw
flaw at token offset kind = record { asm = at.asm; token = token; offset = offset; kind = kind }

abbrev pub flaw_if : Bool → RowAt → ℕ → ℕ → List Flaw
flaw_if true at token what = flaw at token 0 (Outside what) ∷ []
flaw_if false at token what = []

-- ---- bad parts

abbrev pub part_flaw : RowAt → Part → List Flaw
part_flaw at p = bad_flaw p.named
  where
    bad_flaw : Known Named → List Flaw
    bad_flaw (Good n) = []
    bad_flaw (Bad why) = flaw at p.token p.at why ∷ []

abbrev pub part_flaws : List AsmRec → Item → RowAt → List Flaw
part_flaws recs i at = flat_map (part_flaw at) (parts_of_item recs i at)

-- ---- generic parameters: variance (II.10.1.7)

abbrev pub variant_flaw : RowAt → ℕ → ℕ → GenericParamRow → List Flaw
variant_flaw at owner k row = flaw_if (row.owner == owner && (has_flag row.flags COVARIANT || has_flag row.flags CONTRAVARIANT)) at (token_of GENERIC_PARAM (suc k)) outside.VARIANCE

abbrev pub variance_flaws : RowAt → AsmRec → ℕ → List Flaw
variance_flaws at rec owner = each_row (variant_flaw at owner) rec.generic_param

-- ---- types

-- explicit layout with an instance field of its own, marked or not (II.10.1.2)
abbrev pub has_explicit_fields : List AsmRec → RowAt → TypeDefRow → Bool
has_explicit_fields recs at t = has_flag t.flags EXPLICIT_LAYOUT && list_any (is_instance_field recs) (fields_of_type recs at)

-- an assembly whose `<Module>` has an initializer (II.10.5.3.3)
abbrev pub has_module_initializer : List AsmRec → ℕ → Bool
has_module_initializer recs a =
    list_any (λ (t : TypeDefRow). is_module_type 0 t && list_any (has_method_row recs (λ (m : MethodDefRow). same_name m.name (codes ".cctor"))) (methods_of_type recs (at_row a 0))) (listed (type_row_at recs (at_row a 0)))

abbrev pub type_flaws : List AsmRec → RowAt → AsmRec → TypeDefRow → List Flaw
type_flaws recs at rec t =
    flaw_if (has_explicit_fields recs at t) at (token_of TYPE_DEF (suc at.row)) outside.LAYOUT
    ++ flaw_if (has_module_initializer recs at.asm) at (token_of TYPE_DEF (suc at.row)) outside.MODULE_INITIALIZER
    ++ variance_flaws at rec (token_of TYPE_DEF (suc at.row))

-- ---- methods

-- whether a member's type is `<Module>`: a global field or method (II.15.1.2)
abbrev pub is_global : List AsmRec → Option RowAt → Bool
is_global recs owner = list_any (λ (t : RowAt). list_any (is_module_type t.row) (listed (type_row_at recs t))) (listed owner)

abbrev pub is_module_of : List AsmRec → ℕ → Option ℕ → Bool
is_module_of recs a owner = list_any (λ t. is_global recs (Some (at_row a t))) (listed owner)

abbrev pub no_body : MethodDefRow → Bool
no_body m = elim m.body [ Some b ↦ false | None ↦ true ]

-- a code type other than IL: native or OPTIL, or runtime, which has both bits (II.23.1.11)
abbrev pub has_other_code : ℕ → Bool
has_other_code impl_flags = has_flag impl_flags NATIVE || has_flag impl_flags OPTIL

-- a platform call, code that isn't managed IL, or no body where the method isn't abstract (II.15.4.3)
abbrev pub is_platform : MethodDefRow → Bool
is_platform m = has_flag m.flags flag.PINVOKE_IMPL || has_other_code m.impl_flags || has_flag m.impl_flags UNMANAGED || (no_body m && not (is_abstract_method m))

-- a method of an interface that is static or has a body
abbrev pub is_interface_body : List AsmRec → RowAt → MethodDefRow → Bool
is_interface_body recs at m =
    list_any (λ (t : RowAt). list_any is_interface_row (listed (type_row_at recs t))) (listed (type_of_method recs at)) && (is_static m || not (no_body m))

abbrev pub body_flaws : RowAt → MethodDefRow → Option (Known Body) → List Flaw
body_flaws at m None = []
body_flaws at m (Some (Good b)) = []
body_flaws at m (Some (Bad why)) = flaw at (token_of METHOD_DEF (suc at.row)) m.bad_at why ∷ []

abbrev pub method_flaws : List AsmRec → RowAt → AsmRec → MethodDefRow → List Flaw
method_flaws recs at rec m =
    body_flaws at m m.body
    ++ flaw_if (is_platform m) at (token_of METHOD_DEF (suc at.row)) outside.PLATFORM
    ++ flaw_if (is_interface_body recs at m) at (token_of METHOD_DEF (suc at.row)) outside.INTERFACE_BODY
    ++ flaw_if (is_global recs (type_of_method recs at)) at (token_of METHOD_DEF (suc at.row)) outside.GLOBAL_MEMBER
    ++ variance_flaws at rec (token_of METHOD_DEF (suc at.row))

-- a body whose values have no flow is bad at its offset 0
abbrev pub flow_flaw : RowAt → BadKind → Flaw
flow_flaw at why = flaw at (token_of METHOD_DEF (suc at.row)) 0 why

unfoldable pub flow_flaws : List AsmRec → RowAt → List Flaw
flow_flaws recs at = map (flow_flaw at) (faults_of_flow recs at)

-- ---- fields: a global one, and bytes without a reading (II.22.18)

abbrev pub data_flaw : RowAt → ℕ → FieldRvaRow → List Flaw
data_flaw at k row = if row.field == token_of FIELD (suc at.row) then bytes_flaw row.bytes else []
  where
    bytes_flaw : {A : Type 0} → Known A → List Flaw
    bytes_flaw (Good x) = []
    bytes_flaw (Bad why) = flaw at (token_of FIELD_RVA (suc k)) 0 why ∷ []

abbrev pub field_flaws : List AsmRec → RowAt → AsmRec → List Flaw
field_flaws recs at rec =
    flaw_if (is_module_of recs at.asm (owner_of_field rec at.row)) at (token_of FIELD (suc at.row)) outside.GLOBAL_MEMBER
    ++ each_row (data_flaw at) rec.field_rva

-- ---- properties and events of `<Module>`

abbrev pub property_flaws : List AsmRec → RowAt → AsmRec → List Flaw
property_flaws recs at rec = flaw_if (is_module_of recs at.asm (property_owner rec at.row)) at (token_of PROPERTY (suc at.row)) outside.GLOBAL_MEMBER

abbrev pub event_flaws : List AsmRec → RowAt → AsmRec → List Flaw
event_flaws recs at rec = flaw_if (is_module_of recs at.asm (event_owner rec at.row)) at (token_of EVENT (suc at.row)) outside.GLOBAL_MEMBER

-- ---- attributes that have to be readable: those whose constructor is in an input, and those of trimming

abbrev pub is_trimming_attribute : AsmRec → CustomAttributeRow → Bool
is_trimming_attribute rec row = is_called rec dynamically_accessed row || is_called rec requires_unreferenced row || is_called rec dynamic_dependency row

abbrev pub is_input_constructor : List AsmRec → Known MethodUse → Bool
is_input_constructor recs (Good u) = is_input_method recs u
is_input_constructor recs (Bad why) = false

-- every kind has a bit below 4000, or all bits are set
abbrev pub are_kinds : ℕ → Bool
are_kinds n = nat_lt n 0x4000 || n == 0xffffffff

-- the attributes whose first number is a set of kinds
abbrev pub has_kinds : AsmRec → CustomAttributeRow → Bool
has_kinds rec row = is_called rec dynamically_accessed row || is_called rec dynamic_dependency row

abbrev pub has_no_reading : List AsmRec → ℕ → AsmRec → CustomAttributeRow → Bool
has_no_reading recs a rec row = elim (value_of recs a rec row) [ None ↦ true | Some v ↦ has_kinds rec row && list_any (λ n. not (are_kinds n)) (first_number v) ]

abbrev pub attribute_flaw : List AsmRec → Item → RowAt → AsmRec → ℕ → CustomAttributeRow → List Flaw
attribute_flaw recs i at rec k row =
    flaw_if (has_parent (tokens_in i at.row rec) row && (is_trimming_attribute rec row || is_input_constructor recs (method_named recs at.asm rec row.ctor)) && has_no_reading recs at.asm rec row) at (token_of CUSTOM_ATTRIBUTE (suc k)) outside.ATTRIBUTE

abbrev pub attribute_flaws : List AsmRec → Item → RowAt → AsmRec → List Flaw
attribute_flaws recs i at rec = each_row (attribute_flaw recs i at rec) rec.custom_attribute

-- ---- the flaws of an item

abbrev pub own_flaws : List AsmRec → Item → RowAt → AsmRec → List Flaw
own_flaws recs (item.Typ t) at rec = flat_map (type_flaws recs at rec) (listed (slice_get rec.type_def at.row))
own_flaws recs (item.Method m) at rec = flat_map (method_flaws recs at rec) (listed (slice_get rec.method_def at.row)) ++ flow_flaws recs at
own_flaws recs (item.Field f) at rec = field_flaws recs at rec
own_flaws recs (item.Prop p) at rec = property_flaws recs at rec
own_flaws recs (item.Event e) at rec = event_flaws recs at rec
own_flaws recs _ at rec = []

unfoldable pub flaws_of : List AsmRec → Item → List Flaw
flaws_of recs i =
    flat_map (λ (at : RowAt). flat_map (λ (rec : AsmRec). part_flaws recs i at ++ own_flaws recs i at rec ++ attribute_flaws recs i at rec) (listed (rec_at recs at))) (listed (row_of recs i))

-- ---- MethodImpl rows that are kept: class and body are marked or core

abbrev pub declaration_flaw : RowAt → ℕ → Known MethodUse → List Flaw
declaration_flaw at k (Good u) = []
declaration_flaw at k (Bad why) = flaw at (token_of METHOD_IMPL (suc k)) 0 why ∷ []

-- a MethodImpl row with the class and the method of its body, and what is wrong with its declaration
pub record ImplRow : Type 0 where
  pub class : Item
  pub body : Item
  pub flaws : List Flaw

abbrev pub impl_rows_by : List AsmRec → ℕ → AsmRec → ℕ → MethodImplRow → List ImplRow
impl_rows_by recs a rec k row =
    flat_map (λ c. map (λ (u : MethodUse). record { class = type_item recs (at_row a c); body = item.Method u.method; flaws = declaration_flaw (at_row a k) k (generic_method recs a rec row.declaration) }) (good_body (generic_method recs a rec row.body))) (listed (index_in TYPE_DEF row.class))
  where
    good_body : Known MethodUse → List MethodUse
    good_body (Good u) = u ∷ []
    good_body (Bad why) = []

unfoldable pub impl_rows : List AsmRec → List ImplRow
impl_rows recs = each_row (λ a (rec : AsmRec). each_row (impl_rows_by recs a rec) rec.method_impl) recs

-- ---- the first

-- the flaw of an entry method that is in no type's run
abbrev pub entry_flaws : List AsmRec → Option RowAt → List Flaw
entry_flaws recs entry =
    flat_map (λ (at : RowAt). elim (type_of_method recs at) [ Some t ↦ [] | None ↦ flaw at (token_of METHOD_DEF (suc at.row)) 0 Unresolved ∷ [] ]) (listed entry)

-- a flaw of a marked item of an input, or of the entry, where `holds` says which facts hold
pub data IsFlaw (recs : List AsmRec) (entry : Option RowAt) (holds : Fact → Type 0) : Flaw → Type 0 where
  of_item : (i : Item) (f : Flaw) → holds (marked i) → is_core recs i ≡ false → Contains (flaws_of recs i) f → IsFlaw recs entry holds f
  of_row : (r : ImplRow) (f : Flaw) → Contains (impl_rows recs) r → holds (marked r.class) → holds (marked r.body) → Contains r.flaws f → IsFlaw recs entry holds f
  of_entry : (f : Flaw) → Contains (entry_flaws recs entry) f → IsFlaw recs entry holds f

-- the order of flaws at one place: Unresolved, then Outside by its number, then Over
abbrev pub rank : BadKind → ℕ
rank Unresolved = 0
rank (Outside what) = suc what
rank (Over which found) = 257

abbrev pub before : Flaw → Flaw → Bool
before x y =
    nat_lt x.asm y.asm
    || nat_eq x.asm y.asm && (nat_lt x.token y.token
    || nat_eq x.token y.token && (nat_lt x.offset y.offset
    || nat_eq x.offset y.offset && nat_lt (rank x.kind) (rank y.kind)))

-- the least flaw, or None where there is none
abbrev pub IsFirstFlaw : List AsmRec → Option RowAt → (Fact → Type 0) → Option Flaw → Type 0
IsFirstFlaw recs entry holds None = (f : Flaw) → IsFlaw recs entry holds f → ⊥
IsFirstFlaw recs entry holds (Some f) = IsFlaw recs entry holds f × ((g : Flaw) → IsFlaw recs entry holds g → before g f ≡ false)
