-- What a descriptor keeps (`assembly`, `type` and member elements), and what is marked before any rule is used.
use Rattle.std.specs.Prelude.{ℕ, zero, suc, List, [], ◌∷◌, ◌++◌, length, map, codes, Option, Some, None, slice_get, position, nat_eq, ◌==◌, ◌&&◌, ◌||◌, Bool, true, false, not, if◌then◌else◌}
use Rattle.std.specs.List.{list_any, flat_map, filter}
use Rattle.std.specs.Option.{option_and_then}
use Rattle.il_base.specs.declared.ids.TypeId.{TypeId}
use Rattle.il_base.specs.declared.ids.Item.{Item}
use Rattle.il_base.specs.declared.ids.Item.TheVariants as item
use Rattle.il_base.specs.declared.table.TheConstants.{TYPE_DEF, METHOD_DEF}
use Rattle.il_base.specs.declared.world_model.expr.TypeExpr.{TypeExpr, fold-TypeExpr}
use Rattle.il_base.specs.declared.world_model.expr.TypeExpr.TheOpen.{TypeExpr-F}
use Rattle.il_base.specs.declared.world_model.types.TypeDefRow.{TypeDefRow}
use Rattle.il_base.specs.declared.world_model.types.GenericParamRow.{GenericParamRow}
use Rattle.il_base.specs.declared.world_model.members.FieldRow.{FieldRow}
use Rattle.il_base.specs.declared.world_model.members.MethodDefRow.{MethodDefRow}
use Rattle.il_base.specs.declared.world_model.record.AsmRec.{AsmRec}
use Rattle.il_base.specs.world_model.Tokens.{token_of}
use Rattle.il_base.specs.world_model.Core.{same_name}
use Rattle.il_base.specs.world_model.Worlds.{known_then, sig_expr, prim_type, type_id}
use Rattle.descriptor_file.specs.declared.root.Root.{Root}
use Rattle.descriptor_file.specs.declared.root.RootMember.{RootMember}
use Rattle.descriptor_file.specs.declared.root.preserve.TheConstants as preserve
use Rattle.descriptor_file.specs.declared.root.member.TheConstants as member
use Rattle.rules.specs.declared.link_rules.row_at.RowAt.{RowAt}
use Rattle.rules.specs.declared.link_rules.member_type.MethodType.{MethodType}
use Rattle.rules.specs.link_rules.Types.{at_row, is_called, encloser}
use Rattle.rules.specs.link_rules.Signatures.{names_at}
use Rattle.rules.specs.link_rules.Members.{type_home}
use Rattle.rules.specs.link_rules.Cycles.{listed}
use Rattle.rules.specs.type_rules.Slots.{method_row_at, type_of_row, type_of_method}
use Rattle.rules.specs.type_rules.Texts.{full_name, joined}
use Rattle.rules.specs.type_rules.Rows.{each_row, fields_of_type, is_module_type, methods_of_type, rec_at}
use Rattle.rules.specs.mark_rules.Facts.{Fact}
use Rattle.rules.specs.mark_rules.Facts.Fact.{marked, instantiated}
use Rattle.rules.specs.mark_rules.Places.{marks_type, marks_method, marks_field}
use Rattle.rules.specs.mark_rules.Properties.{whole_property, whole_event}
use Rattle.rules.specs.mark_rules.Members.{is_constructor, has_method_row, properties_of_type, events_of_type}
use Rattle.rules.specs.mark_rules.Attributes.{is_property_called}
use Rattle.rules.specs.mark_rules.Annotations.{good_expr}
use Rattle.rules.specs.mark_rules.Dependencies.{is_event_called, good_signatures}

-- ---- the types

-- the first input of a simple name; the core library is none
unfoldable pub input_named : List AsmRec → List ℕ → Option ℕ
input_named recs name = option_and_then (λ a. if suc a == length recs then None else Some a) (position (is_called name) recs)

-- a type's full name, with `/` before the name of a nested type, at most n levels
abbrev pub slashed_by : (ℕ → List ℕ) → TypeDefRow → Option ℕ → List ℕ
slashed_by outer t None = full_name t
slashed_by outer t (Some around) = outer around ++ codes "/" ++ t.name

unfoldable pub slashed_within : AsmRec → ℕ → ℕ → List ℕ
slashed_within rec zero k = []
slashed_within rec (suc n) k = flat_map (λ (t : TypeDefRow). slashed_by (slashed_within rec n) t (encloser rec k)) (listed (slice_get rec.type_def k))

abbrev pub slashed_name : AsmRec → ℕ → List ℕ
slashed_name rec k = slashed_within rec (suc (length rec.type_def)) k

abbrev pub type_called : ℕ → AsmRec → List ℕ → ℕ → TypeDefRow → List RowAt
type_called a rec name k t = if not (is_module_type k t) && same_name (slashed_name rec k) name then at_row a k ∷ [] else []

abbrev pub first_row : List RowAt → Option RowAt
first_row [] = None
first_row (x ∷ xs) = Some x

-- the type of an input that has this name; `<Module>` is never found
unfoldable pub descriptor_type : List AsmRec → ℕ → List ℕ → Option RowAt
descriptor_type recs a name = first_row (flat_map (λ (rec : AsmRec). each_row (type_called a rec name) rec.type_def) (listed (slice_get recs a)))

-- ---- signatures: `RETURN NAME(TYPE,TYPE)` and `TYPE NAME`

abbrev pub definition_slashed : List AsmRec → Option TypeId → List ℕ
definition_slashed recs None = []
definition_slashed recs (Some t) =
    flat_map (λ (at : RowAt). flat_map (λ (rec : AsmRec). slashed_name rec at.row) (listed (rec_at recs at))) (listed (type_home recs t))

-- the owners of the generic parameters in a signature: tokens of a type and of a method, 0 for none
pub record Owners : Type 0 where
  pub type : ℕ
  pub method : ℕ

abbrev pub parameter_row : ℕ → ℕ → ℕ → GenericParamRow → List (List ℕ)
parameter_row owner n k row = if row.owner == owner && row.number == n then row.name ∷ [] else []

abbrev pub first_text : List (List ℕ) → List ℕ
first_text [] = codes "?"
first_text (x ∷ xs) = x

-- a generic parameter by the name in its row (II.22.20), `?` without one
abbrev pub parameter_name : AsmRec → ℕ → ℕ → List ℕ
parameter_name rec owner n = first_text (each_row (parameter_row owner n) rec.generic_param)

abbrev pub sig_text_layer : List AsmRec → AsmRec → Owners → TypeExpr-F (List ℕ) → List ℕ
sig_text_layer recs rec o (TypeExpr-F.Prim n) = definition_slashed recs (prim_type recs n)
sig_text_layer recs rec o (TypeExpr-F.Def t) = definition_slashed recs (Some t)
sig_text_layer recs rec o (TypeExpr-F.Inst t args) = definition_slashed recs (Some t) ++ codes "<" ++ joined args ++ codes ">"
sig_text_layer recs rec o (TypeExpr-F.Array x) = x ++ codes "[]"
sig_text_layer recs rec o (TypeExpr-F.ByRef x) = x ++ codes "&"
sig_text_layer recs rec o (TypeExpr-F.Var n) = parameter_name rec o.type n
sig_text_layer recs rec o (TypeExpr-F.MVar n) = parameter_name rec o.method n
sig_text_layer recs rec o (TypeExpr-F.Mod required by x) = x

-- a type in a signature of an assembly, modifiers left out
unfoldable pub sig_text : List AsmRec → AsmRec → Owners → TypeExpr → List ℕ
sig_text recs rec o = fold-TypeExpr (List ℕ) (sig_text_layer recs rec o)

abbrev pub method_text : List AsmRec → AsmRec → Owners → List ℕ → MethodType → List ℕ
method_text recs rec o name m = sig_text recs rec o m.ret ++ codes " " ++ name ++ codes "(" ++ joined (map (sig_text recs rec o) m.params) ++ codes ")"

abbrev pub method_owners : RowAt → RowAt → Owners
method_owners t at = record { type = token_of TYPE_DEF (suc t.row); method = token_of METHOD_DEF (suc at.row) }

abbrev pub has_method_text : List AsmRec → RootMember → RowAt → RowAt → MethodDefRow → AsmRec → Bool
has_method_text recs r t at m rec =
    list_any (λ (s : MethodType). same_name (method_text recs rec (method_owners t at) m.name s) r.text) (good_signatures (type_of_row recs at))

abbrev pub method_fits : List AsmRec → RootMember → RowAt → RowAt → MethodDefRow → Bool
method_fits recs r t at m =
    if r.by_signature then list_any (has_method_text recs r t at m) (listed (rec_at recs at))
    else same_name m.name r.text

abbrev pub field_text : List AsmRec → AsmRec → RowAt → List ℕ → TypeExpr → List ℕ
field_text recs rec t name e = sig_text recs rec (record { type = token_of TYPE_DEF (suc t.row); method = 0 }) e ++ codes " " ++ name

abbrev pub field_fits : List AsmRec → RootMember → RowAt → RowAt → AsmRec → FieldRow → Bool
field_fits recs r t at rec f =
    if r.by_signature then list_any (λ e. same_name (field_text recs rec t f.name e) r.text) (good_expr (known_then (sig_expr (names_at recs at.asm rec)) f.signature))
    else same_name f.name r.text

-- ---- what an element keeps

-- a constructor that is kept makes its type instantiated
abbrev pub keeps_method : List AsmRec → RowAt → RowAt → List Fact
keeps_method recs t m = if has_method_row recs is_constructor m then instantiated (type_id recs t.asm t.row) ∷ marks_method recs m ∷ [] else marks_method recs m ∷ []

abbrev pub all_methods : List AsmRec → RowAt → List Fact
all_methods recs t = flat_map (keeps_method recs t) (methods_of_type recs t)

abbrev pub all_fields : List AsmRec → RowAt → List Fact
all_fields recs t = map (marks_field recs) (fields_of_type recs t)

-- methods, fields, properties and events; no nested types and no interface rows
abbrev pub all_members : List AsmRec → RowAt → List Fact
all_members recs t =
    all_methods recs t ++ all_fields recs t ++ flat_map (whole_property recs) (properties_of_type recs t) ++ flat_map (whole_event recs) (events_of_type recs t)

abbrev pub preserved : List AsmRec → RowAt → ℕ → List Fact
preserved recs t kind =
    if kind == preserve.FIELDS then all_fields recs t
    else if kind == preserve.METHODS then all_methods recs t
    else if kind == preserve.ALL then all_members recs t
    else []

abbrev pub fits_method : List AsmRec → RootMember → RowAt → RowAt → Bool
fits_method recs r t at = list_any (method_fits recs r t at) (listed (method_row_at recs at))

abbrev pub fits_field : List AsmRec → RootMember → RowAt → RowAt → Bool
fits_field recs r t at = list_any (λ (rec : AsmRec). list_any (field_fits recs r t at rec) (listed (slice_get rec.field at.row))) (listed (rec_at recs at))

-- the members that a member element names, all overloads; a property or event with its accessors
abbrev pub member_by : List AsmRec → RowAt → RootMember → List Fact
member_by recs t r =
    if r.kind == member.METHOD then flat_map (keeps_method recs t) (filter (fits_method recs r t) (methods_of_type recs t))
    else if r.kind == member.FIELD then map (marks_field recs) (filter (fits_field recs r t) (fields_of_type recs t))
    else if r.kind == member.PROPERTY then flat_map (whole_property recs) (filter (is_property_called recs r.text) (properties_of_type recs t))
    else flat_map (whole_event recs) (filter (is_event_called recs r.text) (events_of_type recs t))

abbrev pub root_members : List AsmRec → RowAt → Root → List Fact
root_members recs t r = preserved recs t r.preserve ++ flat_map (member_by recs t) r.members

-- every type of an assembly but `<Module>`, with all its members
abbrev pub whole_assembly : List AsmRec → ℕ → List Fact
whole_assembly recs a =
    flat_map (λ (rec : AsmRec). each_row (λ k t. if is_module_type k t then [] else marks_type recs (at_row a k) ∷ all_members recs (at_row a k)) rec.type_def) (listed (slice_get recs a))

abbrev pub root_type : List AsmRec → Root → Option RowAt
root_type recs r = option_and_then (λ a. option_and_then (descriptor_type recs a) r.typ) (input_named recs r.asm)

abbrev pub no_type : Root → Bool
no_type r = elim r.typ [ Some name ↦ false | None ↦ true ]

-- the facts that an element of a descriptor gives at the start
unfoldable pub root_facts : List AsmRec → Root → List Fact
root_facts recs r =
    if no_type r then flat_map (whole_assembly recs) (listed (input_named recs r.asm))
    else if r.required then flat_map (λ t. marks_type recs t ∷ root_members recs t r) (listed (root_type recs r))
    else []

abbrev pub waits_for : List AsmRec → Item → Root → List Fact
waits_for recs (item.Typ t) r =
    if no_type r || r.required then []
    else flat_map (λ (at : RowAt). if nat_eq (type_id recs at.asm at.row).0 t.0 then root_members recs at r else []) (listed (root_type recs r))
waits_for recs _ r = []

-- the facts that elements with `required="false"` give once their type is marked
unfoldable pub waiting_facts : List AsmRec → List Root → Item → List Fact
waiting_facts recs roots i = flat_map (waits_for recs i) roots

-- ---- the start

-- The first type of the primary assembly stands for its module, whatever its name is (II.22.37).
abbrev pub module_facts : List AsmRec → List Fact
module_facts recs =
    flat_map (λ (rec : AsmRec). map (λ (t : TypeDefRow). marks_type recs (at_row 0 0)) (listed (slice_get rec.type_def 0))) (listed (slice_get recs 0))

-- the entry method is marked, where it is in a type's run; a method in no run is never marked
abbrev pub entry_facts : List AsmRec → Option RowAt → List Fact
entry_facts recs entry = flat_map (λ (at : RowAt). map (λ t. marks_method recs at) (listed (type_of_method recs at))) (listed entry)

-- the primary assembly, its first type, the entry method, and what descriptors keep
unfoldable pub start_facts : List AsmRec → Option RowAt → List Root → List Fact
start_facts recs entry roots =
    marked (item.Asm (record { 0 = 0 })) ∷ module_facts recs ++ entry_facts recs entry ++ flat_map (root_facts recs) roots
