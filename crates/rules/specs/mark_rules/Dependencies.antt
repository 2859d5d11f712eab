-- What dependencies name: a type, and in it the members of a name, or of kinds.
use Rattle.std.specs.Prelude.{ℕ, List, [], ◌∷◌, ◌++◌, map, take, codes, Option, Some, None, slice_get, ◌==◌, ◌||◌, Bool, if◌then◌else◌}
use Rattle.std.specs.List.{list_any, flat_map, filter}
use Rattle.std.specs.Option.{option_map, option_and_then}
use Rattle.il_base.specs.declared.ids.TypeId.{TypeId}
use Rattle.il_base.specs.declared.ids.Item.{Item}
use Rattle.il_base.specs.declared.ids.Item.TheVariants as item
use Rattle.il_base.specs.declared.world_model.known.Known.{Known}
use Rattle.il_base.specs.declared.world_model.known.Known.TheVariants.{Good, Bad}
use Rattle.il_base.specs.declared.world_model.expr.TypeExpr.{TypeExpr, fold-TypeExpr}
use Rattle.il_base.specs.declared.world_model.expr.TypeExpr.TheOpen.{TypeExpr-F}
use Rattle.il_base.specs.declared.world_model.members.MethodDefRow.{MethodDefRow}
use Rattle.il_base.specs.declared.world_model.members.EventRow.{EventRow}
use Rattle.il_base.specs.declared.world_model.record.AsmRec.{AsmRec}
use Rattle.il_base.specs.world_model.Core.{same_name}
use Rattle.il_base.specs.world_model.Worlds.{prim_type, type_id}
use Rattle.attr_blobs.specs.declared.name.NameRead.{NameRead}
use Rattle.attr_blobs.specs.declared.name.NameRead.TheVariants as read
use Rattle.attr_blobs.specs.Values.{name_of_text}
use Rattle.rules.specs.declared.link_rules.row_at.RowAt.{RowAt}
use Rattle.rules.specs.declared.link_rules.member_type.MethodType.{MethodType}
use Rattle.rules.specs.link_rules.Types.{at_row, assembly_named}
use Rattle.rules.specs.link_rules.Members.{type_home}
use Rattle.rules.specs.link_rules.Cycles.{listed}
use Rattle.rules.specs.type_rules.Slots.{method_row_at, type_of_method, type_of_row}
use Rattle.rules.specs.type_rules.Texts.{definition_text, joined}
use Rattle.rules.specs.type_rules.Searches.{find_type, type_along_at}
use Rattle.rules.specs.type_rules.Rows.{fields_of_type, methods_of_type, owner_of_field, rec_at}
use Rattle.rules.specs.mark_rules.Facts.{Fact}
use Rattle.rules.specs.mark_rules.Facts.Fact.{marked, instantiated}
use Rattle.rules.specs.mark_rules.Places.{row_of, marks_type, marks_method, marks_field, prop_item, event_item}
use Rattle.rules.specs.mark_rules.Members.{members_by, constructors_by, is_constructor, has_method_row, properties_of_type, events_of_type}
use Rattle.rules.specs.mark_rules.Attributes.{is_property_called, is_field_named}
use Rattle.rules.specs.mark_rules.Annotations.{Sought, own_type, type_argument, type_text, Dependency, dependencies}

-- ---- the type

abbrev pub owner_of_item : List AsmRec → Item → RowAt → List RowAt
owner_of_item recs (item.Method m) at = listed (type_of_method recs at)
owner_of_item recs (item.Field f) at = flat_map (λ (rec : AsmRec). map (at_row at.asm) (listed (owner_of_field rec at.row))) (listed (rec_at recs at))
owner_of_item recs _ at = []

abbrev pub found_by_name : List AsmRec → ℕ → NameRead → List TypeId
found_by_name recs from (read.Name n) = listed (find_type recs from n)
found_by_name recs from read.Other = []
found_by_name recs from read.Malformed = []

-- the type that a text without an assembly names, in the assembly of this name alone
abbrev pub found_there : List AsmRec → List ℕ → NameRead → List TypeId
found_there recs asm (read.Name n) = elim n.asm [ Some other ↦ [] | None ↦ listed (option_and_then (type_along_at recs n.path) (assembly_named recs asm)) ]
found_there recs asm read.Other = []
found_there recs asm read.Malformed = []

abbrev pub type_rows : List AsmRec → List TypeId → List RowAt
type_rows recs ts = flat_map (λ t. listed (type_home recs t)) ts

abbrev pub text_there : List AsmRec → Option (List ℕ) → Option (List ℕ) → List TypeId
text_there recs (Some text) (Some asm) = found_there recs asm (name_of_text text)
text_there recs _ _ = []

-- the type in which members are sought: a Type argument is found from the attribute's assembly
abbrev pub sought_in : List AsmRec → Item → RowAt → Sought → List RowAt
sought_in recs i at own_type = owner_of_item recs i at
sought_in recs i at (type_argument text) = type_rows recs (found_by_name recs at.asm (name_of_text text))
sought_in recs i at (type_text text asm) = type_rows recs (text_there recs text asm)

-- ---- a name with parameters, as documentation writes it: `M(System.Int32,N.C[],System.String@)`

abbrev pub dotted : List ℕ → List ℕ
dotted [] = []
dotted (c ∷ cs) = (if c == 0x2b then 0x2e else c) ∷ dotted cs

abbrev pub doc_layer : List AsmRec → TypeExpr-F (Option (List ℕ)) → Option (List ℕ)
doc_layer recs (TypeExpr-F.Prim n) = Some (dotted (definition_text recs (prim_type recs n)))
doc_layer recs (TypeExpr-F.Def t) = Some (dotted (definition_text recs (Some t)))
doc_layer recs (TypeExpr-F.Array x) = option_map (λ text. text ++ codes "[]") x
doc_layer recs (TypeExpr-F.ByRef x) = option_map (λ text. text ++ codes "@") x
doc_layer recs (TypeExpr-F.Mod required by x) = x
doc_layer recs _ = None

-- the text of a parameter's type; constructed types and generic parameters have none
unfoldable pub doc_text : List AsmRec → TypeExpr → Option (List ℕ)
doc_text recs = fold-TypeExpr (Option (List ℕ)) (doc_layer recs)

abbrev pub all_texts : List (Option (List ℕ)) → Option (List (List ℕ))
all_texts [] = Some []
all_texts (None ∷ xs) = None
all_texts (Some x ∷ xs) = option_map (λ ys. x ∷ ys) (all_texts xs)

abbrev pub doc_name : List AsmRec → List ℕ → MethodType → Option (List ℕ)
doc_name recs name m = option_map (λ texts. name ++ codes "(" ++ joined texts ++ codes ")") (all_texts (map (doc_text recs) m.params))

abbrev pub good_signatures : Option (Known MethodType) → List MethodType
good_signatures None = []
good_signatures (Some (Good m)) = m ∷ []
good_signatures (Some (Bad why)) = []

abbrev pub has_doc_name : List AsmRec → List ℕ → RowAt → List ℕ → Bool
has_doc_name recs wanted at name =
    list_any (λ (m : MethodType). list_any (same_name wanted) (listed (doc_name recs name m))) (good_signatures (type_of_row recs at))

-- ---- members by name

-- a member's name in metadata: `#ctor` is `.ctor`
abbrev pub plain : List ℕ → List ℕ
plain [] = []
plain (c ∷ cs) = if same_name (c ∷ cs) (codes "#ctor") || same_name (take 6 (c ∷ cs)) (codes "#ctor(") then 0x2e ∷ cs else c ∷ cs

-- whether a name has parameters: only methods go by such a name
abbrev pub has_parameters : List ℕ → Bool
has_parameters name = list_any (λ c. c == 0x28) name

abbrev pub is_method_called : List AsmRec → List ℕ → RowAt → Bool
is_method_called recs name at =
    list_any (λ (m : MethodDefRow). if has_parameters name then has_doc_name recs name at m.name else same_name m.name name) (listed (method_row_at recs at))

abbrev pub is_event_called : List AsmRec → List ℕ → RowAt → Bool
is_event_called recs name at =
    list_any (λ (rec : AsmRec). list_any (λ (e : EventRow). same_name e.name name) (listed (slice_get rec.event at.row))) (listed (rec_at recs at))

-- a constructor that is named makes its type instantiated
abbrev pub with_made : List AsmRec → RowAt → RowAt → List Fact
with_made recs t m = if has_method_row recs is_constructor m then instantiated (type_id recs t.asm t.row) ∷ marks_method recs m ∷ [] else marks_method recs m ∷ []

abbrev pub methods_called : List AsmRec → List ℕ → RowAt → List Fact
methods_called recs name t = flat_map (with_made recs t) (filter (is_method_called recs (plain name)) (methods_of_type recs t))

-- the fields, properties and events of a name; a property or event without its accessors
abbrev pub others_called : List AsmRec → List ℕ → RowAt → List Fact
others_called recs name t =
    map (marks_field recs) (filter (is_field_named recs name) (fields_of_type recs t))
    ++ map (λ p. marked (prop_item recs p)) (filter (is_property_called recs name) (properties_of_type recs t))
    ++ map (λ e. marked (event_item recs e)) (filter (is_event_called recs name) (events_of_type recs t))

-- the members of a type itself with a name, of all kinds
unfoldable pub members_called : List AsmRec → List ℕ → RowAt → List Fact
members_called recs name t = methods_called recs name t ++ (if has_parameters name then [] else others_called recs name t)

abbrev pub members_of_kinds : List AsmRec → ℕ → RowAt → List Fact
members_of_kinds recs kinds t =
    made_of (constructors_by recs kinds t) ++ map marked (members_by recs kinds t)
  where
    made_of : List RowAt → List Fact
    made_of [] = []
    made_of (c ∷ cs) = instantiated (type_id recs t.asm t.row) ∷ []

abbrev pub dependency_members : List AsmRec → Dependency → RowAt → List Fact
dependency_members recs d t = elim d.member [ Some name ↦ members_called recs name t | None ↦ members_of_kinds recs d.kinds t ]

-- A marked method or field marks the type and the members that its dependencies name.
abbrev pub dependency_facts : List AsmRec → Item → RowAt → Dependency → List Fact
dependency_facts recs i at d = flat_map (λ t. marks_type recs t ∷ dependency_members recs d t) (sought_in recs i at d.sought)

unfoldable pub dependency_needs : List AsmRec → Item → List Fact
dependency_needs recs i = flat_map (λ at. flat_map (dependency_facts recs i at) (dependencies recs i)) (listed (row_of recs i))
