-- Members by name and by kinds.
use Rattle.std.specs.Prelude.{ℕ, List, [], ◌∷◌, ◌++◌, map, take, codes, ◌||◌, Bool, if◌then◌else◌}
use Rattle.std.specs.List.{filter}
use Rattle.il_base.specs.declared.world_model.members.MethodDefRow.{MethodDefRow}
use Rattle.il_base.specs.declared.world_model.record.AsmRec.{AsmRec}
use Rattle.il_base.specs.world_model.Core.{same_name}
use Rattle.il_base.specs.world_model.Worlds.{type_id}
use Rattle.rules.specs.declared.link_rules.row_at.RowAt.{RowAt}
use Rattle.rules.specs.type_rules.Rows.{fields_of_type}
use Rattle.rules.specs.mark_rules.Facts.{Fact}
use Rattle.rules.specs.mark_rules.Facts.Fact.{marked, instantiated}
use Rattle.rules.specs.mark_rules.Places.{marks_field, prop_item, event_item}
use Rattle.rules.specs.mark_rules.Members.{properties_of_type, events_of_type}
use Rattle.rules.specs.mark_rules.Attributes.{is_field_named, is_property_called}
use Rattle.rules.specs.mark_rules.Dependencies.{has_parameters, has_doc_name, is_event_called}
use Rattle.mark_parts.specs.declared.mark_facts.kinds.Kind.{Kind}
use Rattle.mark_parts.specs.mark_facts.Kinds.{item_at}

-- the first letter of a name, where `#ctor` is `.ctor`
abbrev pub first_letter : List ℕ → ℕ → ℕ
first_letter name first = if same_name name (codes "#ctor") || same_name (take 6 name) (codes "#ctor(") then 0x2e else first

abbrev pub is_row_called : List AsmRec → List ℕ → RowAt → MethodDefRow → Bool
is_row_called recs name at m = if has_parameters name then has_doc_name recs name at m.name else same_name m.name name

abbrev pub marks_item : List AsmRec → Kind → RowAt → Fact
marks_item recs kind at = marked (item_at recs kind at)

abbrev pub fields_called : List AsmRec → List ℕ → RowAt → List Fact
fields_called recs name t = map (marks_field recs) (filter (is_field_named recs name) (fields_of_type recs t))

abbrev pub mapped_called : List AsmRec → List ℕ → RowAt → List Fact
mapped_called recs name t =
    map (λ p. marked (prop_item recs p)) (filter (is_property_called recs name) (properties_of_type recs t))
    ++ map (λ e. marked (event_item recs e)) (filter (is_event_called recs name) (events_of_type recs t))

-- a type is instantiated where it has such constructors
abbrev pub made_by : List AsmRec → RowAt → List RowAt → List Fact
made_by recs t [] = []
made_by recs t (c ∷ cs) = instantiated (type_id recs t.asm t.row) ∷ []
