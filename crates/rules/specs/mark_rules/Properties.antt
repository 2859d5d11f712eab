-- Properties, events and their accessors (II.22.28, II.22.34, II.22.13). A MethodSemantics row counts where its method is in the
-- run of a type, and its property or event in the run of a map.
use Rattle.std.specs.Prelude.{ℕ, suc, List, [], ◌∷◌, ◌++◌, map, Option, None, slice_get, ◌==◌, ◌&&◌, Bool, true, if◌then◌else◌}
use Rattle.std.specs.List.{list_any, flat_map, filter}
use Rattle.il_base.specs.declared.table.TheConstants.{TYPE_DEF, METHOD_DEF, EVENT, PROPERTY}
use Rattle.il_base.specs.declared.world_model.members.PropertyRow.{PropertyRow}
use Rattle.il_base.specs.declared.world_model.members.PropertyMapRow.{PropertyMapRow}
use Rattle.il_base.specs.declared.world_model.members.EventRow.{EventRow}
use Rattle.il_base.specs.declared.world_model.members.EventMapRow.{EventMapRow}
use Rattle.il_base.specs.declared.world_model.members.MethodSemanticsRow.{MethodSemanticsRow}
use Rattle.il_base.specs.declared.world_model.record.AsmRec.{AsmRec}
use Rattle.il_base.specs.world_model.Tokens.{token_of, index_in}
use Rattle.rules.specs.declared.link_rules.row_at.RowAt.{RowAt}
use Rattle.rules.specs.link_rules.Types.{at_row}
use Rattle.rules.specs.link_rules.Members.{is_in_run}
use Rattle.rules.specs.link_rules.Cycles.{listed}
use Rattle.rules.specs.type_rules.Searches.{has_owner}
use Rattle.rules.specs.type_rules.Rows.{rec_at}
use Rattle.rules.specs.mark_rules.Facts.{Fact}
use Rattle.rules.specs.mark_rules.Facts.Fact.{marked}
use Rattle.rules.specs.mark_rules.Places.{marks_type, marks_method, prop_item, event_item}
use Rattle.rules.specs.mark_rules.Naming.{Part, of_parts, method_sig_parts, type_token_part}

-- ---- owners

abbrev pub property_owner_in : ℕ → List PropertyMapRow → Option ℕ
property_owner_in k [] = None
property_owner_in k (row ∷ rows) =
    if is_in_run row.property_list_first row.property_list_end (suc k) then index_in TYPE_DEF row.parent else property_owner_in k rows

abbrev pub event_owner_in : ℕ → List EventMapRow → Option ℕ
event_owner_in k [] = None
event_owner_in k (row ∷ rows) =
    if is_in_run row.event_list_first row.event_list_end (suc k) then index_in TYPE_DEF row.parent else event_owner_in k rows

-- the type that has a property or an event; None for a row that is in no run
unfoldable pub property_owner : AsmRec → ℕ → Option ℕ
property_owner rec k = property_owner_in k rec.property_map

unfoldable pub event_owner : AsmRec → ℕ → Option ℕ
event_owner rec k = event_owner_in k rec.event_map

abbrev pub is_there : {A : Type 0} → Option A → Bool
is_there o = list_any (λ x. true) (listed o)

-- ---- accessors

abbrev pub accessor_in : AsmRec → ℕ → MethodSemanticsRow → List ℕ
accessor_in rec token row = if row.association == token then filter (has_owner rec) (listed (index_in METHOD_DEF row.method)) else []

abbrev pub accessors_by : AsmRec → ℕ → List ℕ
accessors_by rec token = flat_map (accessor_in rec token) rec.method_semantics

-- the accessors of a property or an event, of all kinds
unfoldable pub property_accessors : List AsmRec → RowAt → List RowAt
property_accessors recs at =
    flat_map (λ (rec : AsmRec). if is_there (property_owner rec at.row) then map (at_row at.asm) (accessors_by rec (token_of PROPERTY (suc at.row))) else []) (listed (rec_at recs at))

unfoldable pub event_accessors : List AsmRec → RowAt → List RowAt
event_accessors recs at =
    flat_map (λ (rec : AsmRec). if is_there (event_owner rec at.row) then map (at_row at.asm) (accessors_by rec (token_of EVENT (suc at.row))) else []) (listed (rec_at recs at))

-- ---- rules

unfoldable pub parts_of_property : List AsmRec → RowAt → List Part
parts_of_property recs at =
    flat_map (λ (rec : AsmRec). flat_map (λ (p : PropertyRow). method_sig_parts recs at.asm rec (token_of PROPERTY (suc at.row)) p.signature) (listed (slice_get rec.property at.row))) (listed (rec_at recs at))

unfoldable pub parts_of_event : List AsmRec → RowAt → List Part
parts_of_event recs at =
    flat_map (λ (rec : AsmRec). flat_map (λ (e : EventRow). type_token_part recs at.asm rec (token_of EVENT (suc at.row)) 0 e.event_type ∷ []) (listed (slice_get rec.event at.row))) (listed (rec_at recs at))

abbrev pub owned : List AsmRec → (AsmRec → ℕ → Option ℕ) → RowAt → List Fact
owned recs owner at = flat_map (λ (rec : AsmRec). map (λ t. marks_type recs (at_row at.asm t)) (listed (owner rec at.row))) (listed (rec_at recs at))

-- A marked property or event marks its owner and the types that its signature, or its event type, names.
unfoldable pub property_needs : List AsmRec → RowAt → List Fact
property_needs recs at = owned recs property_owner at ++ of_parts (parts_of_property recs at)

unfoldable pub event_needs : List AsmRec → RowAt → List Fact
event_needs recs at = owned recs event_owner at ++ of_parts (parts_of_event recs at)

-- the property or event that a method is an accessor of, by a MethodSemantics row
abbrev pub accessed_by : List AsmRec → RowAt → AsmRec → MethodSemanticsRow → List Fact
accessed_by recs at rec row =
    if row.method == token_of METHOD_DEF (suc at.row) && has_owner rec at.row
    then map (λ k. marked (prop_item recs (at_row at.asm k))) (filter (λ k. is_there (property_owner rec k)) (listed (index_in PROPERTY row.association)))
    ++ map (λ k. marked (event_item recs (at_row at.asm k))) (filter (λ k. is_there (event_owner rec k)) (listed (index_in EVENT row.association)))
    else []

-- A marked accessor marks its property or event.
unfoldable pub accessed : List AsmRec → RowAt → List Fact
accessed recs at = flat_map (λ (rec : AsmRec). flat_map (accessed_by recs at rec) rec.method_semantics) (listed (rec_at recs at))

-- A property or event that is marked as a root, or because reflection may reach it, marks all its accessors.
unfoldable pub whole_property : List AsmRec → RowAt → List Fact
whole_property recs at = marked (prop_item recs at) ∷ map (marks_method recs) (property_accessors recs at)

unfoldable pub whole_event : List AsmRec → RowAt → List Fact
whole_event recs at = marked (event_item recs at) ∷ map (marks_method recs) (event_accessors recs at)
