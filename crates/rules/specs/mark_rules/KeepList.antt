-- The keep list: a line for each kept type, field, method, property and event of the inputs, `ASM:TOKEN KIND TEXT`, in the order of
-- the assemblies and then of the tokens as numbers.
use Rattle.std.specs.Prelude.{ℕ, suc, List, [], ◌∷◌, ◌++◌, length, codes, Option, Some, None, nat_lt, ◌/◌, ◌%◌, ◌+◌, ◌==◌, Bool, if◌then◌else◌}
use Rattle.std.specs.List.{flat_map}
use Rattle.il_base.specs.declared.ids.Item.{Item}
use Rattle.il_base.specs.declared.table.TheConstants.{TYPE_DEF, FIELD, METHOD_DEF, EVENT, PROPERTY}
use Rattle.il_base.specs.declared.world_model.types.TypeDefRow.{TypeDefRow}
use Rattle.il_base.specs.declared.world_model.members.FieldRow.{FieldRow}
use Rattle.il_base.specs.declared.world_model.members.MethodDefRow.{MethodDefRow}
use Rattle.il_base.specs.declared.world_model.members.PropertyRow.{PropertyRow}
use Rattle.il_base.specs.declared.world_model.members.EventRow.{EventRow}
use Rattle.il_base.specs.declared.world_model.record.AsmRec.{AsmRec}
use Rattle.il_base.specs.world_model.Tokens.{token_of}
use Rattle.rules.specs.declared.link_rules.row_at.RowAt.{RowAt}
use Rattle.rules.specs.link_rules.Types.{at_row}
use Rattle.rules.specs.link_rules.Cycles.{listed}
use Rattle.rules.specs.link_rules.Faults.{own_name}
use Rattle.rules.specs.type_rules.Slots.{type_of_method}
use Rattle.rules.specs.type_rules.Texts.{name_at}
use Rattle.rules.specs.type_rules.Rows.{each_row, owner_of_field}
use Rattle.rules.specs.mark_rules.Places.{type_item, method_item, field_item, prop_item, event_item}
use Rattle.rules.specs.mark_rules.Properties.{property_owner, event_owner}

-- a lower-case hexadecimal digit
abbrev pub hex_digit : ℕ → ℕ
hex_digit n = if nat_lt n 10 then 48 + n else 87 + n

-- 8 lower-case hexadecimal digits
abbrev pub hex_8 : ℕ → List ℕ
hex_8 n =
    hex_digit (n / 0x10000000 % 16) ∷ hex_digit (n / 0x1000000 % 16) ∷ hex_digit (n / 0x100000 % 16) ∷ hex_digit (n / 0x10000 % 16)
    ∷ hex_digit (n / 0x1000 % 16) ∷ hex_digit (n / 0x100 % 16) ∷ hex_digit (n / 0x10 % 16) ∷ hex_digit (n % 16) ∷ []

abbrev pub line : AsmRec → ℕ → List ℕ → List ℕ → List ℕ
line rec token kind text = own_name rec ++ codes ":" ++ hex_8 token ++ codes " " ++ kind ++ codes " " ++ text ++ 0x0a ∷ []

abbrev pub line_if : Bool → AsmRec → ℕ → List ℕ → List ℕ → List ℕ
line_if kept rec token kind text = if kept then line rec token kind text else []

-- the owner's text, a full stop and the name
abbrev pub member_text : List AsmRec → ℕ → Option ℕ → List ℕ → List ℕ
member_text recs a owner name = flat_map (λ k. name_at recs (at_row a k)) (listed owner) ++ codes "." ++ name

abbrev pub row_in : Option RowAt → Option ℕ
row_in None = None
row_in (Some at) = Some at.row

abbrev pub lines_of : List AsmRec → (Item → Bool) → ℕ → AsmRec → List ℕ
lines_of recs kept a rec =
    each_row (λ k (t : TypeDefRow). line_if (kept (type_item recs (at_row a k))) rec (token_of TYPE_DEF (suc k)) (codes "type") (name_at recs (at_row a k))) rec.type_def
    ++ each_row (λ k (f : FieldRow). line_if (kept (field_item recs (at_row a k))) rec (token_of FIELD (suc k)) (codes "field") (member_text recs a (owner_of_field rec k) f.name)) rec.field
    ++ each_row (λ k (m : MethodDefRow). line_if (kept (method_item recs (at_row a k))) rec (token_of METHOD_DEF (suc k)) (codes "method") (member_text recs a (row_in (type_of_method recs (at_row a k))) m.name)) rec.method_def
    ++ each_row (λ k (e : EventRow). line_if (kept (event_item recs (at_row a k))) rec (token_of EVENT (suc k)) (codes "event") (member_text recs a (event_owner rec k) e.name)) rec.event
    ++ each_row (λ k (p : PropertyRow). line_if (kept (prop_item recs (at_row a k))) rec (token_of PROPERTY (suc k)) (codes "property") (member_text recs a (property_owner rec k) p.name)) rec.property

abbrev pub input_lines : List AsmRec → (Item → Bool) → ℕ → AsmRec → List ℕ
input_lines recs kept a rec = if suc a == length recs then [] else lines_of recs kept a rec

-- the text of the keep list in UTF-8, where `kept` says which items are kept
unfoldable pub keep_list : List AsmRec → (Item → Bool) → List ℕ
keep_list recs kept = each_row (input_lines recs kept) recs
