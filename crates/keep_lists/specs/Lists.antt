-- An assembly whose kept items are listed, and a line for each of its rows.
use Rattle.std.specs.Prelude.{◌≡◌, ℕ, suc, List, ◌∷◌, [], codes, ◌/◌, ◌%◌, Bool}
use Rattle.il_base.specs.declared.ids.Item.{Item}
use Rattle.il_base.specs.declared.table.TheConstants.{TYPE_DEF, FIELD, METHOD_DEF, EVENT, PROPERTY}
use Rattle.il_base.specs.declared.world_model.members.FieldRow.{FieldRow}
use Rattle.il_base.specs.declared.world_model.members.MethodDefRow.{MethodDefRow}
use Rattle.il_base.specs.declared.world_model.members.PropertyRow.{PropertyRow}
use Rattle.il_base.specs.declared.world_model.members.EventRow.{EventRow}
use Rattle.il_base.specs.declared.world_model.record.AsmRec.{AsmRec}
use Rattle.il_base.specs.world_model.Tokens.{token_of}
use Rattle.rules.specs.link_rules.Types.{at_row}
use Rattle.rules.specs.type_rules.Slots.{type_of_method}
use Rattle.rules.specs.type_rules.Texts.{name_at}
use Rattle.rules.specs.type_rules.Rows.{owner_of_field}
use Rattle.rules.specs.mark_rules.Places.{type_item, method_item, field_item, prop_item, event_item}
use Rattle.rules.specs.mark_rules.Properties.{property_owner, event_owner}
use Rattle.rules.specs.mark_rules.KeepList.{hex_digit, line_if, member_text, row_in}
use Rattle.mark_parts.specs.mark_tables.Assemblies.{recs_of, place_of, rec_of, all_of, IsMarker, IsAssembly}
use Rattle.merge_plan.specs.Kept.{kept_by}
use Rattle.keep_lists.specs.declared.listed.Listed.{Listed}

abbrev pub recs_in : Listed → List AsmRec
recs_in s = recs_of s.asm

abbrev pub place_in : Listed → ℕ
place_in s = place_of s.asm

abbrev pub rec_in : Listed → AsmRec
rec_in s = rec_of s.asm

abbrev pub kept_in : Listed → Item → Bool
kept_in s = kept_by s.kept.now

pub record IsListed (s : Listed) : Type 0 where
  pub marker : IsMarker s.marker.now
  pub asm : IsAssembly s.asm
  pub recs : recs_of s.asm ≡ all_of s.marker.now

-- ---- the two halves of a token

abbrev pub high_digits : ℕ → List ℕ
high_digits n = hex_digit (n / 0x10000000 % 16) ∷ hex_digit (n / 0x1000000 % 16) ∷ hex_digit (n / 0x100000 % 16) ∷ hex_digit (n / 0x10000 % 16) ∷ []

abbrev pub low_digits : ℕ → List ℕ
low_digits n = hex_digit (n / 0x1000 % 16) ∷ hex_digit (n / 0x100 % 16) ∷ hex_digit (n / 0x10 % 16) ∷ hex_digit (n % 16) ∷ []

-- ---- the line of a row, if its item is kept

abbrev pub type_line : List AsmRec → (Item → Bool) → ℕ → AsmRec → ℕ → List ℕ
type_line recs kept a rec k = line_if (kept (type_item recs (at_row a k))) rec (token_of TYPE_DEF (suc k)) (codes "type") (name_at recs (at_row a k))

abbrev pub field_line : List AsmRec → (Item → Bool) → ℕ → AsmRec → ℕ → FieldRow → List ℕ
field_line recs kept a rec k f =
    line_if (kept (field_item recs (at_row a k))) rec (token_of FIELD (suc k)) (codes "field") (member_text recs a (owner_of_field rec k) f.name)

abbrev pub method_line : List AsmRec → (Item → Bool) → ℕ → AsmRec → ℕ → MethodDefRow → List ℕ
method_line recs kept a rec k m =
    line_if (kept (method_item recs (at_row a k))) rec (token_of METHOD_DEF (suc k)) (codes "method") (member_text recs a (row_in (type_of_method recs (at_row a k))) m.name)

abbrev pub event_line : List AsmRec → (Item → Bool) → ℕ → AsmRec → ℕ → EventRow → List ℕ
event_line recs kept a rec k e =
    line_if (kept (event_item recs (at_row a k))) rec (token_of EVENT (suc k)) (codes "event") (member_text recs a (event_owner rec k) e.name)

abbrev pub property_line : List AsmRec → (Item → Bool) → ℕ → AsmRec → ℕ → PropertyRow → List ℕ
property_line recs kept a rec k p =
    line_if (kept (prop_item recs (at_row a k))) rec (token_of PROPERTY (suc k)) (codes "property") (member_text recs a (property_owner rec k) p.name)
