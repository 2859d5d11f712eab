-- The texts of `ldstr`, over what code holds.
use Rattle.std.specs.Prelude.{◌≡◌, ℕ, ◌+◌, ◌*◌, ◌%◌, List, [], ◌∷◌, length, map, find, Option, Some, is_some, unwrap_or, nat_eq, bytes_eq, slice_get, if◌then◌else◌}
use Rattle.std.specs.List.{list_any}
use Rattle.std.specs.HashMap.{get, get_by}
use Rattle.std.specs.Option.{option_copied, option_map}
use Rattle.il_base.specs.declared.table.TheConstants.{USER_STRING}
use Rattle.il_base.specs.declared.body.Instr.{Instr}
use Rattle.il_base.specs.declared.world_model.record.UserText.{UserText}
use Rattle.il_base.specs.declared.world_model.record.AsmRec.{AsmRec}
use Rattle.rules.specs.file_layout.Interning.{added_all}
use Rattle.rules.specs.file_layout.Heaps.{user_place}
use Rattle.rules.specs.mark_rules.Bodies.{is_text_of}
use Rattle.rules.specs.merge_rules.Refs.{first_or}
use Rattle.rules.specs.merge_rules.Moved.{texts_named, texts_by}
use Rattle.merged_tables.specs.declared.merged_texts.loads.Loads.{Loads}
use Rattle.merged_tables.specs.declared.merged_texts.places.Places.{Places}

-- ---- the texts of assemblies

abbrev pub units_at : Loads → ℕ → Option (List ℕ)
units_at loads token = option_copied (get nat_eq loads.units token)

-- the first text under a token
abbrev pub text_under : AsmRec → ℕ → Option (List ℕ)
text_under rec token = option_map (λ (t : UserText). t.text) (find (is_text_of token) rec.user)

abbrev pub AreLoads : AsmRec → Loads → Type 0
AreLoads rec loads = (token : ℕ) → units_at loads token ≡ text_under rec token

-- those of the first n assemblies
pub record AreFirstLoads (recs : List AsmRec) (n : ℕ) (all : List Loads) : Type 0 where
  pub long : length all ≡ n
  pub each : (a : ℕ) (rec : AsmRec) (l : Loads) → slice_get recs a ≡ Some rec → slice_get all a ≡ Some l → AreLoads rec l

abbrev pub AreAllLoads : List AsmRec → List Loads → Type 0
AreAllLoads recs all = AreFirstLoads recs (length recs) all

-- ---- texts that are met

-- the token of a text among some texts, by its place
abbrev pub text_number : List (List ℕ) → List ℕ → ℕ
text_number texts units = (USER_STRING * 16777216 + user_place texts units) % 4294967296

abbrev pub texts_in : Places → List (List ℕ)
texts_in places = map (λ text. text.now) places.texts.items

abbrev pub token_in : Places → List ℕ → Option ℕ
token_in places units = get_by (λ text. bytes_eq units text.now) places.tokens

-- the tokens are those of the texts that are met, and the end is the token of any other
pub record ArePlaces (places : Places) : Type 0 where
  pub met : (units : List ℕ) → is_some (token_in places units) ≡ list_any (bytes_eq units) (texts_in places)
  pub number : (units : List ℕ) → unwrap_or (token_in places units) places.end ≡ text_number (texts_in places) units

-- a text with its token
abbrev pub numbered : List (List ℕ) → List ℕ → UserText
numbered texts units = record { token = text_number texts units; text = units }

-- the text that an instruction loads
abbrev pub loaded : AsmRec → Instr → List (List ℕ)
loaded rec i = texts_by rec i.form i.operand

-- with what each of some items gives
unfoldable pub gathered : {A : Type 0} → (A → List (List ℕ)) → List (List ℕ) → List A → List (List ℕ)
gathered f texts [] = texts
gathered f texts (x ∷ xs) = gathered f (added_all texts (f x)) xs

-- ---- tokens

-- the token of the first text that has another
abbrev pub first_token : (List ℕ → ℕ) → ℕ → List UserText → ℕ
first_token number token [] = 0
first_token number token (t ∷ ts) = if nat_eq t.token token then number t.text else first_token number token ts

-- what a token of `ldstr` becomes among some texts
abbrev pub text_by : List (List ℕ) → AsmRec → ℕ → ℕ
text_by texts rec token = first_or (map (text_number texts) (texts_named rec token)) 0
