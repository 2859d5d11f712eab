-- What the laws say of attribute values: of the grammar, of what a blob gives, and of the spelling that is written.
use Rattle.std.specs.Prelude.{◌≡◌, ℕ, min, List, All, Result, Ok, Err}
use Rattle.il_base.specs.blob_grammar.Laws.{AreBytes, IsSpelled, IsFirstBad}
use Rattle.attr_blobs.specs.declared.kind.ParamKind.{ParamKind}
use Rattle.attr_blobs.specs.declared.value.AttrValue.{AttrValue}
use Rattle.attr_blobs.specs.declared.value.EnumSize.{EnumSize}
use Rattle.attr_blobs.specs.Grammar.{IsAttribute, HasValues}
use Rattle.attr_blobs.specs.Values.{levels, value_of_blob}
use Rattle.attr_blobs.specs.Writing.{attribute_bytes}

-- The place of the first byte that no value allows, as it is told: a place past 2^32 - 1 is given as this number.
pub record IsToldBad {A : Type 0} (grammar : A → List ℕ → Type 0) (bytes : List ℕ) (told : ℕ) : Type 0 where
  pub at : ℕ
  pub is_told : told ≡ min at 4294967295
  pub is_first : IsFirstBad grammar bytes at

-- Blobs give what the grammar relates them to.
pub record Reads {A : Type 0} (grammar : A → List ℕ → Type 0) (read : List ℕ → Result A ℕ) : Type 0 where
  pub found : (bytes : List ℕ) (x : A) → AreBytes bytes → read bytes ≡ Ok x → grammar x bytes
  pub only : (bytes : List ℕ) (x : A) → grammar x bytes → read bytes ≡ Ok x

-- A blob that gives no value gives the first byte that no value allows.
abbrev pub Refuses : {A : Type 0} → (A → List ℕ → Type 0) → (List ℕ → Result A ℕ) → Type 0
Refuses grammar read = (bytes : List ℕ) (at : ℕ) → AreBytes bytes → read bytes ≡ Err at → IsToldBad grammar bytes at

-- Each value that has a spelling is written in one of its spellings, and read again from it.
pub record Writes {A : Type 0} (grammar : A → List ℕ → Type 0) (read : List ℕ → Result A ℕ) (write : A → List ℕ) : Type 0 where
  pub spelled : (x : A) → IsSpelled grammar x → grammar x (write x)
  pub again : (x : A) → IsSpelled grammar x → read (write x) ≡ Ok x

-- A value that some blob spells is read again from the spelling that is written.
abbrev pub ReadAgain : Type 0
ReadAgain = (enums : List EnumSize) (kinds : List ParamKind) (bytes : List ℕ) (value : AttrValue) → AreBytes bytes →
    value_of_blob enums kinds bytes ≡ Ok value → value_of_blob enums kinds (attribute_bytes kinds value) ≡ Ok value

-- what the laws of values say, for any sizes of enums and the kinds of any parameters
abbrev pub ReadsValues : Type 0
ReadsValues = (enums : List EnumSize) (kinds : List ParamKind) → Reads (IsAttribute enums kinds) (value_of_blob enums kinds)

abbrev pub RefusesValues : Type 0
RefusesValues = (enums : List EnumSize) (kinds : List ParamKind) → All (HasValues levels) kinds → Refuses (IsAttribute enums kinds) (value_of_blob enums kinds)

abbrev pub WritesValues : Type 0
WritesValues = (enums : List EnumSize) (kinds : List ParamKind) → Writes (IsAttribute enums kinds) (value_of_blob enums kinds) (attribute_bytes kinds)
