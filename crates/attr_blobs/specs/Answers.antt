-- What a call answers, by what its bytes give.
use Rattle.std.specs.Prelude.{◌≡◌, ◌++◌, ℕ, List, All, Result, Ok, Err}
use Rattle.attr_blobs.specs.declared.error.AttrError.{AttrError}
use Rattle.attr_blobs.specs.declared.error.AttrError.TheVariants as attr_error
use Rattle.attr_blobs.specs.declared.error.Unread.{Unread}
use Rattle.attr_blobs.specs.declared.error.Unread.TheVariants as unread
use Rattle.attr_blobs.specs.declared.kind.ParamKind.{ParamKind}
use Rattle.attr_blobs.specs.declared.value.AttrValue.{AttrValue}
use Rattle.attr_blobs.specs.declared.value.EnumSize.{EnumSize}
use Rattle.il_base.specs.blob_grammar.Laws.{IsSpelled}
use Rattle.attr_blobs.specs.Texts.{Read}
use Rattle.attr_blobs.specs.Values.{levels}
use Rattle.attr_blobs.specs.Grammar.{IsAttribute, HasValues}
use Rattle.attr_blobs.specs.Laws.{IsToldBad}

-- A refused part is what reading gives, unless memory ran out.
abbrev pub Fails : {Y : Type 0} → Unread → Read Y → Type 0
Fails unread.Exhausted read = Unit {0}
Fails (unread.Bad left) read = read ≡ Err left

-- What a part returned, seen by view, is what reading gives, unless memory ran out.
abbrev pub Gives : {X Y : Type 0} → (X → Y) → Result X Unread → Read Y → Type 0
Gives view (Ok x) read = read ≡ Ok (view x)
Gives view (Err e) read = Fails e read

-- A call answers what its bytes give, unless memory ran out.
abbrev pub Answers : {X : Type 0} → Result X AttrError → Result X ℕ → Type 0
Answers (Ok x) read = read ≡ Ok x
Answers (Err attr_error.NoMemory) read = Unit {0}
Answers (Err (attr_error.Bad at)) read = read ≡ Err at

-- What an answer says of the grammar. A value is spelled by the bytes. Where a byte is bad, no value is; and where all
-- of these kinds have values, it is the first byte that no value allows.
abbrev pub Follows : Result AttrValue AttrError → List EnumSize → List ParamKind → List ℕ → Type 0
Follows (Ok x) enums kinds bytes = IsAttribute enums kinds x bytes
Follows (Err attr_error.NoMemory) enums kinds bytes = Unit {0}
Follows (Err (attr_error.Bad at)) enums kinds bytes =
    ((x : AttrValue) → IsAttribute enums kinds x bytes → ⊥) × (All (HasValues levels) kinds → IsToldBad (IsAttribute enums kinds) bytes at)

-- After the old bytes stands a spelling of a value, for each list of enums with which it has one.
abbrev pub Spells : List ParamKind → AttrValue → List ℕ → List ℕ → Type 0
Spells kinds x old new = (enums : List EnumSize) → IsSpelled (IsAttribute enums kinds) x → (more : List ℕ) × (new ≡ old ++ more) × IsAttribute enums kinds x more

-- what a write leaves that fails on the way
pub record Extends (old new : List ℕ) : Type 0 where
  pub more : List ℕ
  pub is_behind : new ≡ old ++ more
