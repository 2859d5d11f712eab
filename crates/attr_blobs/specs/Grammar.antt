-- Which bytes spell which value of a custom attribute (II.23.3).
use Rattle.std.specs.Prelude.{◌≡◌, ℕ, suc, ◌<◌, ◌^◌, Bool, true, List, [], ◌∷◌, ◌++◌, length, Option, Some, None, is_some, if◌then◌else◌}
use Rattle.std.specs.Str.{IsUtf8}
use Rattle.byteorder.specs.Endian.{little_bytes}
use Rattle.il_base.specs.blob_grammar.Numbers.{IsNumber}
use Rattle.attr_blobs.specs.declared.text.Width.{Width}
use Rattle.attr_blobs.specs.declared.kind.ParamKind.{ParamKind}
use Rattle.attr_blobs.specs.declared.kind.ParamKind.TheVariants as k
use Rattle.attr_blobs.specs.declared.value.Arg.{Arg}
use Rattle.attr_blobs.specs.declared.value.Arg.TheVariants as a
use Rattle.attr_blobs.specs.declared.value.NamedArg.{NamedArg}
use Rattle.attr_blobs.specs.declared.value.AttrValue.{AttrValue}
use Rattle.attr_blobs.specs.declared.value.EnumSize.{EnumSize}
use Rattle.attr_blobs.specs.Texts.{bytes_of}
use Rattle.attr_blobs.specs.Values.{width_of_element, width_of_enum, size_of_enum, levels}

-- SerString: a text's length in bytes, and its bytes in UTF-8
pub data IsText : List ℕ → List ℕ → Type 0 where
  text : (t ns : List ℕ) → IsUtf8 t → IsNumber (length t) ns → IsText t (ns ++ t)

-- a text, or ff for null
pub data IsTextOrNull : Option (List ℕ) → List ℕ → Type 0 where
  null : IsTextOrNull None (255 ∷ [])
  given : (t bs : List ℕ) → IsText t bs → IsTextOrNull (Some t) bs

-- FieldOrPropType: a kind, where at most `room` constructs may stand open. Named enums have their sizes in a list.
pub data IsKind (enums : List EnumSize) : ℕ → ParamKind → List ℕ → Type 0 where
  number_kind : (room b : ℕ) → is_some (width_of_element b) ≡ true → IsKind enums room (k.Prim b) (b ∷ [])
  text_kind : (room : ℕ) → IsKind enums room k.Text (14 ∷ [])
  type_kind : (room : ℕ) → IsKind enums room k.Typ (80 ∷ [])
  enum_kind : (room : ℕ) (name bs : List ℕ) → IsText name bs → IsKind enums room (k.Enum name (size_of_enum enums name)) (85 ∷ bs)
  boxed_kind : (room : ℕ) → IsKind enums (suc room) k.Boxed (81 ∷ [])
  vector_kind : (room : ℕ) (kind : ParamKind) (bs : List ℕ) → IsKind enums room kind bs → IsKind enums (suc room) (k.List kind) (29 ∷ bs)

-- FixedArg: an argument of a kind, where at most `room` constructs may stand open. Numbers have their lowest byte first.
mutual
  pub data IsArg (enums : List EnumSize) : ℕ → ParamKind → Arg → List ℕ → Type 0 where
    number : (room b : ℕ) (width : Width) (n : ℕ) → width_of_element b ≡ Some width → n < 256 ^ bytes_of width
        → IsArg enums room (k.Prim b) (a.Number n) (little_bytes (bytes_of width) n)
    enum : (room : ℕ) (name : List ℕ) (size n : ℕ) → n < 256 ^ bytes_of (width_of_enum size)
        → IsArg enums room (k.Enum name size) (a.Number n) (little_bytes (bytes_of (width_of_enum size)) n)
    string : (room : ℕ) (t : Option (List ℕ)) (bs : List ℕ) → IsTextOrNull t bs → IsArg enums room k.Text (a.Text t) bs
    type_name : (room : ℕ) (t : Option (List ℕ)) (bs : List ℕ) → IsTextOrNull t bs → IsArg enums room k.Typ (a.Typ t) bs
    boxed : (room : ℕ) (kind : ParamKind) (x : Arg) (ks bs : List ℕ) → IsKind enums room kind ks → IsArg enums room kind x bs
        → IsArg enums (suc room) k.Boxed (a.Boxed kind x) (ks ++ bs)
    no_vector : (room : ℕ) (kind : ParamKind) → IsArg enums (suc room) (k.List kind) (a.List None) (255 ∷ 255 ∷ 255 ∷ 255 ∷ [])
    vector : (room : ℕ) (kind : ParamKind) (xs : List Arg) (bs : List ℕ) → length xs < 4294967295 → AreArgs enums room kind xs bs
        → IsArg enums (suc room) (k.List kind) (a.List (Some xs)) (little_bytes 4 (length xs) ++ bs)

  -- arguments of one kind, one after another
  pub data AreArgs (enums : List EnumSize) : ℕ → ParamKind → List Arg → List ℕ → Type 0 where
    none : (room : ℕ) (kind : ParamKind) → AreArgs enums room kind [] []
    more : (room : ℕ) (kind : ParamKind) (x : Arg) (xs : List Arg) (front bs : List ℕ) → IsArg enums room kind x front → AreArgs enums room kind xs bs
        → AreArgs enums room kind (x ∷ xs) (front ++ bs)

-- the constructor's arguments, one for each parameter
pub data AreFixed (enums : List EnumSize) : List ParamKind → List Arg → List ℕ → Type 0 where
  no_fixed : AreFixed enums [] [] []
  more_fixed : (kind : ParamKind) (kinds : List ParamKind) (x : Arg) (xs : List Arg) (front bs : List ℕ) → IsArg enums levels kind x front → AreFixed enums kinds xs bs
      → AreFixed enums (kind ∷ kinds) (x ∷ xs) (front ++ bs)

-- FIELD or PROPERTY
abbrev pub field_byte : Bool → ℕ
field_byte field = if field then 83 else 84

-- NamedArg: a field or a property with its kind, its name and its value
pub data IsNamed (enums : List EnumSize) : NamedArg → List ℕ → Type 0 where
  named : (field : Bool) (kind : ParamKind) (name : List ℕ) (x : Arg) (ks ts bs : List ℕ) → IsKind enums levels kind ks → IsText name ts → IsArg enums levels kind x bs
      → IsNamed enums (record { field = field; name = name; kind = kind; value = x }) (field_byte field ∷ (ks ++ ts ++ bs))

pub data AreNamed (enums : List EnumSize) : List NamedArg → List ℕ → Type 0 where
  no_named : AreNamed enums [] []
  more_named : (x : NamedArg) (xs : List NamedArg) (front bs : List ℕ) → IsNamed enums x front → AreNamed enums xs bs → AreNamed enums (x ∷ xs) (front ++ bs)

-- the whole value after its prolog 01 00: the constructor's arguments, the count of named arguments, and these
pub data IsAttribute (enums : List EnumSize) (kinds : List ParamKind) : AttrValue → List ℕ → Type 0 where
  attribute : (fixed : List Arg) (ns : List NamedArg) (fs bs : List ℕ) → AreFixed enums kinds fixed fs → length ns < 65536 → AreNamed enums ns bs
      → IsAttribute enums kinds (record { fixed = fixed; named = ns }) (1 ∷ 0 ∷ (fs ++ little_bytes 2 (length ns) ++ bs))

-- The kinds of parameters that II.23.3 gives values for, at most `room` deep.
pub data HasValues : ℕ → ParamKind → Type 0 where
  of_number : (room b : ℕ) → is_some (width_of_element b) ≡ true → HasValues room (k.Prim b)
  of_text : (room : ℕ) → HasValues room k.Text
  of_type : (room : ℕ) → HasValues room k.Typ
  of_enum : (room : ℕ) (name : List ℕ) (size : ℕ) → HasValues room (k.Enum name size)
  of_boxed : (room : ℕ) → HasValues (suc room) k.Boxed
  of_vector : (room : ℕ) (kind : ParamKind) → HasValues room kind → HasValues (suc room) (k.List kind)
