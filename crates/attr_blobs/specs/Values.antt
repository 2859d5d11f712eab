-- The values of custom attributes (II.23.3).
use Rattle.std.specs.Prelude.{ℕ, zero, suc, ◌==◌, ◌&&◌, ◌||◌, ◌-◌, min, is_some, Bool, true, false, List, [], ◌∷◌, length, map, Option, Some, None, Result, Ok, Err, if◌then◌else◌}
use Rattle.std.specs.Cmp.Lexicographic.{pointwise}
use Rattle.std.specs.Str.{bytes_eq, chars, is_utf8}
use Rattle.attr_blobs.specs.declared.name.TypeName.{TypeName}
use Rattle.attr_blobs.specs.declared.name.NameRead.{NameRead}
use Rattle.attr_blobs.specs.declared.name.NameRead.TheVariants.{Name, Other, Malformed}
use Rattle.attr_blobs.specs.declared.text.Width.{Width}
use Rattle.attr_blobs.specs.declared.text.Width.TheVariants.{One, Two, Four, Eight}
use Rattle.attr_blobs.specs.declared.kind.ParamKind.{ParamKind, out-ParamKind}
use Rattle.attr_blobs.specs.declared.kind.ParamKind.TheOpen.{ParamKind-F}
use Rattle.attr_blobs.specs.declared.kind.ParamKind.TheVariants as k
use Rattle.attr_blobs.specs.declared.value.Arg.{Arg}
use Rattle.attr_blobs.specs.declared.value.Arg.TheVariants as a
use Rattle.attr_blobs.specs.declared.value.NamedArg.{NamedArg}
use Rattle.attr_blobs.specs.declared.value.AttrValue.{AttrValue}
use Rattle.attr_blobs.specs.declared.value.EnumSize.{EnumSize}
use Rattle.attr_blobs.specs.TypeNames.{name_of}
use Rattle.attr_blobs.specs.Texts.{Read, Reader, ◌>>=◌, cut, bad, bytes_of, sized_at, text_at, text_or_null_at}

-- BOOLEAN, I1 and U1; CHAR, I2 and U2; I4, U4 and R4; I8, U8 and R8
abbrev pub width_of_element : ℕ → Option Width
width_of_element b =
    if b == 2 || b == 4 || b == 5 then Some One
    else if b == 3 || b == 6 || b == 7 then Some Two
    else if b == 8 || b == 9 || b == 12 then Some Four
    else if b == 10 || b == 11 || b == 13 then Some Eight
    else None

-- of an enum whose size is said to be this
abbrev pub width_of_enum : ℕ → Width
width_of_enum size = if size == 1 then One else if size == 2 then Two else if size == 8 then Eight else Four

-- whether two names are the same
abbrev pub same_assembly : Option (List ℕ) → Option (List ℕ) → Bool
same_assembly None None = true
same_assembly None (Some b) = false
same_assembly (Some a) None = false
same_assembly (Some a) (Some b) = bytes_eq a b

abbrev pub same_name : TypeName → TypeName → Bool
same_name n m = pointwise bytes_eq n.path m.path && same_assembly n.asm m.asm

abbrev pub names : TypeName → NameRead → Bool
names n (Name m) = same_name n m
names n Other = false
names n Malformed = false

-- the size of the first of these enums that a text names, or 4 without one
unfoldable pub size_of_named : List EnumSize → NameRead → ℕ
size_of_named [] name = 4
size_of_named (e ∷ es) name = if names e.name name then e.size else size_of_named es name

-- what a text in UTF-8 names
abbrev pub name_of_text : List ℕ → NameRead
name_of_text text = if is_utf8 text then name_of (map (λ c. Some c) (chars text)) else Malformed

abbrev pub size_of_enum : List EnumSize → List ℕ → ℕ
size_of_enum enums text = size_of_named enums (name_of_text text)

-- The most constructs that stand open at one place: kinds of vectors and of boxed values, vectors and boxed values.
abbrev pub levels : ℕ
levels = 64

-- a kind (II.23.3, FieldOrPropType), where at most so many constructs may open
abbrev pub enum_kind_at : List EnumSize → Reader ParamKind
enum_kind_at enums bs = do
  name ← text_at bs
  Ok (k.Enum name.0 (size_of_enum enums name.0), name.1)

abbrev pub leaf_kind_by : List EnumSize → ℕ → Reader ParamKind
leaf_kind_by enums b bs =
    if b == 14 then Ok (k.Text, bs)
    else if b == 80 then Ok (k.Typ, bs)
    else if b == 85 then enum_kind_at enums bs
    else if is_some (width_of_element b) then Ok (k.Prim b, bs)
    else bad (b ∷ bs)

abbrev pub kind_by : List EnumSize → Reader ParamKind → ℕ → Reader ParamKind
kind_by enums inner b bs =
    if b == 29 then (inner bs >>= λ x. Ok (k.List x.0, x.1))
    else if b == 81 then Ok (k.Boxed, bs)
    else leaf_kind_by enums b bs

unfoldable pub kind_at : List EnumSize → ℕ → Reader ParamKind
kind_at enums room [] = cut
kind_at enums zero (b ∷ bs) = leaf_kind_by enums b bs
kind_at enums (suc room) (b ∷ bs) = kind_by enums (kind_at enums room) b bs

-- arguments one after another
unfoldable pub args_at : Reader Arg → ℕ → Reader (List Arg)
args_at one zero bs = Ok ([], bs)
args_at one (suc n) bs = do
  x ← one bs
  xs ← args_at one n x.1
  Ok (x.0 ∷ xs.0, xs.1)

abbrev pub number_at : Width → Reader Arg
number_at width bs = do
  n ← sized_at (bytes_of width) bs
  Ok (a.Number n.0, n.1)

abbrev pub number_by : Option Width → Reader Arg
number_by None bs = bad bs
number_by (Some width) bs = number_at width bs

-- a vector: the count of its elements, or ffffffff for null
abbrev pub list_by : Reader Arg → ℕ → Reader Arg
list_by one count bs =
    if count == 4294967295 then Ok (a.List None, bs)
    else (args_at one count bs >>= λ xs. Ok (a.List (Some xs.0), xs.1))

abbrev pub list_at : Reader Arg → Reader Arg
list_at one bs = sized_at 4 bs >>= λ count. list_by one count.0 count.1

-- an argument of a kind that holds no other
abbrev pub leaf_arg_by : ParamKind-F ParamKind → Reader Arg
leaf_arg_by (ParamKind-F.Prim b) bs = number_by (width_of_element b) bs
leaf_arg_by ParamKind-F.Text bs = text_or_null_at bs >>= λ t. Ok (a.Text t.0, t.1)
leaf_arg_by ParamKind-F.Typ bs = text_or_null_at bs >>= λ t. Ok (a.Typ t.0, t.1)
leaf_arg_by (ParamKind-F.Enum name size) bs = number_at (width_of_enum size) bs
leaf_arg_by ParamKind-F.Boxed bs = bad bs
leaf_arg_by (ParamKind-F.List kind) bs = bad bs

-- a boxed value: its kind, and the value
abbrev pub boxed_at : List EnumSize → ℕ → (ParamKind → Reader Arg) → Reader Arg
boxed_at enums room inner bs = do
  kind ← kind_at enums room bs
  value ← inner kind.0 kind.1
  Ok (a.Boxed kind.0 value.0, value.1)

abbrev pub arg_by : List EnumSize → ℕ → (ParamKind → Reader Arg) → ParamKind-F ParamKind → Reader Arg
arg_by enums room inner (ParamKind-F.List kind) bs = list_at (inner kind) bs
arg_by enums room inner ParamKind-F.Boxed bs = boxed_at enums room inner bs
arg_by enums room inner kind bs = leaf_arg_by kind bs

-- an argument of a kind (II.23.3, FixedArg), where at most so many constructs may open
unfoldable pub arg_at : List EnumSize → ℕ → ParamKind → Reader Arg
arg_at enums zero kind bs = leaf_arg_by (out-ParamKind kind) bs
arg_at enums (suc room) kind bs = arg_by enums room (arg_at enums room) (out-ParamKind kind) bs

-- the constructor's arguments
unfoldable pub fixed_at : List EnumSize → List ParamKind → Reader (List Arg)
fixed_at enums [] bs = Ok ([], bs)
fixed_at enums (kind ∷ kinds) bs = do
  x ← arg_at enums levels kind bs
  xs ← fixed_at enums kinds x.1
  Ok (x.0 ∷ xs.0, xs.1)

-- a named argument after its first byte: kind, name and value
abbrev pub named_by : List EnumSize → Bool → Reader NamedArg
named_by enums field bs = do
  kind ← kind_at enums levels bs
  name ← text_at kind.1
  value ← arg_at enums levels kind.0 name.1
  Ok (record { field = field; name = name.0; kind = kind.0; value = value.0 }, value.1)

-- FIELD or PROPERTY
unfoldable pub named_at : List EnumSize → Reader NamedArg
named_at enums [] = cut
named_at enums (b ∷ bs) = if b == 83 then named_by enums true bs else if b == 84 then named_by enums false bs else bad (b ∷ bs)

unfoldable pub nameds_at : Reader NamedArg → ℕ → Reader (List NamedArg)
nameds_at one zero bs = Ok ([], bs)
nameds_at one (suc n) bs = do
  x ← one bs
  xs ← nameds_at one n x.1
  Ok (x.0 ∷ xs.0, xs.1)

-- 01 00
unfoldable pub prolog_at : List ℕ → Read (List ℕ)
prolog_at [] = cut
prolog_at (b ∷ []) = if b == 1 then cut else bad (b ∷ [])
prolog_at (b ∷ c ∷ bs) = if b == 1 then (if c == 0 then Ok bs else bad (c ∷ bs)) else bad (b ∷ c ∷ bs)

-- the whole value in front
unfoldable pub value_at : List EnumSize → List ParamKind → Reader AttrValue
value_at enums kinds bs = do
  rest ← prolog_at bs
  fixed ← fixed_at enums kinds rest
  count ← sized_at 2 fixed.1
  named ← nameds_at (named_at enums) count.0 count.1
  Ok (record { fixed = fixed.0; named = named.0 }, named.1)

-- A blob is read to its end: the first byte that is left over is bad.
abbrev pub ended : {A : Type 0} → A × List ℕ → Read A
ended (x, []) = Ok x
ended (x, b ∷ bs) = bad (b ∷ bs)

abbrev pub whole_at : List EnumSize → List ParamKind → List ℕ → Read AttrValue
whole_at enums kinds bs = value_at enums kinds bs >>= λ x. ended x

-- The place of a fault, counted from the front. A place past 2^32 - 1 is given as this number.
abbrev pub placed : {A : Type 0} → ℕ → Read A → Result A ℕ
placed size (Ok x) = Ok x
placed size (Err left) = Err (min (size - left) 4294967295)

-- what a blob gives: the value, or the place of the first byte that no value allows
abbrev pub value_of_blob : List EnumSize → List ParamKind → List ℕ → Result AttrValue ℕ
value_of_blob enums kinds bs = placed (length bs) (whole_at enums kinds bs)
