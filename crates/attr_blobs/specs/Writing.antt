-- The spelling of an attribute's value that is written: each number in its shortest form.
use Rattle.std.specs.Prelude.{ℕ, min, List, [], ◌∷◌, ◌++◌, length, map, Option, Some, None, if◌then◌else◌, unwrap_or}
use Rattle.std.specs.List.{concat, flat_map}
use Rattle.std.specs.Option.{option_map}
use Rattle.byteorder.specs.Endian.{little_bytes}
use Rattle.il_base.specs.blob_grammar.Numbers.{shortest}
use Rattle.attr_blobs.specs.declared.text.Width.{Width}
use Rattle.attr_blobs.specs.declared.text.Width.TheVariants.{Eight}
use Rattle.attr_blobs.specs.declared.kind.ParamKind.{ParamKind, out-ParamKind, fold-ParamKind}
use Rattle.attr_blobs.specs.declared.kind.ParamKind.TheOpen.{ParamKind-F}
use Rattle.attr_blobs.specs.declared.value.Arg.{Arg, fold-Arg}
use Rattle.attr_blobs.specs.declared.value.Arg.TheOpen.{Arg-F}
use Rattle.attr_blobs.specs.declared.value.NamedArg.{NamedArg}
use Rattle.attr_blobs.specs.declared.value.AttrValue.{AttrValue}
use Rattle.attr_blobs.specs.Texts.{bytes_of}
use Rattle.attr_blobs.specs.Values.{width_of_element, width_of_enum}

-- a text. Its length is at most 2^29 - 1: no blob says more.
unfoldable pub text_bytes : List ℕ → List ℕ
text_bytes text = shortest (min (length text) 536870911) ++ text

abbrev pub text_or_null_bytes : Option (List ℕ) → List ℕ
text_or_null_bytes None = 255 ∷ []
text_or_null_bytes (Some text) = text_bytes text

-- one level of a kind, with the bytes of the kind that it holds in its place
abbrev pub kind_layer : ParamKind-F (List ℕ) → List ℕ
kind_layer (ParamKind-F.Prim b) = b ∷ []
kind_layer ParamKind-F.Text = 14 ∷ []
kind_layer ParamKind-F.Typ = 80 ∷ []
kind_layer ParamKind-F.Boxed = 81 ∷ []
kind_layer (ParamKind-F.Enum name size) = 85 ∷ text_bytes name
kind_layer (ParamKind-F.List inner) = 29 ∷ inner

unfoldable pub kind_bytes : ParamKind → List ℕ
kind_bytes = fold-ParamKind (List ℕ) kind_layer

-- How many bytes the numbers of a kind take. A kind without numbers has none, and eight bytes keep each.
abbrev pub width_in : ParamKind-F ParamKind → Width
width_in (ParamKind-F.Prim b) = unwrap_or (width_of_element b) Eight
width_in (ParamKind-F.Enum name size) = width_of_enum size
width_in kind = Eight

abbrev pub number_bytes : ParamKind → ℕ → List ℕ
number_bytes kind n = little_bytes (bytes_of (width_in (out-ParamKind kind))) n

-- the kind of the elements of a vector of a kind
abbrev pub element_in : ParamKind → ParamKind-F ParamKind → ParamKind
element_in kind (ParamKind-F.List inner) = inner
element_in kind other = kind

abbrev pub element_of : ParamKind → ParamKind
element_of kind = element_in kind (out-ParamKind kind)

-- The elements of a vector after their count, at most 2^32 - 2: no blob says more.
abbrev pub list_bytes : Option (List (List ℕ)) → List ℕ
list_bytes None = 255 ∷ 255 ∷ 255 ∷ 255 ∷ []
list_bytes (Some elements) = little_bytes 4 (min (length elements) 4294967294) ++ concat elements

-- one level of an argument of a kind, with the spellings of the arguments that it holds in their place
abbrev pub arg_layer : Arg-F (ParamKind → List ℕ) → ParamKind → List ℕ
arg_layer (Arg-F.Number n) kind = number_bytes kind n
arg_layer (Arg-F.Text text) kind = text_or_null_bytes text
arg_layer (Arg-F.Typ name) kind = text_or_null_bytes name
arg_layer (Arg-F.Boxed inner value) kind = kind_bytes inner ++ value inner
arg_layer (Arg-F.List elements) kind = list_bytes (option_map (λ es. map (λ e. e (element_of kind)) es) elements)

unfoldable pub arg_bytes : Arg → ParamKind → List ℕ
arg_bytes = fold-Arg (ParamKind → List ℕ) arg_layer

-- a vector's count and its elements, or null
abbrev pub vector_bytes : Option (List Arg) → ParamKind → List ℕ
vector_bytes None kind = 255 ∷ 255 ∷ 255 ∷ 255 ∷ []
vector_bytes (Some args) kind = little_bytes 4 (min (length args) 4294967294) ++ flat_map (λ a. arg_bytes a kind) args

-- arguments of these kinds, as many as there are of both
unfoldable pub fixed_bytes : List ParamKind → List Arg → List ℕ
fixed_bytes [] args = []
fixed_bytes (kind ∷ kinds) [] = []
fixed_bytes (kind ∷ kinds) (arg ∷ args) = arg_bytes arg kind ++ fixed_bytes kinds args

-- FIELD or PROPERTY
abbrev pub named_bytes : NamedArg → List ℕ
named_bytes n = (if n.field then 83 else 84) ∷ (kind_bytes n.kind ++ text_bytes n.name ++ arg_bytes n.value n.kind)

-- The named arguments stand after their count, at most 2^16 - 1: no blob says more.
abbrev pub attribute_bytes : List ParamKind → AttrValue → List ℕ
attribute_bytes kinds v = 1 ∷ 0 ∷ (fixed_bytes kinds v.fixed ++ little_bytes 2 (min (length v.named) 65535) ++ flat_map named_bytes v.named)
