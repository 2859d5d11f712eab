-- The tokens of a descriptor, which is a subset of XML: tag starts with known names, attributes, tag ends and comments.
-- Each is taken from the bytes at its first byte; None where no token stands there that a descriptor can have.
use Rattle.std.specs.Prelude.{ℕ, ◌+◌, Bool, true, ◌==◌, ◌&&◌, ◌||◌, List, [], ◌∷◌, length, take, drop, Option, Some, None, codes, bytes_eq, nat_le, if◌then◌else◌}
use Rattle.std.specs.List.{prefix_len}
use Rattle.std.specs.Option.{option_map, option_and_then}
use Rattle.std.specs.Str.{is_utf8}
use Rattle.descriptor_file.specs.declared.token.Element.{Element}
use Rattle.descriptor_file.specs.declared.token.Element.TheVariants as element
use Rattle.descriptor_file.specs.declared.token.Attribute.{Attribute}
use Rattle.descriptor_file.specs.declared.token.Attribute.TheVariants as attribute
use Rattle.descriptor_file.specs.declared.token.Token.TheVariants as token
use Rattle.descriptor_file.specs.declared.token.Piece.{Piece}
use Rattle.descriptor_file.specs.Values.{begins, quoted, text_of}

-- space, tab, line feed or carriage return (XML 1.0, 2.3)
abbrev pub is_space : ℕ → Bool
is_space b = b == 32 || b == 9 || b == 10 || b == 13

abbrev pub is_between : ℕ → ℕ → ℕ → Bool
is_between low high b = nat_le low b && nat_le b high

-- a byte that a name can have: a letter, a digit, `-`, `.`, `_`, `:`, or one of a character beyond ASCII
abbrev pub is_name_byte : ℕ → Bool
is_name_byte b = is_between 97 122 b || is_between 65 90 b || is_between 48 57 b || b == 45 || b == 46 || b == 95 || b == 58 || nat_le 128 b

-- how many bytes the name at the front has
abbrev pub name_length : List ℕ → ℕ
name_length bs = prefix_len is_name_byte bs

-- how much whitespace stands at the front
abbrev pub space_length : List ℕ → ℕ
space_length bs = prefix_len is_space bs

unfoldable pub element_named : List ℕ → Option Element
element_named name =
    if bytes_eq name (codes "linker") then Some element.Linker
    else if bytes_eq name (codes "assembly") then Some element.Assembly
    else if bytes_eq name (codes "type") then Some element.Type
    else if bytes_eq name (codes "method") then Some element.Method
    else if bytes_eq name (codes "field") then Some element.Field
    else if bytes_eq name (codes "property") then Some element.Property
    else if bytes_eq name (codes "event") then Some element.Event
    else None

unfoldable pub attribute_named : List ℕ → Option Attribute
attribute_named name =
    if bytes_eq name (codes "fullname") then Some attribute.FullName
    else if bytes_eq name (codes "preserve") then Some attribute.Preserve
    else if bytes_eq name (codes "required") then Some attribute.Required
    else if bytes_eq name (codes "name") then Some attribute.Name
    else if bytes_eq name (codes "signature") then Some attribute.Signature
    else None

-- the texts that an attribute can have
unfoldable pub suits : Attribute → List ℕ → Bool
suits attribute.Preserve text = bytes_eq text (codes "all") || bytes_eq text (codes "fields") || bytes_eq text (codes "methods") || bytes_eq text (codes "nothing")
suits attribute.Required text = bytes_eq text (codes "true") || bytes_eq text (codes "false")
suits _ text = true

-- ---- in content

-- the name of an element after so many bytes, and where it ends
unfoldable pub named_after : ℕ → List ℕ → Option (Element × ℕ)
named_after n bs = option_map (λ e. (e, n + name_length (drop n bs))) (element_named (take (name_length (drop n bs)) (drop n bs)))

-- the first place of a text
unfoldable pub place_of : List ℕ → List ℕ → Option ℕ
place_of text [] = None
place_of text (b ∷ bs) = if begins text (b ∷ bs) then Some 0 else option_map (λ n. n + 1) (place_of text bs)

-- A comment after its `<!--`: the first `--` ends it, with a `>` (XML 1.0, 2.5). How many bytes it takes from there on.
unfoldable pub comment_after : List ℕ → Option ℕ
comment_after bs =
    option_and_then (λ n. if begins (codes "-->") (drop n bs) && is_utf8 (take n bs) then Some (n + 3) else None) (place_of (codes "--") bs)

unfoldable pub content_token : List ℕ → Option Piece
content_token bs =
    if begins (codes "<!--") bs then option_map (λ n. record { token = token.Comment; size = n + 4 }) (comment_after (drop 4 bs))
    else if begins (codes "</") bs then option_map (λ x. record { token = token.Stop x.0; size = x.1 }) (named_after 2 bs)
    else if begins (codes "<") bs then option_map (λ x. record { token = token.Start x.0; size = x.1 }) (named_after 1 bs)
    else None

-- ---- in a tag

-- `=` with maybe whitespace around it: how many bytes
unfoldable pub equals : List ℕ → Option ℕ
equals bs =
    let n = space_length bs in
    if begins (codes "=") (drop n bs) then Some (n + 1 + space_length (drop (n + 1) bs)) else None

-- an attribute whose value has these bytes between its quotes, and what stands before the value takes so many bytes
unfoldable pub with_value : Attribute → ℕ → List ℕ → Option Piece
with_value a n raw =
    option_and_then (λ text. if suits a text then Some (record { token = token.Value a text; size = n + length raw + 2 }) else None) (text_of raw)

-- `NAME="VALUE"` or `NAME='VALUE'`
unfoldable pub attribute_token : List ℕ → Option Piece
attribute_token bs =
    let n = name_length bs in
    option_and_then (λ a. option_and_then (λ e. option_and_then (λ raw. with_value a (n + e) raw) (quoted (drop (n + e) bs))) (equals (drop n bs)))
    (attribute_named (take n bs))

-- an attribute stands after whitespace
unfoldable pub tag_token : Bool → List ℕ → Option Piece
tag_token spaced bs =
    if begins (codes "/>") bs then Some (record { token = token.EmptyEnd; size = 2 })
    else if begins (codes ">") bs then Some (record { token = token.End; size = 1 })
    else if spaced then attribute_token bs
    else None
