-- Type names in texts: `Outer+Inner, Assembly, and what else stands after`.
use Rattle.std.specs.Prelude.{ℕ, Bool, true, false, not, ◌&&◌, ◌||◌, ◌==◌, List, [], ◌∷◌, ◌++◌, Option, Some, None, if◌then◌else◌, encode_utf8}
use Rattle.std.specs.Option.{option_map}
use Rattle.std.specs.List.{list_any}
use Rattle.std.specs.Char.Utf16.{utf16_chars, is_high_surrogate, is_low_surrogate}
use Rattle.attr_blobs.specs.declared.name.NameRead.{NameRead}
use Rattle.attr_blobs.specs.declared.name.NameRead.TheVariants.{Name, Other, Malformed}
use Rattle.attr_blobs.specs.declared.mark.Mark.{Mark}

-- A character of a text, None for a lone surrogate, with whether a `\` before it takes it as itself. Such a `\` is no
-- mark of its own. The mark of a `\` that stands alone at the end is left.
abbrev pub mark : Option ℕ → Bool → Mark
mark letter taken = record { letter = letter; taken = taken }

abbrev pub is_letter : ℕ → Option ℕ → Bool
is_letter code None = false
is_letter code (Some c) = c == code

-- a `\` with a character after it
abbrev pub begins_taken : List (Option ℕ) → Bool
begins_taken [] = false
begins_taken (c ∷ []) = false
begins_taken (c ∷ d ∷ cs) = is_letter 92 c

unfoldable pub marks : List (Option ℕ) → List Mark
marks [] = []
marks (c ∷ []) = mark c false ∷ []
marks (c ∷ d ∷ cs) = if is_letter 92 c then mark d true ∷ marks cs else mark c false ∷ marks (d ∷ cs)

-- the character as a sign of its own, not taken as itself
abbrev pub is_sign : ℕ → Mark → Bool
is_sign code m = not m.taken && is_letter code m.letter

abbrev pub cut_by : Bool → Mark → List Mark → List Mark × Option (List Mark) → List Mark × Option (List Mark)
cut_by true m ms rest = ([], Some ms)
cut_by false m ms rest = (m ∷ rest.0, rest.1)

-- what stands before the first sign of this kind, and what after it, if there is one
unfoldable pub cut : ℕ → List Mark → List Mark × Option (List Mark)
cut code [] = ([], None)
cut code (m ∷ ms) = cut_by (is_sign code m) m ms (cut code ms)

-- the first part with one mark more
abbrev pub longer : Mark → List (List Mark) → List (List Mark)
longer m [] = (m ∷ []) ∷ []
longer m (p ∷ ps) = (m ∷ p) ∷ ps

-- the parts between `+` signs, at least one
unfoldable pub parts : List Mark → List (List Mark)
parts [] = [] ∷ []
parts (m ∷ ms) = if is_sign 43 m then [] ∷ parts ms else longer m (parts ms)

-- the character of a mark: a lone surrogate is none, nor is a `\` at the end
abbrev pub letter_of : Mark → Option ℕ
letter_of m = if is_sign 92 m then None else m.letter

abbrev pub in_front : Option ℕ → Option (List ℕ) → Option (List ℕ)
in_front None text = None
in_front (Some c) None = None
in_front (Some c) (Some text) = Some (encode_utf8 c ++ text)

-- the text of marks in UTF-8
unfoldable pub text_of : List Mark → Option (List ℕ)
text_of [] = Some []
text_of (m ∷ ms) = in_front (letter_of m) (text_of ms)

-- no part is empty
abbrev pub filled : Option (List ℕ) → Option (List ℕ)
filled None = None
filled (Some []) = None
filled (Some (b ∷ bs)) = Some (b ∷ bs)

abbrev pub with_text : Option (List ℕ) → Option (List (List ℕ)) → Option (List (List ℕ))
with_text None texts = None
with_text (Some t) None = None
with_text (Some t) (Some ts) = Some (t ∷ ts)

unfoldable pub texts_of : List (List Mark) → Option (List (List ℕ))
texts_of [] = Some []
texts_of (p ∷ ps) = with_text (filled (text_of p)) (texts_of ps)

-- space or tab
abbrev pub is_blank : Mark → Bool
is_blank m = is_sign 32 m || is_sign 9 m

unfoldable pub without_front : List Mark → List Mark
without_front [] = []
without_front (m ∷ ms) = if is_blank m then without_front ms else m ∷ ms

abbrev pub unless_blank : Mark → List Mark → List Mark
unless_blank m [] = if is_blank m then [] else m ∷ []
unless_blank m (n ∷ ns) = m ∷ n ∷ ns

unfoldable pub without_end : List Mark → List Mark
without_end [] = []
without_end (m ∷ ms) = unless_blank m (without_end ms)

-- the assembly's name after the first comma, up to the next one, without the blanks at its ends
abbrev pub assembly_of : Option (List Mark) → Option (Option (List ℕ))
assembly_of None = Some None
assembly_of (Some ms) = option_map (λ t. Some t) (filled (text_of (without_end (without_front (cut 44 ms).0))))

abbrev pub named : Option (List (List ℕ)) → Option (Option (List ℕ)) → NameRead
named None asm = Malformed
named (Some path) None = Malformed
named (Some path) (Some asm) = Name (record { path = path; asm = asm })

-- `[`, `*` and `&` belong to arrays, pointers, references and constructed types
abbrev pub opens_other : Mark → Bool
opens_other m = is_sign 91 m || is_sign 42 m || is_sign 38 m

abbrev pub name_by : List Mark × Option (List Mark) → NameRead
name_by x = if list_any opens_other x.0 then Other else named (texts_of (parts x.0)) (assembly_of x.1)

-- what a text of these characters names
abbrev pub name_of : List (Option ℕ) → NameRead
name_of letters = name_by (cut 44 (marks letters))

-- two units of one character
abbrev pub begins_pair : List ℕ → Bool
begins_pair [] = false
begins_pair (u ∷ []) = false
begins_pair (u ∷ v ∷ us) = is_high_surrogate u && is_low_surrogate v

-- what a text in UTF-16 names
abbrev pub name_of_units : List ℕ → NameRead
name_of_units units = name_of (utf16_chars units)
