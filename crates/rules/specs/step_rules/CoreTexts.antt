-- Members of String, and Int32.Parse. Places and lengths count UTF-16 units.
use Rattle.std.specs.Prelude.{ℕ, ◌+◌, ◌-◌, ◌*◌, ◌==◌, nat_eq, nat_le, nat_lt, ℤ, pos, negsuc, neg_ℤ, List, [], ◌∷◌, ◌++◌, length, take, drop, slice_get, Bool, true, false, not, ◌&&◌, Option, Some, None, if◌then◌else◌}
use Rattle.std.specs.Cmp.Lexicographic.{pointwise}
use Rattle.std.specs.Option.{option_map, option_and_then}
use Rattle.std.specs.List.{position}
use Rattle.std.specs.Int.{w32}
use Rattle.il_base.specs.declared.core_table.names.CoreName.TheVariants.{ArgumentNullException, ArgumentOutOfRangeException, FormatException, IndexOutOfRangeException, OverflowException}
use Rattle.il_base.specs.declared.cil_values.value.Value.{Value}
use Rattle.il_base.specs.declared.cil_values.value.Value.TheVariants as value
use Rattle.rules.specs.step_rules.Queries.{Queries}
use Rattle.il_base.specs.declared.cil_values.state.State.{State}
use Rattle.rules.specs.step_rules.Next.{Next}
use Rattle.rules.specs.step_rules.Words.{stuck, given}
use Rattle.rules.specs.step_rules.Integers.{fits_signed}
use Rattle.rules.specs.step_rules.Objects.{units_of}
use Rattle.rules.specs.step_rules.Raising.{raise}
use Rattle.rules.specs.step_rules.CoreWords.{Gives, CoreForm, gives_value, gives_truth, gives_int, gives_text}

-- ---- arguments

-- a text, or null; None for another object
pub data TextOrNull : Type 0 where
  no_text : TextOrNull
  units : List ℕ → TextOrNull

abbrev pub as_units : Option (List ℕ) → Option TextOrNull
as_units None = None
as_units (Some us) = Some (units us)

abbrev pub text_or_null : State → Value → Option TextOrNull
text_or_null s value.Null = Some no_text
text_or_null s v = as_units (units_of s v)

abbrev pub same_units : List ℕ → List ℕ → Bool
same_units us vs = pointwise nat_eq us vs

-- ---- length and units

-- get_Length
unfoldable pub string_length_form : CoreForm
string_length_form q (this ∷ []) s give = given (units_of s this) s (λ us. gives_int (pos (length us)) s give)
string_length_form q _ s give = stuck s

-- get_Chars(int)
abbrev pub unit_or_raise : Queries → State → Gives → Option ℕ → Next
unit_or_raise q s give None = raise q IndexOutOfRangeException s
unit_or_raise q s give (Some u) = gives_int (pos u) s give

abbrev pub unit_at : List ℕ → ℤ → Option ℕ
unit_at us (pos k) = slice_get us k
unit_at us (negsuc k) = None

abbrev pub unit_of : Queries → State → Gives → List ℕ → Value → Next
unit_of q s give us (value.I4 k) = unit_or_raise q s give (unit_at us k)
unit_of q s give us _ = stuck s

unfoldable pub string_unit_form : CoreForm
string_unit_form q (this ∷ k ∷ []) s give = given (units_of s this) s (λ us. unit_of q s give us k)
string_unit_form q _ s give = stuck s

-- IndexOf(char): the first place, or -1
abbrev pub place_or_minus_one : Option ℕ → ℤ
place_or_minus_one None = negsuc 0
place_or_minus_one (Some k) = pos k

abbrev pub is_unit : ℤ → ℕ → Bool
is_unit (pos c) u = nat_eq u c
is_unit (negsuc c) u = false

abbrev pub index_of : State → Gives → List ℕ → Value → Next
index_of s give us (value.I4 c) = gives_int (place_or_minus_one (position (is_unit c) us)) s give
index_of s give us _ = stuck s

unfoldable pub string_index_form : CoreForm
string_index_form q (this ∷ c ∷ []) s give = given (units_of s this) s (λ us. index_of s give us c)
string_index_form q _ s give = stuck s

-- ---- new texts

abbrev pub all_units : State → List Value → Option (List ℕ)
all_units s [] = Some []
all_units s (value.Null ∷ vs) = all_units s vs
all_units s (v ∷ vs) = option_and_then (λ us. option_map (λ more. us ++ more) (all_units s vs)) (units_of s v)

-- Concat: null is the empty text
unfoldable pub string_concat_form : CoreForm
string_concat_form q vs s give = given (all_units s vs) s (λ us. gives_text us s give)

-- the units from a place on, so many of them; None where they don't lie within the text
abbrev pub part_if : List ℕ → ℕ → ℕ → Option (List ℕ)
part_if us start count = if nat_le (start + count) (length us) then Some (take count (drop start us)) else None

abbrev pub part_of : List ℕ → ℤ → ℤ → Option (List ℕ)
part_of us (pos start) (pos count) = part_if us start count
part_of us _ _ = None

abbrev pub rest_of : List ℕ → ℤ → Option (List ℕ)
rest_of us (pos start) = if nat_le start (length us) then Some (drop start us) else None
rest_of us (negsuc start) = None

abbrev pub text_or_raise : Queries → State → Gives → Option (List ℕ) → Next
text_or_raise q s give None = raise q ArgumentOutOfRangeException s
text_or_raise q s give (Some us) = gives_text us s give

abbrev pub from_place : Queries → State → Gives → List ℕ → Value → Next
from_place q s give us (value.I4 start) = text_or_raise q s give (rest_of us start)
from_place q s give us _ = stuck s

-- Substring(int)
unfoldable pub string_from_form : CoreForm
string_from_form q (this ∷ start ∷ []) s give = given (units_of s this) s (λ us. from_place q s give us start)
string_from_form q _ s give = stuck s

abbrev pub part_at : Queries → State → Gives → List ℕ → Value → Value → Next
part_at q s give us (value.I4 start) (value.I4 count) = text_or_raise q s give (part_of us start count)
part_at q s give us _ _ = stuck s

-- Substring(int, int)
unfoldable pub string_part_form : CoreForm
string_part_form q (this ∷ start ∷ count ∷ []) s give = given (units_of s this) s (λ us. part_at q s give us start count)
string_part_form q _ s give = stuck s

-- ToString(): itself
unfoldable pub string_itself_form : CoreForm
string_itself_form q (this ∷ []) s give = gives_value this s give
string_itself_form q _ s give = stuck s

-- ---- comparisons

abbrev pub are_same : TextOrNull → TextOrNull → Bool
are_same no_text no_text = true
are_same (units us) (units vs) = same_units us vs
are_same _ _ = false

abbrev pub compared_texts : State → Value → Value → (TextOrNull → TextOrNull → Next) → Next
compared_texts s v w f = given (text_or_null s v) s (λ x. given (text_or_null s w) s (f x))

-- op_Equality, Equals(string)
unfoldable pub string_same_form : CoreForm
string_same_form q (v ∷ w ∷ []) s give = compared_texts s v w (λ x y. gives_truth (are_same x y) s give)
string_same_form q _ s give = stuck s

-- op_Inequality
unfoldable pub string_other_form : CoreForm
string_other_form q (v ∷ w ∷ []) s give = compared_texts s v w (λ x y. gives_truth (not (are_same x y)) s give)
string_other_form q _ s give = stuck s

abbrev pub has_units : List ℕ → Option (List ℕ) → Bool
has_units us None = false
has_units us (Some vs) = same_units us vs

-- Equals(object): a string of the same units
unfoldable pub string_is_form : CoreForm
string_is_form q (this ∷ w ∷ []) s give = given (units_of s this) s (λ us. gives_truth (has_units us (units_of s w)) s give)
string_is_form q _ s give = stuck s

abbrev pub is_empty_text : TextOrNull → Bool
is_empty_text no_text = true
is_empty_text (units []) = true
is_empty_text (units (u ∷ us)) = false

-- IsNullOrEmpty
unfoldable pub string_is_empty_form : CoreForm
string_is_empty_form q (v ∷ []) s give = given (text_or_null s v) s (λ x. gives_truth (is_empty_text x) s give)
string_is_empty_form q _ s give = stuck s

-- CompareOrdinal: by units, -1, 0 or 1; null is less than any text
abbrev pub unit_order : ℕ → ℕ → ℤ → ℤ
unit_order u v rest = if nat_lt u v then negsuc 0 else if nat_lt v u then pos 1 else rest

unfoldable pub units_order : List ℕ → List ℕ → ℤ
units_order [] [] = pos 0
units_order [] (v ∷ vs) = negsuc 0
units_order (u ∷ us) [] = pos 1
units_order (u ∷ us) (v ∷ vs) = unit_order u v (units_order us vs)

abbrev pub text_order : TextOrNull → TextOrNull → ℤ
text_order no_text no_text = pos 0
text_order no_text (units vs) = negsuc 0
text_order (units us) no_text = pos 1
text_order (units us) (units vs) = units_order us vs

unfoldable pub string_compare_form : CoreForm
string_compare_form q (v ∷ w ∷ []) s give = compared_texts s v w (λ x y. gives_int (text_order x y) s give)
string_compare_form q _ s give = stuck s

-- ---- Int32.Parse

abbrev pub digit_of : ℕ → Option ℕ
digit_of u = if nat_le 48 u && nat_le u 57 then Some (u - 48) else None

unfoldable pub digits_from : ℕ → List ℕ → Option ℕ
digits_from n [] = Some n
digits_from n (u ∷ us) = option_and_then (λ d. digits_from (n * 10 + d) us) (digit_of u)

-- one or more ASCII digits
abbrev pub digits : List ℕ → Option ℕ
digits [] = None
digits (u ∷ us) = digits_from 0 (u ∷ us)

-- one optional sign before them
unfoldable pub parsed : List ℕ → Option ℤ
parsed [] = None
parsed (u ∷ us) =
    if u == 45 then option_map (λ n. neg_ℤ (pos n)) (digits us)
    else if u == 43 then option_map (λ n. pos n) (digits us)
    else option_map (λ n. pos n) (digits (u ∷ us))

abbrev pub int_or_raise : Queries → State → Gives → Option ℤ → Next
int_or_raise q s give None = raise q FormatException s
int_or_raise q s give (Some n) = if fits_signed w32 n then gives_int n s give else raise q OverflowException s

abbrev pub parse_text : Queries → State → Gives → TextOrNull → Next
parse_text q s give no_text = raise q ArgumentNullException s
parse_text q s give (units us) = int_or_raise q s give (parsed us)

unfoldable pub int_parse_form : CoreForm
int_parse_form q (v ∷ []) s give = given (text_or_null s v) s (parse_text q s give)
int_parse_form q _ s give = stuck s
