-- Members of Object, of the numbers, and of exceptions.
use Rattle.std.specs.Prelude.{ℕ, ◌==◌, nat_eq, ℤ, pos, negsuc, List, [], ◌∷◌, codes, Bool, true, false, ◌&&◌, Option, Some, None, int_lt, if◌then◌else◌}
use Rattle.std.specs.Fmt.{decimal, signed_decimal}
use Rattle.std.specs.Int.{w32, w64, cast_unsigned}
use Rattle.std.specs.Ordering.{int_eq}
use Rattle.std.specs.Option.{option_and_then}
use Rattle.il_base.specs.declared.element.TheConstants as element
use Rattle.il_base.specs.declared.world_model.expr.TypeExpr as expr
use Rattle.il_base.specs.world_model.Exprs.{same_expr}
use Rattle.il_base.specs.declared.core_table.names.CoreName.{CoreName}
use Rattle.il_base.specs.declared.cil_values.value.Value.{Value}
use Rattle.il_base.specs.declared.cil_values.value.Value.TheVariants as value
use Rattle.il_base.specs.declared.cil_values.object.Obj.{Obj}
use Rattle.il_base.specs.declared.cil_values.object.Obj.TheVariants as object
use Rattle.il_base.specs.declared.cil_values.layout.Cell.{Cell}
use Rattle.il_base.specs.declared.cil_values.layout.Cell.TheVariants.{Message as message, Inner as inner}
use Rattle.rules.specs.step_rules.Queries.{Queries}
use Rattle.il_base.specs.declared.cil_values.state.State.{State}
use Rattle.rules.specs.step_rules.Next.{Next}
use Rattle.rules.specs.step_rules.Words.{stuck, stopped, given, object_at}
use Rattle.rules.specs.step_rules.Integers.{held_number}
use Rattle.rules.specs.step_rules.Places.{cell_in, put_cell_in, with_object}
use Rattle.rules.specs.step_rules.Objects.{type_of, units_of, units_of_bytes, made_text, default_message, parameter_message}
use Rattle.rules.specs.step_rules.CoreWords.{Gives, CoreForm, gives_nothing, gives_value, gives_truth, gives_int, gives_text}

-- ---- Object

-- ends the run
unfoldable pub halt : CoreForm
halt q args s give = stopped s

unfoldable pub idle_form : CoreForm
idle_form q args s give = gives_nothing s give

-- Object.ToString(): the text of the object's type
abbrev pub named : Queries → State → Gives → Value → Next
named q s give (value.Object a) = given (object_at s a) s (λ o. gives_text (units_of_bytes (q.text (type_of q o))) s give)
named q s give _ = stuck s

unfoldable pub type_name_form : CoreForm
type_name_form q (v ∷ []) s give = named q s give v
type_name_form q _ s give = stuck s

abbrev pub is_same : Value → Value → Option Bool
is_same value.Null value.Null = Some true
is_same value.Null (value.Object b) = Some false
is_same (value.Object a) value.Null = Some false
is_same (value.Object a) (value.Object b) = Some (nat_eq a b)
is_same _ _ = None

-- Object.Equals(object), Object.ReferenceEquals(object, object): the same object, or both null
unfoldable pub same_form : CoreForm
same_form q (v ∷ w ∷ []) s give = given (is_same v w) s (λ b. gives_truth b s give)
same_form q _ s give = stuck s

-- ---- numbers

abbrev pub truth_text : ℤ → List ℕ
truth_text n = if int_eq n (pos 0) then codes "False" else codes "True"

-- the digits of an unsigned type's number, whose cells hold it as a signed one
abbrev pub unsigned_text : ℕ → ℤ → List ℕ
unsigned_text code n =
    if code == element.U4 then decimal (cast_unsigned w32 n) else if code == element.U8 then decimal (cast_unsigned w64 n) else signed_decimal n

-- ToString(): `True` or `False`, the character, or decimal digits with `-` before a negative number
unfoldable pub text_of_number : ℕ → ℤ → List ℕ
text_of_number code n =
    if code == element.BOOLEAN then truth_text n
    else if code == element.CHAR then cast_unsigned w32 n ∷ []
    else unsigned_text code n

unfoldable pub number_text_form : ℕ → CoreForm
number_text_form code q (v ∷ []) s give = given (held_number v) s (λ n. gives_text (text_of_number code n) s give)
number_text_form code q _ s give = stuck s

abbrev pub same_number : Option ℤ → Option ℤ → Bool
same_number (Some a) (Some b) = int_eq a b
same_number _ _ = false

-- Equals(object): a box of the same type with the same number
abbrev pub is_boxed_number : ℕ → Value → Option Obj → Bool
is_boxed_number code v (Some (object.Boxed of w)) = same_expr of (expr.Prim code) && same_number (held_number v) (held_number w)
is_boxed_number code v _ = false

abbrev pub is_number : ℕ → State → Value → Value → Bool
is_number code s v (value.Object a) = is_boxed_number code v (object_at s a)
is_number code s v _ = false

unfoldable pub number_is_form : ℕ → CoreForm
number_is_form code q (v ∷ w ∷ []) s give = gives_truth (is_number code s v w) s give
number_is_form code q _ s give = stuck s

-- Int32.Equals(int)
abbrev pub ints_equal : State → Gives → Value → Value → Next
ints_equal s give (value.I4 a) (value.I4 b) = gives_truth (int_eq a b) s give
ints_equal s give _ _ = stuck s

unfoldable pub int_equals_form : CoreForm
int_equals_form q (v ∷ w ∷ []) s give = ints_equal s give v w
int_equals_form q _ s give = stuck s

-- Int32.CompareTo(int): -1, 0 or 1
abbrev pub order_of : ℤ → ℤ → ℤ
order_of a b = if int_lt a b then negsuc 0 else if int_eq a b then pos 0 else pos 1

abbrev pub ints_compared : State → Gives → Value → Value → Next
ints_compared s give (value.I4 a) (value.I4 b) = gives_int (order_of a b) s give
ints_compared s give _ _ = stuck s

unfoldable pub int_compare_form : CoreForm
int_compare_form q (v ∷ w ∷ []) s give = ints_compared s give v w
int_compare_form q _ s give = stuck s

-- ---- exceptions

-- a cell of the object that a value names; one that isn't there is stuck
abbrev pub cell_at : Queries → State → Cell → Value → Option Value
cell_at q s c (value.Object a) = option_and_then (cell_in q c) (object_at s a)
cell_at q s c _ = None

abbrev pub put_cell : Queries → State → Cell → Value → Value → Option State
put_cell q s c v (value.Object a) = with_object s a (option_and_then (put_cell_in q c v) (object_at s a))
put_cell q s c v _ = None

-- .ctor(string): stores its argument as the message
unfoldable pub exception_text_form : CoreForm
exception_text_form q (this ∷ v ∷ []) s give = given (put_cell q s message v this) s (λ t. gives_nothing t give)
exception_text_form q _ s give = stuck s

-- .ctor(string, Exception)
unfoldable pub exception_inner_form : CoreForm
exception_inner_form q (this ∷ v ∷ w ∷ []) s give =
    given (put_cell q s message v this) s (λ t. given (put_cell q t inner w this) t (λ u. gives_nothing u give))
exception_inner_form q _ s give = stuck s

-- .ctor(string) of ArgumentNullException and ArgumentOutOfRangeException takes a parameter's name; null counts as the empty name
abbrev pub name_units : State → Value → Option (List ℕ)
name_units s value.Null = Some []
name_units s v = units_of s v

abbrev pub stored_text : Queries → Value → Gives → ℕ → State → Next
stored_text q this give a s = given (put_cell q s message (value.Object a) this) s (λ t. gives_nothing t give)

unfoldable pub exception_parameter_form : CoreName → CoreForm
exception_parameter_form n q (this ∷ v ∷ []) s give =
    given (name_units s v) s (λ units. made_text (parameter_message n units) s (stored_text q this give))
exception_parameter_form n q _ s give = stuck s

-- get_Message: the stored message, or where this is null a new text
abbrev pub told_message : Queries → Obj → State → Gives → Value → Next
told_message q o s give (value.Object m) = gives_value (value.Object m) s give
told_message q o s give value.Null = gives_text (default_message q (type_of q o)) s give
told_message q o s give _ = stuck s

abbrev pub message_in : Queries → State → Gives → Value → Next
message_in q s give (value.Object a) = given (object_at s a) s (λ o. given (cell_in q message o) s (told_message q o s give))
message_in q s give _ = stuck s

unfoldable pub get_message_form : CoreForm
get_message_form q (this ∷ []) s give = message_in q s give this
get_message_form q _ s give = stuck s

-- get_InnerException
unfoldable pub get_inner_form : CoreForm
get_inner_form q (this ∷ []) s give = given (cell_at q s inner this) s (λ v. gives_value v s give)
get_inner_form q _ s give = stuck s
