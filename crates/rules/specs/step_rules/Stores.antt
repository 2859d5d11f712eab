-- How a slot or cell keeps a value (III.1.6), and what it holds at first (III.1.1.5).
use Rattle.std.specs.Prelude.{ℕ, pos, List, [], ◌∷◌, map, Bool, true, false, Option, Some, None, if◌then◌else◌}
use Rattle.il_base.specs.declared.world_model.expr.TypeExpr.{TypeExpr}
use Rattle.il_base.specs.world_model.Exprs.{same_expr}
use Rattle.il_base.specs.declared.cil_values.value.Value.{Value, out-Value}
use Rattle.il_base.specs.declared.cil_values.value.Value.TheOpen.{Value-F}
use Rattle.il_base.specs.declared.cil_values.value.Value.TheVariants as value
use Rattle.il_base.specs.declared.cil_values.layout.Layout.{Layout}
use Rattle.il_base.specs.declared.cil_values.layout.Shape.{Shape}
use Rattle.il_base.specs.declared.cil_values.layout.Shape.TheVariants.{Reference as reference, Pointer as pointer, Integer as integer, TypeHandle as type_handle, FieldHandle as field_handle, Structure as structure, NoValue as no_value}
use Rattle.rules.specs.step_rules.Queries.{Queries}
use Rattle.rules.specs.step_rules.Closing.{front}
use Rattle.rules.specs.step_rules.Integers.{number, narrowed, shown, same_width}

-- ---- what fits

abbrev pub fits_reference : Value → Option Value
fits_reference value.Null = Some value.Null
fits_reference (value.Object a) = Some (value.Object a)
fits_reference _ = None

abbrev pub fits_pointer : Value → Option Value
fits_pointer value.Null = Some value.Null
fits_pointer (value.Pointer p) = Some (value.Pointer p)
fits_pointer _ = None

-- a struct, by its type and its cells
pub record Parts : Type 0 where
  pub of : TypeExpr
  pub cells : List Value

abbrev pub parts_in : Value-F Value → Option Parts
parts_in (Value-F.Struct of cells) = Some (record { of = of; cells = cells })
parts_in _ = None

unfoldable pub parts_of : Value → Option Parts
parts_of v = parts_in (out-Value v)

abbrev pub is_struct_of : TypeExpr → Option Parts → Bool
is_struct_of e None = false
is_struct_of e (Some p) = same_expr p.of e

-- a struct fits its own type alone
abbrev pub fits_struct : TypeExpr → Value → Option Value
fits_struct e v = if is_struct_of e (parts_of v) then Some v else None

abbrev pub fits_handle : TypeExpr → Value → Option Value
fits_handle e (value.Handle t) = Some (value.Handle t)
fits_handle e v = fits_struct e v

abbrev pub fits_field_handle : TypeExpr → Value → Option Value
fits_field_handle e (value.FieldHandle f) = Some (value.FieldHandle f)
fits_field_handle e v = fits_struct e v

abbrev pub fits_shape : TypeExpr → Shape → Value → Option Value
fits_shape e reference v = fits_reference v
fits_shape e pointer v = fits_pointer v
fits_shape e (integer code) v = narrowed code v
fits_shape e type_handle v = fits_handle e v
fits_shape e field_handle v = fits_field_handle e v
fits_shape e (structure cells) v = fits_struct e v
fits_shape e no_value v = None

-- the value as a place of a closed type keeps it, or None where the kinds don't match; types of objects aren't compared
unfoldable pub fits : Queries → TypeExpr → Value → Option Value
fits q e v = fits_shape e (q.shape e) v

-- each value as its slot keeps it: one for each
unfoldable pub all_fit : Queries → List TypeExpr → List Value → Option (List Value)
all_fit q [] [] = Some []
all_fit q [] (v ∷ vs) = None
all_fit q (e ∷ es) [] = None
all_fit q (e ∷ es) (v ∷ vs) = front (fits q e v) (all_fit q es vs)

-- ---- at first

abbrev pub zeros_of : List Layout → List Value
zeros_of cells = map (λ c. c.zero) cells

abbrev pub zero_shape : TypeExpr → Shape → Option Value
zero_shape e reference = Some value.Null
zero_shape e pointer = Some value.Null
zero_shape e (integer code) = Some (number code (pos 0))
zero_shape e type_handle = Some (value.Struct e [])
zero_shape e field_handle = Some (value.Struct e [])
zero_shape e (structure cells) = Some (value.Struct e (zeros_of cells))
zero_shape e no_value = None

-- the zero value of a type: zero, null, or a struct of these
unfoldable pub zero_of : Queries → TypeExpr → Option Value
zero_of q e = zero_shape e (q.shape e)

-- ---- kinds of types

abbrev pub is_reference_shape : Shape → Bool
is_reference_shape reference = true
is_reference_shape _ = false

-- whether a type is a class, an interface or an array
unfoldable pub is_reference : Queries → TypeExpr → Bool
is_reference q e = is_reference_shape (q.shape e)

-- whether a shape is a value type's, also where the type has no zero value
abbrev pub is_value_shape : Shape → Bool
is_value_shape reference = false
is_value_shape pointer = false
is_value_shape _ = true

unfoldable pub is_value : Queries → TypeExpr → Bool
is_value q e = is_value_shape (q.shape e)

-- ---- accesses to elements, and through pointers: which places an instruction takes (III.4.8, III.4.27, III.3.42, III.3.62)

pub data Access : Type 0 where
  -- an integer type: every integer, Boolean, Char or enum of its width
  by_code : ℕ → Access
  -- every reference type
  by_reference : Access
  -- this type alone
  by_type : TypeExpr → Access

abbrev pub access_shape : TypeExpr → Shape → Access
access_shape e (integer code) = by_code code
access_shape e _ = by_type e

-- the access of an instruction with this type
unfoldable pub access_of : Queries → TypeExpr → Access
access_of q e = access_shape e (q.shape e)

abbrev pub element_shape : TypeExpr → Shape → Access
element_shape e reference = by_reference
element_shape e shape = access_shape e shape

-- the access of an element instruction with this type: with a reference type it takes any array of references
unfoldable pub element_access : Queries → TypeExpr → Access
element_access q e = element_shape e (q.shape e)

abbrev pub allows_shape : Access → TypeExpr → Shape → Bool
allows_shape (by_code a) place (integer b) = same_width a b
allows_shape (by_code a) place _ = false
allows_shape by_reference place shape = is_reference_shape shape
allows_shape (by_type e) place shape = same_expr e place

-- whether an access takes a place of a type
unfoldable pub allows : Queries → Access → TypeExpr → Bool
allows q access place = allows_shape access place (q.shape place)

-- the value of a place as an access that takes it loads it
unfoldable pub loaded : Access → Value → Option Value
loaded (by_code code) v = shown code v
loaded by_reference v = Some v
loaded (by_type e) v = Some v

abbrev pub as_place : Shape → Option Value → Option Value
as_place (integer code) (Some v) = shown code v
as_place _ v = v

-- a value as a store by an access leaves it in a place that it takes
unfoldable pub stored : Queries → Access → TypeExpr → Value → Option Value
stored q (by_code code) place v = as_place (q.shape place) (narrowed code v)
stored q by_reference place v = fits_reference v
stored q (by_type e) place v = fits q e v
