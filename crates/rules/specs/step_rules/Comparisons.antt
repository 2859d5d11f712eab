-- Comparisons (III.1.5 table III.4, III.3.21 to III.3.26), for the instructions that give 0 or 1 and for the branches.
use Rattle.std.specs.Prelude.{nat_eq, nat_lt, ℤ, int_lt, Bool, true, false, not, ◌&&◌, Option, Some, None}
use Rattle.std.specs.Ordering.{int_eq}
use Rattle.std.specs.Cmp.Lexicographic.{pointwise}
use Rattle.std.specs.Int.{Width, w32, w64, cast_unsigned}
use Rattle.il_base.specs.world_model.Exprs.{same_expr}
use Rattle.il_base.specs.declared.cil_values.value.Value.{Value}
use Rattle.il_base.specs.declared.cil_values.value.Value.TheVariants as value
use Rattle.il_base.specs.declared.cil_values.path.Path.{Path}
use Rattle.il_base.specs.declared.cil_values.path.Root.{Root}
use Rattle.il_base.specs.declared.cil_values.path.Root.TheVariants as root

pub data Test : Type 0 where
  equal : Test
  unequal : Test
  less : Test
  less_unsigned : Test
  greater : Test
  -- `cgt.un`, which of references also asks whether the first isn't null
  greater_unsigned : Test
  -- `bgt.un`
  greater_unsigned_numbers : Test
  at_least : Test
  at_least_unsigned : Test
  at_most : Test
  at_most_unsigned : Test

-- ---- numbers

-- two numbers of one kind: their width, and how a number of the kind becomes a value
pub record Numbers : Type 0 where
  pub width : Width
  pub left : ℤ
  pub right : ℤ
  pub back : ℤ → Value

-- the lower and the upper operand (III.1.5 table III.2): an int32 beside a native integer is extended by its sign
unfoldable pub numbers : Value → Value → Option Numbers
numbers (value.I4 a) (value.I4 b) = Some (record { width = w32; left = a; right = b; back = λ n. value.I4 n })
numbers (value.I4 a) (value.Native b) = Some (record { width = w64; left = a; right = b; back = λ n. value.Native n })
numbers (value.Native a) (value.I4 b) = Some (record { width = w64; left = a; right = b; back = λ n. value.Native n })
numbers (value.Native a) (value.Native b) = Some (record { width = w64; left = a; right = b; back = λ n. value.Native n })
numbers (value.I8 a) (value.I8 b) = Some (record { width = w64; left = a; right = b; back = λ n. value.I8 n })
numbers _ _ = None

abbrev pub below_unsigned : Width → ℤ → ℤ → Bool
below_unsigned w a b = nat_lt (cast_unsigned w a) (cast_unsigned w b)

unfoldable pub compares : Test → Width → ℤ → ℤ → Bool
compares equal w a b = int_eq a b
compares unequal w a b = not (int_eq a b)
compares less w a b = int_lt a b
compares less_unsigned w a b = below_unsigned w a b
compares greater w a b = int_lt b a
compares greater_unsigned w a b = below_unsigned w b a
compares greater_unsigned_numbers w a b = below_unsigned w b a
compares at_least w a b = not (int_lt a b)
compares at_least_unsigned w a b = not (below_unsigned w a b)
compares at_most w a b = not (int_lt b a)
compares at_most_unsigned w a b = not (below_unsigned w b a)

-- ---- references and pointers

-- the comparison of two references or pointers
pub data Compared : Type 0 where
  -- whether they are the same, and whether the first is an object
  references : Bool → Bool → Compared
  pointers : Bool → Compared

abbrev pub same_root : Root → Root → Bool
same_root (root.Arg n k) (root.Arg m l) = nat_eq n m && nat_eq k l
same_root (root.Local n k) (root.Local m l) = nat_eq n m && nat_eq k l
same_root (root.Boxed a) (root.Boxed b) = nat_eq a b
same_root (root.Element a k) (root.Element b l) = nat_eq a b && nat_eq k l
same_root (root.Field a f) (root.Field b g) = nat_eq a b && nat_eq f.0 g.0
same_root (root.Static f e) (root.Static g d) = nat_eq f.0 g.0 && same_expr e d
same_root _ _ = false

-- two pointers are equal where they lead to one place; their types don't count
unfoldable pub same_place : Path → Path → Bool
same_place p o = same_root p.root o.root && pointwise nat_eq p.steps o.steps

unfoldable pub compared : Value → Value → Option Compared
compared value.Null value.Null = Some (references true false)
compared value.Null (value.Object b) = Some (references false false)
compared (value.Object a) value.Null = Some (references false true)
compared (value.Object a) (value.Object b) = Some (references (nat_eq a b) true)
compared (value.Pointer p) (value.Pointer o) = Some (pointers (same_place p o))
compared (value.Pointer p) value.Null = Some (pointers false)
compared value.Null (value.Pointer o) = Some (pointers false)
compared _ _ = None

abbrev pub compares_references : Test → Compared → Option Bool
compares_references equal (references same first) = Some same
compares_references unequal (references same first) = Some (not same)
compares_references greater_unsigned (references same first) = Some (first && not same)
compares_references equal (pointers same) = Some same
compares_references unequal (pointers same) = Some (not same)
compares_references _ _ = None

abbrev pub compares_compared : Test → Option Compared → Option Bool
compares_compared t None = None
compares_compared t (Some c) = compares_references t c

abbrev pub compares_either : Test → Option Numbers → Option Compared → Option Bool
compares_either t (Some n) c = Some (compares t n.width n.left n.right)
compares_either t None c = compares_compared t c

-- whether the test is true of the lower and the upper operand; None where their kinds don't allow it
unfoldable pub test : Test → Value → Value → Option Bool
test t a b = compares_either t (numbers a b) (compared a b)
