-- Comparisons as the code has them.
use Rattle.std.specs.Prelude.{ℤ, int_lt, Bool, not, Option, Some, None}
use Rattle.std.specs.Ordering.{int_eq}
use Rattle.std.specs.Int.{Width}
use Rattle.machine_numbers.specs.declared.cil_compare.test.Test.{Test}
use Rattle.machine_numbers.specs.declared.cil_compare.test.Test.TheVariants as asked
use Rattle.machine_numbers.specs.declared.cil_compare.test.Order.{Order}
use Rattle.machine_numbers.specs.declared.cil_compare.places.Relation.{Relation}
use Rattle.machine_numbers.specs.declared.cil_compare.places.Relation.TheVariants as found
use Rattle.rules.specs.step_rules.Comparisons as rules
use Rattle.rules.specs.step_rules.Comparisons.{below_unsigned}

-- the test that a test of the code is
abbrev pub test_by : Test → rules.Test
test_by asked.Equal = rules.equal
test_by asked.Unequal = rules.unequal
test_by asked.Less = rules.less
test_by asked.LessUnsigned = rules.less_unsigned
test_by asked.Greater = rules.greater
test_by asked.GreaterUnsigned = rules.greater_unsigned
test_by asked.GreaterUnsignedNumbers = rules.greater_unsigned_numbers
test_by asked.AtLeast = rules.at_least
test_by asked.AtLeastUnsigned = rules.at_least_unsigned
test_by asked.AtMost = rules.at_most
test_by asked.AtMostUnsigned = rules.at_most_unsigned

-- how two numbers of a width compare
abbrev pub order : Width → ℤ → ℤ → Order
order w a b =
    record { equal = int_eq a b; less = int_lt a b; greater = int_lt b a; below = below_unsigned w a b; above = below_unsigned w b a }

abbrev pub holds : Test → Order → Bool
holds asked.Equal o = o.equal
holds asked.Unequal o = not o.equal
holds asked.Less o = o.less
holds asked.LessUnsigned o = o.below
holds asked.Greater o = o.greater
holds asked.GreaterUnsigned o = o.above
holds asked.GreaterUnsignedNumbers o = o.above
holds asked.AtLeast o = not o.less
holds asked.AtLeastUnsigned o = not o.below
holds asked.AtMost o = not o.greater
holds asked.AtMostUnsigned o = not o.above

abbrev pub compared_by : Relation → rules.Compared
compared_by (found.References same first) = rules.references same first
compared_by (found.Pointers same) = rules.pointers same

-- a test of two numbers, where the values are two numbers of one kind
abbrev pub numbers_test : Test → Option rules.Numbers → Option Bool
numbers_test t None = None
numbers_test t (Some n) = Some (rules.compares (test_by t) n.width n.left n.right)

-- a test, by what two values are to each other
abbrev pub found_or : Option Bool → Option Bool → Option Bool
found_or None other = other
found_or (Some b) other = Some b
