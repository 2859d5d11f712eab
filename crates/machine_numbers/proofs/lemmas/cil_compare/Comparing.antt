-- A test of the code is the test of the definition.
use Rattle.std.proofs.Common.{◌≡◌, ℤ, Bool, true, false, Option, Some, None, refl}
use Rattle.std.specs.Int.{Width}
use Rattle.il_base.specs.declared.cil_values.value.Value.{Value}
use Rattle.machine_numbers.specs.declared.cil_compare.test.Test.{Test}
use Rattle.machine_numbers.specs.declared.cil_compare.test.Test.TheVariants as asked
use Rattle.rules.specs.step_rules.Comparisons as rules
use Rattle.rules.specs.step_rules.Comparisons.{compares}
use Rattle.machine_numbers.specs.cil_compare.Tests.{test_by, order, holds, numbers_test, found_or}

pub compares_by : (t : Test) (w : Width) (a b : ℤ) → compares (test_by t) w a b ≡ holds t (order w a b)
unfolding compares
compares_by asked.Equal w a b = refl
compares_by asked.Unequal w a b = refl
compares_by asked.Less w a b = refl
compares_by asked.LessUnsigned w a b = refl
compares_by asked.Greater w a b = refl
compares_by asked.GreaterUnsigned w a b = refl
compares_by asked.GreaterUnsignedNumbers w a b = refl
compares_by asked.AtLeast w a b = refl
compares_by asked.AtLeastUnsigned w a b = refl
compares_by asked.AtMost w a b = refl
compares_by asked.AtMostUnsigned w a b = refl

pub either_by : (t : Test) (n : Option rules.Numbers) (c : Option rules.Compared) → rules.compares_either (test_by t) n c ≡ found_or (numbers_test t n) (rules.compares_compared (test_by t) c)
either_by t None c = refl
either_by t (Some n) c = refl

pub is_test : (t : Test) (a b : Value) → rules.test (test_by t) a b ≡ found_or (numbers_test t (rules.numbers a b)) (rules.compares_compared (test_by t) (rules.compared a b))
unfolding rules.test
is_test t a b = either_by t (rules.numbers a b) (rules.compared a b)
