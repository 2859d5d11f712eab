-- What a comparison of two operands computes with, opened by one name.
use Rattle.rules.specs.step_rules.Comparisons as Comparisons

unfoldable pub compared : Unit {0}
unfolding Comparisons.test Comparisons.numbers Comparisons.compares
compared = tt
