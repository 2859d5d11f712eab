-- How many bytes an integer type has.
use Rattle.std.proofs.Common.{ℕ, ◌≤◌, Bool, true, false, cond, arith}
use Rattle.rules.specs.step_rules.Integers.{width_of}

low_of : (a b c : Bool) → 1 ≤ cond a 1 (cond b 2 (cond c 8 4))
low_of true b c = omega arith
low_of false true c = omega arith
low_of false false true = omega arith
low_of false false false = omega arith

high_of : (a b c : Bool) → cond a 1 (cond b 2 (cond c 8 4)) ≤ 8
high_of true b c = omega arith
high_of false true c = omega arith
high_of false false true = omega arith
high_of false false false = omega arith

pub width_low : (code : ℕ) → 1 ≤ width_of code
unfolding width_of
width_low code = low_of _ _ _

pub width_high : (code : ℕ) → width_of code ≤ 8
unfolding width_of
width_high code = high_of _ _ _
