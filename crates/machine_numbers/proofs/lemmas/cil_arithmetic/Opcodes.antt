-- Opcodes that are none of some others.
use Rattle.std.proofs.Common.{◌≡◌, ◌≢◌, ℕ, ◌==◌, ℤ, Bool, false, refl, arith}
use Rattle.std.specs.Int.{Width}
use Rattle.std.proofs.lemmas.Bool.Decides.{nat_tests}
use Rattle.il_base.specs.declared.opcode.TheConstants.{ADD, SUB, MUL, DIV, DIV_UN, REM, REM_UN, AND, OR, XOR}
use Rattle.rules.specs.step_rules.Numbers.{arithmetic}
use Rattle.machine_numbers.specs.cil_arithmetic.Answers.{checked}

other : (n m : ℕ) → n ≢ m → (n == m) ≡ false
other n m h = grind (arith, nat_tests)

pub plain_none : (code : ℕ) (w : Width) (a b : ℤ) → code ≢ ADD → code ≢ SUB → code ≢ MUL → code ≢ DIV → code ≢ DIV_UN → code ≢ REM → code ≢ REM_UN → code ≢ AND → code ≢ OR → code ≢ XOR → arithmetic code w a b ≡ checked code w a b
unfolding arithmetic
plain_none code w a b h0 h1 h2 h3 h4 h5 h6 h7 h8 h9 =
    rw (other _ _ h0, other _ _ h1, other _ _ h2, other _ _ h3, other _ _ h4, other _ _ h5, other _ _ h6, other _ _ h7, other _ _ h8, other _ _ h9) refl
