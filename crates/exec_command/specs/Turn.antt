-- One read of the input.
use Rattle.std.specs.Prelude.{◌≡◌, ◌≤◌, ◌+◌, ◌++◌, ℕ, List, length, Result, Ok, Err}
use Rattle.std.specs.Io.KnownBytes.{Consumes, Keeps, IsAtEnd}
use Rattle.il_outside.specs.Faults.{Rose}
use Rattle.il_outside.specs.Streams.{SourceState}
use Rattle.exec_command.specs.declared.input.TheConstants.{MOST_BYTES}
use Rattle.exec_command.specs.declared.input.InputFault.{InputFault}
use Rattle.exec_command.specs.declared.input.InputFault.TheVariants.{Failed, TooLong, NoMemory}
use Rattle.exec_command.specs.Input.{TakesSome}

-- what a read got was put after what came before
pub record Got (n : ℕ) (old new : List ℕ) (was now : SourceState) : Type 0 where
  pub more : List ℕ
  pub count : length more ≡ n
  pub put : new ≡ old ++ more
  pub taken : Consumes was.left now.left more
  pub room : length new ≤ MOST_BYTES + 1
  pub over : n ≡ 0 → IsAtEnd now.left
  pub quiet : now.faults ≡ was.faults

abbrev pub Turns : List ℕ → List ℕ → SourceState → SourceState → Result ℕ InputFault → Type 0
Turns old new was now (Ok n) = Got n old new was now
Turns old new was now (Err Failed) = Keeps was.left now.left × Rose was.faults now.faults
Turns old new was now (Err TooLong) = ⊥
Turns old new was now (Err NoMemory) = TakesSome was now × (now.faults ≡ was.faults)
