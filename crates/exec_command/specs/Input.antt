-- What reading the input to its end does to its source.
use Rattle.std.specs.Prelude.{◌≡◌, ◌≤◌, ◌+◌, ℕ, List, length, Result, Ok, Err}
use Rattle.std.specs.Io.KnownBytes.{Consumes, IsAtEnd}
use Rattle.il_outside.specs.Faults.{Rose}
use Rattle.il_outside.specs.Streams.{SourceState}
use Rattle.exec_command.specs.declared.input.TheConstants.{MOST_BYTES}
use Rattle.exec_command.specs.declared.input.InputFault.{InputFault}
use Rattle.exec_command.specs.declared.input.InputFault.TheVariants.{Failed, TooLong, NoMemory}

-- These bytes are all that the source had left, where that is known, and it has nothing left now. No read failed.
pub record ReadsAll (bytes : List ℕ) (was now : SourceState) : Type 0 where
  pub taken : Consumes was.left now.left bytes
  pub over : IsAtEnd now.left
  pub quiet : now.faults ≡ was.faults

-- the source gave some bytes
abbrev pub TakesSome : SourceState → SourceState → Type 0
TakesSome was now = (bytes : List ℕ) × Consumes was.left now.left bytes

-- The source gave one byte more than the input may have, and no read failed. Nothing more was read.
pub record TakesTooMany (was now : SourceState) : Type 0 where
  pub bytes : List ℕ
  pub taken : Consumes was.left now.left bytes
  pub many : length bytes ≡ MOST_BYTES + 1
  pub quiet : now.faults ≡ was.faults

-- what the reads of the input give; a read that fails is the last one
abbrev pub ReadsInput : SourceState → SourceState → Result (List ℕ) InputFault → Type 0
ReadsInput was now (Ok bytes) = ReadsAll bytes was now × (length bytes ≤ MOST_BYTES)
ReadsInput was now (Err Failed) = TakesSome was now × Rose was.faults now.faults
ReadsInput was now (Err TooLong) = TakesTooMany was now
ReadsInput was now (Err NoMemory) = TakesSome was now × (now.faults ≡ was.faults)
