-- The effects of reads from a source, and of writes to a sink, on their known states.
use Rattle.std.specs.Prelude.{◌≡◌, ℕ, List, take, Option, Result, Ok, Err}
use Rattle.std.specs.Io.KnownBytes.{Appends}
use Rattle.il_outside.specs.declared.sink.SinkError.{SinkError}
use Rattle.il_outside.specs.declared.sink.SinkError.TheVariants.{Failed, NoMemory}
use Rattle.il_outside.specs.Faults.{Rose}

-- The known state of a source.
pub record SourceState : Type 0 where
  -- the bytes that are left, None where the source doesn't tell them
  pub left : Option (List ℕ)
  -- how many calls failed
  pub faults : ℕ

-- The known state of a sink.
pub record SinkState : Type 0 where
  -- the bytes that it took, None where the sink doesn't tell them
  pub held : Option (List ℕ)
  -- how many calls failed
  pub faults : ℕ

-- a sink's call fails exactly where its count rises
abbrev pub SinkFaults : {T : Type 0} → SinkState → SinkState → Result T SinkError → Type 0
SinkFaults old new (Ok x) = new.faults ≡ old.faults
SinkFaults old new (Err Failed) = Rose old.faults new.faults
SinkFaults old new (Err NoMemory) = new.faults ≡ old.faults

-- known bytes grew by a prefix of bs
abbrev pub AppendsPrefix : Option (List ℕ) → Option (List ℕ) → List ℕ → Type 0
AppendsPrefix old new bs = (n : ℕ) × Appends old new (take n bs)
