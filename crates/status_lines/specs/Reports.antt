-- A status and its line on a sink.
use Rattle.std.specs.Prelude.{◌≡◌, ◌⊎◌, ℕ, List}
use Rattle.std.specs.Io.KnownBytes.{Appends}
use Rattle.il_outside.specs.Faults.{Rose}
use Rattle.il_outside.specs.Streams.{SinkState, AppendsPrefix}
use Rattle.status_lines.specs.declared.status.Status.{Status}
use Rattle.status_lines.specs.declared.status.Status.TheVariants.{WriteFault, NoMemory}

-- the answer where memory ran out before the line of a status was written: a write that failed stays one
abbrev pub starved_status : Status → Status
starved_status WriteFault = WriteFault
starved_status s = NoMemory

-- these bytes were printed, and no write of them failed
abbrev pub Prints : List ℕ → SinkState → SinkState → Type 0
Prints bytes old new = Appends old.held new.held bytes × (new.faults ≡ old.faults)

-- The line of a status was written; or the writing failed, or memory ran out, and a prefix of it was.
abbrev pub Reports : List ℕ → Status → SinkState → SinkState → Status → Type 0
Reports line status old new answer =
    ((answer ≡ status) × Prints line old new)
    ⊎ ((answer ≡ WriteFault) × AppendsPrefix old.held new.held line × Rose old.faults new.faults)
    ⊎ ((answer ≡ starved_status status) × AppendsPrefix old.held new.held line × (new.faults ≡ old.faults))

-- a sink failed in this call
abbrev pub SinkFailed : SinkState → SinkState → SinkState → SinkState → Type 0
SinkFailed old_out new_out old_err new_err = Rose old_out.faults new_out.faults ⊎ Rose old_err.faults new_err.faults
