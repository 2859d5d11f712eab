-- What runs over a sink answer and leave.
use Rattle.std.specs.Prelude.{◌≡◌, [], Option, Result, Ok, Err}
use Rattle.std.specs.Io.KnownBytes.{Appends}
use Rattle.il_outside.specs.Streams.{SinkState, AppendsPrefix}
use Rattle.il_outside.specs.Faults.{Rose}
use Rattle.il_base.specs.declared.cil_values.state.State.{State}
use Rattle.il_base.specs.declared.cil_values.end.End.{End}
use Rattle.rules.specs.step_rules.Next.{Next, went, over}
use Rattle.rules.specs.step_rules.Run.{Outcome}
use Rattle.machine_words.specs.declared.cil_words.step_out.StepOut.{StepOut}
use Rattle.machine_words.specs.declared.cil_words.step_out.StepOut.TheVariants.{Went, Over}
use Rattle.file_runs.specs.declared.fault.RunFault.{RunFault}
use Rattle.file_runs.specs.declared.fault.RunFault.TheVariants.{Write, NoMemory}

-- A run that prints this output: all of it was written, and the answer is its end; or the sink failed, or memory ran out, and a
-- prefix was.
abbrev pub RunsTo : Outcome → SinkState → SinkState → Result (Option End) RunFault → Type 0
RunsTo o old new (Ok end) = (end ≡ o.end) × Appends old.held new.held o.output × (new.faults ≡ old.faults)
RunsTo o old new (Err Write) = AppendsPrefix old.held new.held o.output × Rose old.faults new.faults
RunsTo o old new (Err NoMemory) = AppendsPrefix old.held new.held o.output × (new.faults ≡ old.faults)

-- One step and the writing of what it printed, which comes after it.
abbrev pub TurnsTo : Next → State → SinkState → SinkState → Result StepOut RunFault → Type 0
TurnsTo (went s bytes) now old new (Ok Went) = (now ≡ s) × Appends old.held new.held bytes × (new.faults ≡ old.faults)
TurnsTo (went s bytes) now old new (Ok (Over e)) = ⊥
TurnsTo (went s bytes) now old new (Err Write) = AppendsPrefix old.held new.held bytes × Rose old.faults new.faults
TurnsTo (went s bytes) now old new (Err NoMemory) = AppendsPrefix old.held new.held bytes × (new.faults ≡ old.faults)
TurnsTo (over e) now old new (Ok Went) = ⊥
TurnsTo (over e) now old new (Ok (Over f)) = (f ≡ e) × Appends old.held new.held [] × (new.faults ≡ old.faults)
TurnsTo (over e) now old new (Err Write) = ⊥
TurnsTo (over e) now old new (Err NoMemory) = Appends old.held new.held [] × (new.faults ≡ old.faults)
