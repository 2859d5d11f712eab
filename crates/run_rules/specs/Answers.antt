-- When each answer of a run over a sink comes, and what it leaves.
use Rattle.std.specs.Prelude.{◌≡◌, ℕ, List, [], ◌∷◌, Option, Some, None, Result, Ok, Err, slice_get}
use Rattle.std.specs.Option.{option_and_then}
use Rattle.std.specs.Io.KnownBytes.{Appends}
use Rattle.il_outside.specs.Streams.{SinkState, AppendsPrefix}
use Rattle.il_outside.specs.Faults.{Rose}
use Rattle.il_base.specs.cli_format.Demand.{first_fault}
use Rattle.il_base.specs.declared.cli_format.error.TablesError.{TablesError}
use Rattle.il_base.specs.declared.world_model.assemblies.AssemblyRow.{AssemblyRow}
use Rattle.il_base.specs.declared.world_model.record.AsmRec.{AsmRec}
use Rattle.rules.specs.record_format.Record.{record_demands, record_at}
use Rattle.inputs.specs.declared.error.InputError.{InputError}
use Rattle.inputs.specs.declared.error.InputError.TheVariants as refused
use Rattle.inputs.specs.Files.{input_fault}
use Rattle.run_rules.specs.declared.answers.EndKind.{EndKind}
use Rattle.run_rules.specs.declared.answers.Ending.{Ending}
use Rattle.run_rules.specs.declared.answers.ExecFault.{ExecFault}
use Rattle.run_rules.specs.declared.answers.ExecFault.TheVariants.{Refused, Write}
use Rattle.run_rules.specs.Runs.{FileRun, run_of_files}

-- What a run over a sink answers and leaves, where it prints this output: all of it with its end, or a prefix where the sink
-- failed or memory ran out.
abbrev pub RunsTo : FileRun → SinkState → SinkState → Result EndKind ExecFault → Type 0
RunsTo run old new (Ok end) = (end ≡ run.end) × Appends old.held new.held run.output × (new.faults ≡ old.faults)
RunsTo run old new (Err Write) = AppendsPrefix old.held new.held run.output × Rose old.faults new.faults
RunsTo run old new (Err (Refused refused.NoMemory)) = AppendsPrefix old.held new.held run.output × (new.faults ≡ old.faults)
RunsTo run old new (Err (Refused why)) = ⊥

-- The refusal of a call is the one that is due, or want of memory.
abbrev pub RefusedBy : InputError → InputError → Type 0
RefusedBy due refused.NoMemory = Unit {0}
RefusedBy due answer = due ≡ answer

-- the refusal, with nothing written; only want of memory may come in its place
abbrev pub RefusesTo : InputError → SinkState → SinkState → Result EndKind ExecFault → Type 0
RefusesTo due old new (Ok end) = ⊥
RefusesTo due old new (Err Write) = ⊥
RefusesTo due old new (Err (Refused answer)) = RefusedBy due answer × Appends old.held new.held [] × (new.faults ≡ old.faults)

abbrev pub ExecsBy : Option InputError → FileRun → SinkState → SinkState → Result EndKind ExecFault → Type 0
ExecsBy None run old new r = RunsTo run old new r
ExecsBy (Some due) run old new r = RefusesTo due old new r

-- what `exec_to` answers and leaves: the run's, or the first limit or demand that the files don't meet
abbrev pub ExecsTo : List (List ℕ) → List ℕ → ℕ → SinkState → SinkState → Result EndKind ExecFault → Type 0
ExecsTo files input n old new r = ExecsBy (input_fault files) (run_of_files files input n) old new r

-- what `exec` answers
abbrev pub GivesBy : Option InputError → FileRun → Result Ending InputError → Type 0
GivesBy None run (Ok x) = (x.output ≡ run.output) × (x.end ≡ run.end)
GivesBy None run (Err refused.NoMemory) = Unit {0}
GivesBy None run (Err why) = ⊥
GivesBy (Some due) run (Ok x) = ⊥
GivesBy (Some due) run (Err answer) = RefusedBy due answer

abbrev pub Execs : List (List ℕ) → List ℕ → ℕ → Result Ending InputError → Type 0
Execs files input n r = GivesBy (input_fault files) (run_of_files files input n) r

-- ---- names of assemblies (II.22.2)

abbrev pub first_name : List AssemblyRow → Option (List ℕ)
first_name [] = None
first_name (row ∷ rows) = Some row.name

abbrev pub name_unless : Option TablesError → AsmRec → Option (List ℕ)
name_unless (Some e) rec = None
name_unless None rec = first_name rec.assembly

-- the name of the assembly that a file is
abbrev pub name_of : List ℕ → Option (List ℕ)
name_of file = name_unless (first_fault (record_demands file)) (record_at file)

-- that of a file by its number
abbrev pub name_at : List (List ℕ) → ℕ → Option (List ℕ)
name_at files i = option_and_then name_of (slice_get files i)
