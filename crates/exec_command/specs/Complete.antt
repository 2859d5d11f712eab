-- The other way round: what known files and a known input ask for is answered, unless the outside fails or memory runs out.
use Rattle.std.specs.Prelude.{◌≡◌, ◌⊎◌, ℕ, List, Option, Some, None, length, nat_le, if◌then◌else◌}
use Rattle.il_outside.specs.Faults.{Rose}
use Rattle.il_outside.specs.Folder.{Files, FolderState}
use Rattle.il_outside.specs.Streams.{SourceState, SinkState}
use Rattle.inputs.specs.declared.error.InputError.{InputError}
use Rattle.inputs.specs.Files.{input_fault}
use Rattle.run_rules.specs.Runs.{FileRun, run_of_files}
use Rattle.status_lines.specs.declared.status.Status.{Status}
use Rattle.status_lines.specs.declared.status.Status.TheVariants.{NoMemory}
use Rattle.status_lines.specs.Reports.{SinkFailed}
use Rattle.named_files.specs.Files.{files_under}
use Rattle.exec_command.specs.declared.input.TheConstants.{MOST_BYTES}
use Rattle.exec_command.specs.Answer.{status_of, refused, too_long}

-- no read of the folder or of the input failed in this call, and no write
pub record IsQuiet (was now : FolderState) (in0 in1 : SourceState) (out0 out1 err0 err1 : SinkState) : Type 0 where
  pub reads : Rose was.read_faults now.read_faults → ⊥
  pub input : Rose in0.faults in1.faults → ⊥
  pub sinks : SinkFailed out0 out1 err0 err1 → ⊥

abbrev pub status_by : ℕ → Option InputError → FileRun → Status
status_by steps (Some why) run = refused why
status_by steps None run = status_of steps run.end

-- the status of `exec` for files and an input: the run's where they can be taken
abbrev pub exec_status : List (List ℕ) → List ℕ → ℕ → Status
exec_status files input steps =
    if nat_le (length input) MOST_BYTES then status_by steps (input_fault files) (run_of_files files input steps) else too_long

-- the status that these files and this input ask for; any where one of them isn't known
abbrev pub WantsRun : Option (List (List ℕ)) → Option (List ℕ) → ℕ → Status → Type 0
WantsRun (Some files) (Some input) steps status = status ≡ exec_status files input steps
WantsRun files input steps status = Unit {0}

-- it is the answer, or memory ran out
abbrev pub IsAnswered : List (List ℕ) → Files → Option (List ℕ) → ℕ → Status → Type 0
IsAnswered names f input steps status = WantsRun (files_under f names) input steps status ⊎ (status ≡ NoMemory)
