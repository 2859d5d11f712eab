-- The other way round: what the told files ask for is answered, unless the outside fails or memory runs out.
use Rattle.std.specs.Prelude.{◌≡◌, ◌⊎◌, ℕ, Bool, List, Option, Some, Result, Ok, Err}
use Rattle.il_outside.specs.Faults.{Rose}
use Rattle.il_outside.specs.Folder.{Files, FolderState}
use Rattle.il_outside.specs.Streams.{SinkState}
use Rattle.status_lines.specs.declared.status.Status.{Status}
use Rattle.status_lines.specs.declared.status.Status.TheVariants.{Done, NoMemory}
use Rattle.status_lines.specs.Reports.{SinkFailed}
use Rattle.named_files.specs.Files.{files_under}
use Rattle.trim_core.specs.declared.answers.Opts.{Opts}
use Rattle.trim_core.specs.declared.answers.Refusal.{Refusal}
use Rattle.trim_core.specs.declared.answers.Trimmed.{Trimmed}
use Rattle.trim_core.specs.Trim.{Trims}
use Rattle.trim_command.specs.Answer.{refused, opts_of}

-- no count of faults rose in this call
pub record IsQuiet (was now : FolderState) (out0 out1 err0 err1 : SinkState) : Type 0 where
  pub reads : Rose was.read_faults now.read_faults → ⊥
  pub writes : Rose was.write_faults now.write_faults → ⊥
  pub sinks : SinkFailed out0 out1 err0 err1 → ⊥

-- the status of what a trim gives
abbrev pub trim_status : Result Trimmed Refusal → Status
trim_status (Ok left) = Done
trim_status (Err why) = refused why

-- the status that these files and descriptors ask for; any where one of them isn't there
abbrev pub WantsTrim : Option (List (List ℕ)) → Option (List (List ℕ)) → Opts → Status → Type 0
WantsTrim (Some files) (Some texts) opts status = (r : Result Trimmed Refusal) × Trims files texts opts r × (status ≡ trim_status r)
WantsTrim files texts opts status = Unit {0}

-- it is the answer, or memory ran out
abbrev pub IsAnswered : List (List ℕ) → List (List ℕ) → Option (List ℕ) → Bool → Files → Status → Type 0
IsAnswered inputs descriptors list internalize f status = WantsTrim (files_under f inputs) (files_under f descriptors) (opts_of internalize list) status ⊎ (status ≡ NoMemory)
