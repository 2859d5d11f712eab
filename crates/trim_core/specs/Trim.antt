-- The answers of a trim of files.
use Rattle.std.specs.Prelude.{◌≡◌, ◌≤◌, ℕ, Bool, List, [], length, Option, Some, None, Result, Ok, Err, if◌then◌else◌}
use Rattle.il_base.specs.declared.world_model.record.AsmRec.{AsmRec}
use Rattle.rules.specs.declared.link_rules.row_at.RowAt.{RowAt}
use Rattle.rules.specs.link_rules.Linked.{world_of}
use Rattle.inputs.specs.Files.{records}
use Rattle.descriptor_file.specs.declared.root.Root.{Root}
use Rattle.descriptor_roots.specs.Roots.{roots_of}
use Rattle.trim_core.specs.declared.program_trim.answers.TrimFault.TheVariants as fault
use Rattle.trim_core.specs.program_trim.Trim.{TrimmedWorld, TrimsWorld}
use Rattle.trim_core.specs.declared.answers.Opts.{Opts}
use Rattle.trim_core.specs.declared.answers.Refusal.{Refusal}
use Rattle.trim_core.specs.declared.answers.Refusal.TheVariants.{Limit, Outside, Unresolved, NotYet, Collision, NoMemory}
use Rattle.trim_core.specs.declared.answers.Trimmed.{Trimmed}
use Rattle.trim_core.specs.Behaves.{Behaves}
use Rattle.trim_core.specs.Told.{trim_fault, entry_row, RefusedBy}

-- ---- a world

-- the keep list as it is answered
abbrev pub list_if : Bool → List ℕ → List ℕ
list_if wanted list = if wanted then list else []

-- the bytes are those of a trim of this world, and so is the keep list where it is wanted
pub record TrimmedProgram (recs : List AsmRec) (entry : Option RowAt) (roots : List Root) (opts : Opts) (t : Trimmed) : Type 0 where
  pub list : List ℕ
  pub trims : TrimmedWorld recs entry roots opts.internalize (record { bytes = t.bytes; kept = list })
  pub kept : t.kept ≡ list_if opts.keep_list list

-- the answer of a trim of a world's assemblies
abbrev pub TrimsProgram : List AsmRec → Option RowAt → List Root → Opts → Result Trimmed Refusal → Type 0
TrimsProgram recs entry roots opts (Ok t) = TrimmedProgram recs entry roots opts t
TrimsProgram recs entry roots opts (Err (Outside place what)) = TrimsWorld recs entry roots opts.internalize (Err (fault.Outside place what))
TrimsProgram recs entry roots opts (Err (Unresolved place)) = TrimsWorld recs entry roots opts.internalize (Err (fault.Unresolved place))
TrimsProgram recs entry roots opts (Err (NotYet file)) = TrimsWorld recs entry roots opts.internalize (Err (fault.NotYet file))
TrimsProgram recs entry roots opts (Err (Collision first second)) = TrimsWorld recs entry roots opts.internalize (Err (fault.Collision first second))
TrimsProgram recs entry roots opts (Err (Limit which found)) = TrimsWorld recs entry roots opts.internalize (Err (fault.Limit which found))
TrimsProgram recs entry roots opts (Err NoMemory) = Unit {0}
TrimsProgram recs entry roots opts (Err refusal) = ⊥

-- ---- files

-- The result is the trim of the world which the files make with the core library. Its bytes load and run as the files do; there is
-- at least one file.
pub record TrimmedFiles (files descriptors : List (List ℕ)) (opts : Opts) (t : Trimmed) : Type 0 where
  pub program : TrimmedProgram (world_of (records files)).recs (entry_row (records files)) (roots_of (records files) descriptors) opts t
  pub behaves : 1 ≤ length files → Behaves files t.bytes program.trims.left program.trims.kept

abbrev pub TrimsFiles : List (List ℕ) → List (List ℕ) → Opts → Result Trimmed Refusal → Type 0
TrimsFiles files descriptors opts (Ok t) = TrimmedFiles files descriptors opts t
TrimsFiles files descriptors opts (Err refusal) = TrimsProgram (world_of (records files)).recs (entry_row (records files)) (roots_of (records files) descriptors) opts (Err refusal)

-- the answer of a trim of files, where this refusal is due, or none
abbrev pub TrimsUnless : Option Refusal → List (List ℕ) → List (List ℕ) → Opts → Result Trimmed Refusal → Type 0
TrimsUnless None files descriptors opts answer = TrimsFiles files descriptors opts answer
TrimsUnless (Some due) files descriptors opts (Ok t) = ⊥
TrimsUnless (Some due) files descriptors opts (Err answer) = RefusedBy due answer

-- the answer of a trim of files with these descriptors
abbrev pub Trims : List (List ℕ) → List (List ℕ) → Opts → Result Trimmed Refusal → Type 0
Trims files descriptors opts answer = TrimsUnless (trim_fault files descriptors) files descriptors opts answer
