-- Each status but the wanted one, and want of memory, has a cause that doesn't hold.
use Rattle.std.proofs.Common.{◌≡◌, ◌⊎◌, ℕ, Bool, List, [], Option, Some, Result, Ok, Err, refl, sym, subst, ◌∙◌, inl, inr}
use Rattle.il_outside.specs.declared.folder.FolderError.{FolderError}
use Rattle.il_outside.specs.declared.folder.FolderError.TheVariants as folder_error
use Rattle.il_outside.specs.Folder.{Files, FolderState}
use Rattle.il_outside.specs.Streams.{SinkState}
use Rattle.status_lines.specs.declared.status.Status.{Status}
use Rattle.status_lines.specs.declared.status.Status.TheVariants.{Done, WriteFault, NoMemory}
use Rattle.status_lines.specs.Lines.{line_of}
use Rattle.status_lines.specs.Reports.{SinkFailed, starved_status, Reports}
use Rattle.named_files.specs.Files.{files_under}
use Rattle.named_files.proofs.Told.{told_of_known}
use Rattle.trim_core.specs.declared.answers.Opts.{Opts}
use Rattle.trim_core.specs.declared.answers.Refusal.{Refusal}
use Rattle.trim_core.specs.declared.answers.Trimmed.{Trimmed}
use Rattle.trim_core.specs.Trim.{Trims}
use Rattle.trim_command.specs.Writing.{Leaves}
use Rattle.trim_command.specs.Answer.{refused, write_status, line_for, opts_of, IsDue, FilesTrimmed, TrimCaused}
use Rattle.trim_command.specs.Complete.{IsQuiet, trim_status, WantsTrim, IsAnswered}

starved_is : (s : Status) → (starved_status s ≡ s) ⊎ (starved_status s ≡ NoMemory)
starved_is WriteFault = inl refl
starved_is _ = inr refl

-- what was due was answered, or memory ran out
reported : (line : List ℕ) (s : Status) (out0 out1 err0 err1 : SinkState) (status : Status) → (SinkFailed out0 out1 err0 err1 → ⊥) → Reports line s err0 err1 status → (status ≡ s) ⊎ (status ≡ NoMemory)
reported line s out0 out1 err0 err1 status quiet (inl x) = inl x.0
reported line s out0 out1 err0 err1 status quiet (inr (inl x)) = absurd (quiet (inr x.2))
reported line s out0 out1 err0 err1 status quiet (inr (inr x)) = elim (starved_is s) [ inl e ↦ inl (x.0 ∙ e) | inr e ↦ inr (x.0 ∙ e) ]

only_memory : (status : Status) → (status ≡ NoMemory) ⊎ (status ≡ NoMemory) → status ≡ NoMemory
only_memory status (inl e) = e
only_memory status (inr e) = e

-- a status that was due is the wanted one
instead : (s due status : Status) → due ≡ s → (status ≡ due) ⊎ (status ≡ NoMemory) → (status ≡ s) ⊎ (status ≡ NoMemory)
instead s due status e (inl x) = inl (x ∙ e)
instead s due status e (inr x) = inr x

-- ---- the status that was due

left_answered : (left : Trimmed) (output : List ℕ) (list : Option (List ℕ)) (was now : FolderState) (out0 out1 err0 err1 : SinkState) (r : Result Unit FolderError) (due status : Status)
    → IsQuiet was now out0 out1 err0 err1 → Leaves left output list was now r → due ≡ write_status r → (status ≡ due) ⊎ (status ≡ NoMemory) → (status ≡ Done) ⊎ (status ≡ NoMemory)
left_answered left output list was now out0 out1 err0 err1 (Ok x) due status quiet leaves e s = instead Done due status e s
left_answered left output list was now out0 out1 err0 err1 (Err folder_error.Failed) due status quiet (inl h) e s = absurd (quiet.writes h.rose)
left_answered left output list was now out0 out1 err0 err1 (Err folder_error.Failed) due status quiet (inr h) e s = absurd (quiet.writes h.rose)
left_answered left output list was now out0 out1 err0 err1 (Err folder_error.NoMemory) due status quiet leaves e s = inr (only_memory status (instead NoMemory due status e s))

refusal_answered : (why : Refusal) (due status : Status) → (due ≡ refused why) ⊎ (due ≡ NoMemory) → (status ≡ due) ⊎ (status ≡ NoMemory) → (status ≡ refused why) ⊎ (status ≡ NoMemory)
refusal_answered why due status (inl e) s = instead (refused why) due status e s
refusal_answered why due status (inr e) s = inr (only_memory status (instead NoMemory due status e s))

due_answered : (trimmed : Result Trimmed Refusal) (output : List ℕ) (list : Option (List ℕ)) (was now : FolderState) (out0 out1 err0 err1 : SinkState) (due status : Status) → IsQuiet was now out0 out1 err0 err1
    → IsDue trimmed output list was now due → (status ≡ due) ⊎ (status ≡ NoMemory) → (status ≡ trim_status trimmed) ⊎ (status ≡ NoMemory)
due_answered (Ok left) output list was now out0 out1 err0 err1 due status quiet h s = left_answered left output list was now out0 out1 err0 err1 h.0 due status quiet h.1 h.2 s
due_answered (Err why) output list was now out0 out1 err0 err1 due status quiet h s = refusal_answered why due status h.0 s

wants : (files texts : List (List ℕ)) (opts : Opts) (trimmed : Result Trimmed Refusal) (status : Status) → Trims files texts opts trimmed → (status ≡ trim_status trimmed) ⊎ (status ≡ NoMemory)
    → WantsTrim (Some files) (Some texts) opts status ⊎ (status ≡ NoMemory)
wants files texts opts trimmed status trims (inl e) = inl (trimmed, trims, e)
wants files texts opts trimmed status trims (inr e) = inr e

-- ---- names

under : (o p : Option (List (List ℕ))) (files texts : List (List ℕ)) (opts : Opts) (status : Status) → o ≡ Some files → p ≡ Some texts
    → WantsTrim (Some files) (Some texts) opts status ⊎ (status ≡ NoMemory) → WantsTrim o p opts status ⊎ (status ≡ NoMemory)
under o p files texts opts status e d w =
    subst (λ (x : Option (List (List ℕ))). WantsTrim x p opts status ⊎ (status ≡ NoMemory)) (sym e)
    (subst (λ (y : Option (List (List ℕ))). WantsTrim (Some files) y opts status ⊎ (status ≡ NoMemory)) (sym d) w)

files_answered : (inputs descriptors : List (List ℕ)) (output : List ℕ) (list : Option (List ℕ)) (opts : Opts) (was now : FolderState) (f : Files) (out0 out1 err0 err1 : SinkState) (status : Status)
    → was.files ≡ Some f → IsQuiet was now out0 out1 err0 err1 → FilesTrimmed inputs descriptors output list opts was now out0 out1 err0 err1 status
    → WantsTrim (files_under f inputs) (files_under f descriptors) opts status ⊎ (status ≡ NoMemory)
files_answered inputs descriptors output list opts was now f out0 out1 err0 err1 status known quiet h =
    under (files_under f inputs) (files_under f descriptors) h.files h.texts opts status
    (told_of_known was.files f inputs h.files known h.told)
    (told_of_known was.files f descriptors h.texts known h.described)
    (wants h.files h.texts opts h.given.trimmed status h.given.trims
    (due_answered h.given.trimmed output list was now out0 out1 err0 err1 h.given.finished.due status quiet h.given.finished.cause
    (reported (line_for inputs descriptors h.files h.given.finished.due) h.given.finished.due out0 out1 err0 err1 status quiet.sinks h.given.finished.reported)))

pub is_answered : (inputs descriptors : List (List ℕ)) (output : List ℕ) (list : Option (List ℕ)) (internalize : Bool) (was now : FolderState) (f : Files) (out0 out1 err0 err1 : SinkState) (status : Status)
    → TrimCaused inputs descriptors output list internalize was now out0 out1 err0 err1 status → was.files ≡ Some f → IsQuiet was now out0 out1 err0 err1
    → IsAnswered inputs descriptors list internalize f status
is_answered inputs descriptors output list internalize was now f out0 out1 err0 err1 status (inl h) known quiet =
    files_answered inputs descriptors output list (opts_of internalize list) was now f out0 out1 err0 err1 status known quiet h
is_answered inputs descriptors output list internalize was now f out0 out1 err0 err1 status (inr (inl h)) known quiet = absurd (quiet.reads h.failed.rose)
is_answered inputs descriptors output list internalize was now f out0 out1 err0 err1 status (inr (inr h)) known quiet =
    inr (only_memory status (reported (line_of [] [] NoMemory) NoMemory out0 out1 err0 err1 status quiet.sinks h.reported))
