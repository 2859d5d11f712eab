-- Each status but the wanted one, and want of memory, has a cause that doesn't hold.
use Rattle.std.proofs.Common.{◌≡◌, ◌≤◌, ◌+◌, ◌⊎◌, ◌++◌, ℕ, List, [], ◌∷◌, length, false, Option, Some, None, refl, sym, ap, subst, ◌∙◌, inl, inr, arith, append-nil, length-append}
use Rattle.std.specs.Prelude.{Bool, nat_le, if◌then◌else◌}
use Rattle.std.proofs.lemmas.Bool.{le-leb, lt-leb}
use Rattle.std.specs.Io.KnownBytes.{Consumes, IsAtEnd}
use Rattle.il_outside.specs.Faults.{Rose}
use Rattle.il_outside.specs.Folder.{Files, FolderState}
use Rattle.il_outside.specs.Streams.{SourceState, SinkState}
use Rattle.inputs.specs.declared.error.InputError.{InputError}
use Rattle.inputs.specs.Files.{input_fault}
use Rattle.run_rules.specs.Runs.{run_of_files}
use Rattle.status_lines.specs.declared.status.Status.{Status}
use Rattle.status_lines.specs.declared.status.Status.TheVariants.{WriteFault, NoMemory}
use Rattle.status_lines.specs.Lines.{line_of}
use Rattle.status_lines.specs.Reports.{SinkFailed, starved_status, Reports}
use Rattle.named_files.proofs.Told.{told_of_known}
use Rattle.exec_command.specs.declared.input.TheConstants.{MOST_BYTES}
use Rattle.exec_command.specs.Answer.{too_long, IsDue, line_for, RunCaused, FilesCaused, InputRead, NamesRead, ExecCaused}
use Rattle.exec_command.specs.Complete.{IsQuiet, status_by, exec_status, WantsRun, IsAnswered}

starved_is : (s : Status) → (starved_status s ≡ s) ⊎ (starved_status s ≡ NoMemory)
starved_is WriteFault = inl refl
starved_is _ = inr refl

-- what was due was answered, or memory ran out
pub reported : (line : List ℕ) (s : Status) (out0 out1 err0 err1 : SinkState) (status : Status) → (SinkFailed out0 out1 err0 err1 → ⊥) → Reports line s err0 err1 status → (status ≡ s) ⊎ (status ≡ NoMemory)
reported line s out0 out1 err0 err1 status quiet (inl x) = inl x.0
reported line s out0 out1 err0 err1 status quiet (inr (inl x)) = absurd (quiet (inr x.2))
reported line s out0 out1 err0 err1 status quiet (inr (inr x)) = elim (starved_is s) [ inl e ↦ inl (x.0 ∙ e) | inr e ↦ inr (x.0 ∙ e) ]

pub only_memory : (status : Status) → (status ≡ NoMemory) ⊎ (status ≡ NoMemory) → status ≡ NoMemory
only_memory status (inl e) = e
only_memory status (inr e) = e

-- a status that was due is the wanted one
instead : (s due status : Status) → due ≡ s → (status ≡ due) ⊎ (status ≡ NoMemory) → (status ≡ s) ⊎ (status ≡ NoMemory)
instead s due status e (inl x) = inl (x ∙ e)
instead s due status e (inr x) = inr x

-- ---- the input that was read is the one that is told

-- a source that is at its end gave all that it had
all_given : (left now : Option (List ℕ)) (bytes input : List ℕ) → left ≡ Some input → Consumes left now bytes → IsAtEnd now → bytes ≡ input
all_given None now bytes input e p q = absurd cc
all_given (Some x) None bytes input e p q = absurd p
all_given (Some x) (Some y) bytes input e p q =
    let whole : x ≡ bytes = p ∙ ap (λ (l : List ℕ). bytes ++ l) q ∙ append-nil bytes in
    let same : x ≡ input = cc in
    sym whole ∙ same

-- a source that gave more than the most had more
gave_more : (left now : Option (List ℕ)) (bytes input : List ℕ) → left ≡ Some input → Consumes left now bytes → length bytes ≡ MOST_BYTES + 1 → nat_le (length input) MOST_BYTES ≡ false
gave_more None now bytes input e p many = absurd cc
gave_more (Some x) None bytes input e p many = absurd p
gave_more (Some x) (Some y) bytes input e p many =
    let same : x ≡ input = cc in
    lt-leb (length input) MOST_BYTES (omega (arith, ap length same, ap length p, length-append bytes y, many))

-- ---- the status that was due

due_answered : (files : List (List ℕ)) (input : List ℕ) (steps : ℕ) (out0 out1 err0 err1 : SinkState) (due status : Status) → (SinkFailed out0 out1 err0 err1 → ⊥)
    → IsDue files input steps out0 out1 due → (status ≡ due) ⊎ (status ≡ NoMemory) → (status ≡ status_by steps (input_fault files) (run_of_files files input steps)) ⊎ (status ≡ NoMemory)
due_answered files input steps out0 out1 err0 err1 due status quiet (inl h) r =
    instead (status_by steps (input_fault files) (run_of_files files input steps)) due status (h.answer ∙ ap (λ (o : Option InputError). status_by steps o (run_of_files files input steps)) (sym h.sound)) r
due_answered files input steps out0 out1 err0 err1 due status quiet (inr (inl h)) r =
    instead (status_by steps (input_fault files) (run_of_files files input steps)) due status (h.answer ∙ ap (λ (o : Option InputError). status_by steps o (run_of_files files input steps)) (sym h.fault)) r
due_answered files input steps out0 out1 err0 err1 due status quiet (inr (inr (inl h))) r = absurd (quiet (inl h.2))
due_answered files input steps out0 out1 err0 err1 due status quiet (inr (inr (inr h))) r = inr (only_memory status (instead NoMemory due status h.0 r))

short_answered : (files : List (List ℕ)) (input : List ℕ) (steps : ℕ) (status : Status) → length input ≤ MOST_BYTES
    → (status ≡ status_by steps (input_fault files) (run_of_files files input steps)) ⊎ (status ≡ NoMemory) → (status ≡ exec_status files input steps) ⊎ (status ≡ NoMemory)
short_answered files input steps status short r =
    subst (λ (b : Bool). (status ≡ (if b then status_by steps (input_fault files) (run_of_files files input steps) else too_long)) ⊎ (status ≡ NoMemory)) (sym (le-leb (length input) MOST_BYTES short)) r

long_answered : (files : List (List ℕ)) (input : List ℕ) (steps : ℕ) (status : Status) → nat_le (length input) MOST_BYTES ≡ false
    → (status ≡ too_long) ⊎ (status ≡ NoMemory) → (status ≡ exec_status files input steps) ⊎ (status ≡ NoMemory)
long_answered files input steps status long r =
    subst (λ (b : Bool). (status ≡ (if b then status_by steps (input_fault files) (run_of_files files input steps) else too_long)) ⊎ (status ≡ NoMemory)) (sym long) r

run_answered : (names files : List (List ℕ)) (input : List ℕ) (steps : ℕ) (out0 out1 err0 err1 : SinkState) (status : Status) → length input ≤ MOST_BYTES → (SinkFailed out0 out1 err0 err1 → ⊥)
    → RunCaused names files input steps out0 out1 err0 err1 status → (status ≡ exec_status files input steps) ⊎ (status ≡ NoMemory)
run_answered names files input steps out0 out1 err0 err1 status short quiet h =
    short_answered files input steps status short
    (due_answered files input steps out0 out1 err0 err1 h.due status quiet h.cause
    (reported (line_for names files h.due) h.due out0 out1 err0 err1 status quiet h.reported))

read_answered : (names files : List (List ℕ)) (steps : ℕ) (in0 in1 : SourceState) (input : List ℕ) (out0 out1 err0 err1 : SinkState) (status : Status) → in0.left ≡ Some input
    → (SinkFailed out0 out1 err0 err1 → ⊥) → InputRead names files steps in0 in1 out0 out1 err0 err1 status → (status ≡ exec_status files input steps) ⊎ (status ≡ NoMemory)
read_answered names files steps in0 in1 input out0 out1 err0 err1 status known quiet h =
    subst (λ (bytes : List ℕ). (status ≡ exec_status files bytes steps) ⊎ (status ≡ NoMemory)) (all_given in0.left in1.left h.input input known h.read.taken h.read.over)
    (run_answered names files h.input steps out0 out1 err0 err1 status h.short quiet h.caused)

known_answered : (names files : List (List ℕ)) (steps : ℕ) (in0 in1 : SourceState) (left : Option (List ℕ)) (out0 out1 err0 err1 : SinkState) (status : Status) → in0.left ≡ left
    → (Rose in0.faults in1.faults → ⊥) → (SinkFailed out0 out1 err0 err1 → ⊥) → FilesCaused names files steps in0 in1 out0 out1 err0 err1 status → WantsRun (Some files) left steps status ⊎ (status ≡ NoMemory)
known_answered names files steps in0 in1 None out0 out1 err0 err1 status known quiet sinks h = inl tt
known_answered names files steps in0 in1 (Some input) out0 out1 err0 err1 status known quiet sinks (inl h) = read_answered names files steps in0 in1 input out0 out1 err0 err1 status known sinks h
known_answered names files steps in0 in1 (Some input) out0 out1 err0 err1 status known quiet sinks (inr (inl h)) = absurd (quiet h.rose)
known_answered names files steps in0 in1 (Some input) out0 out1 err0 err1 status known quiet sinks (inr (inr (inl h))) =
    long_answered files input steps status (gave_more in0.left in1.left h.taken.bytes input known h.taken.taken h.taken.many)
    (reported (line_of [] [] too_long) too_long out0 out1 err0 err1 status sinks h.reported)
known_answered names files steps in0 in1 (Some input) out0 out1 err0 err1 status known quiet sinks (inr (inr (inr h))) =
    inr (only_memory status (reported (line_of [] [] NoMemory) NoMemory out0 out1 err0 err1 status sinks h.reported))

-- ---- names

names_answered : (names : List (List ℕ)) (steps : ℕ) (was now : FolderState) (f : Files) (in0 in1 : SourceState) (out0 out1 err0 err1 : SinkState) (status : Status) → was.files ≡ Some f
    → (Rose in0.faults in1.faults → ⊥) → (SinkFailed out0 out1 err0 err1 → ⊥) → NamesRead names steps was now in0 in1 out0 out1 err0 err1 status → IsAnswered names f in0.left steps status
names_answered names steps was now f in0 in1 out0 out1 err0 err1 status known quiet sinks h =
    subst (λ (o : Option (List (List ℕ))). WantsRun o in0.left steps status ⊎ (status ≡ NoMemory)) (sym (told_of_known was.files f names h.files known h.told))
    (known_answered names h.files steps in0 in1 in0.left out0 out1 err0 err1 status refl quiet sinks h.caused)

pub is_answered : (names : List (List ℕ)) (steps : ℕ) (was now : FolderState) (f : Files) (in0 in1 : SourceState) (out0 out1 err0 err1 : SinkState) (status : Status)
    → ExecCaused names steps was now in0 in1 out0 out1 err0 err1 status → was.files ≡ Some f → IsQuiet was now in0 in1 out0 out1 err0 err1 → IsAnswered names f in0.left steps status
is_answered names steps was now f in0 in1 out0 out1 err0 err1 status (inl h) known quiet = names_answered names steps was now f in0 in1 out0 out1 err0 err1 status known quiet.input quiet.sinks h
is_answered names steps was now f in0 in1 out0 out1 err0 err1 status (inr (inl h)) known quiet = absurd (quiet.reads h.failed.rose)
is_answered names steps was now f in0 in1 out0 out1 err0 err1 status (inr (inr h)) known quiet =
    inr (only_memory status (reported (line_of [] [] NoMemory) NoMemory out0 out1 err0 err1 status quiet.sinks h.reported))
