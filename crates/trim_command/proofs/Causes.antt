-- What a trim answered, what the writes left and the status line make the answer for the files and for the names.
use Rattle.std.proofs.Common.{◌≡◌, ℕ, Bool, List, [], Option, Some, None, Result, Ok, Err, refl, sym, subst, ◌∙◌, inl, inr}
use Rattle.std.proofs.KnownBytes.{Appends-nil}
use Rattle.il_outside.specs.Faults.{Rose}
use Rattle.il_outside.specs.declared.folder.FolderError.{FolderError}
use Rattle.il_outside.specs.declared.folder.FolderError.TheVariants as folder_error
use Rattle.il_outside.specs.Folder.{Files, FolderState, SameFiles, LeavesPrefix, KeepsFiles, WritesFile, NoFault}
use Rattle.il_outside.specs.Streams.{SinkState}
use Rattle.status_lines.specs.declared.status.Status.{Status}
use Rattle.status_lines.specs.declared.status.Status.TheVariants.{ReadFault, NoMemory}
use Rattle.status_lines.specs.Lines.{line_of}
use Rattle.status_lines.specs.Reports.{Prints, Reports}
use Rattle.named_files.proofs.Folders.{keeps_itself, keeps_twice, quiet_itself, quiet_twice}
use Rattle.trim_core.specs.declared.answers.Opts.{Opts}
use Rattle.trim_core.specs.declared.answers.Refusal.{Refusal}
use Rattle.trim_core.specs.declared.answers.Trimmed.{Trimmed}
use Rattle.trim_command.specs.declared.reading.Given.{Given}
use Rattle.trim_command.specs.Reading.{ReadsGiven}
use Rattle.trim_command.specs.Writing.{WhereTold, SameBut, KeepsOthers, BothStand, OutputStands, ListIsPrefix, Leaves}
use Rattle.trim_command.specs.Answer.{refused, write_status, line_for, opts_of, StatusReported, IsDue, Finished, GivenTrimmed, TrimCaused}

-- ---- the status line

-- the line of what the writes answered names nothing
plain_line : (inputs descriptors files : List (List ℕ)) (r : Result Unit FolderError) → line_of [] [] (write_status r) ≡ line_for inputs descriptors files (write_status r)
plain_line inputs descriptors files (Ok x) = refl
plain_line inputs descriptors files (Err folder_error.Failed) = refl
plain_line inputs descriptors files (Err folder_error.NoMemory) = refl

left_finished : (left : Trimmed) (inputs descriptors files : List (List ℕ)) (output : List ℕ) (list : Option (List ℕ)) (was now : FolderState) (err0 err1 : SinkState) (r : Result Unit FolderError) (answer : Status)
    → Leaves left output list was now r → Reports (line_of [] [] (write_status r)) (write_status r) err0 err1 answer → Finished (Ok left) inputs descriptors files output list was now err0 err1 answer
left_finished left inputs descriptors files output list was now err0 err1 r answer leaves report = record {
  due = write_status r;
  cause = (r, leaves, refl);
  reported = subst (λ (line : List ℕ). Reports line (write_status r) err0 err1 answer) (plain_line inputs descriptors files r) report;
}

refusal_finished : (why : Refusal) (inputs descriptors files : List (List ℕ)) (output : List ℕ) (list : Option (List ℕ)) (was : FolderState) (err0 err1 : SinkState) (answer : Status)
    → StatusReported inputs descriptors files (refused why) err0 err1 answer → Finished (Err why) inputs descriptors files output list was was err0 err1 answer
refusal_finished why inputs descriptors files output list was err0 err1 answer (inl report) =
    record { due = refused why; cause = (inl refl, keeps_itself was.files, quiet_itself was); reported = report }
refusal_finished why inputs descriptors files output list was err0 err1 answer (inr report) =
    record { due = NoMemory; cause = (inr refl, keeps_itself was.files, quiet_itself was); reported = report }

pub finished_refused : (trimmed : Result Trimmed Refusal) (why : Refusal) (inputs descriptors files : List (List ℕ)) (output : List ℕ) (list : Option (List ℕ)) (was : FolderState) (err0 err1 : SinkState) (due answer : Status)
    → trimmed ≡ Err why → due ≡ refused why → StatusReported inputs descriptors files due err0 err1 answer → Finished trimmed inputs descriptors files output list was was err0 err1 answer
finished_refused trimmed why inputs descriptors files output list was err0 err1 due answer is told report =
    let due_report = subst (λ (s : Status). StatusReported inputs descriptors files s err0 err1 answer) told report in
    subst (λ (r : Result Trimmed Refusal). Finished r inputs descriptors files output list was was err0 err1 answer) (sym is)
    (refusal_finished why inputs descriptors files output list was err0 err1 answer due_report)

pub finished_left : (trimmed : Result Trimmed Refusal) (left : Trimmed) (inputs descriptors files : List (List ℕ)) (output : List ℕ) (list : Option (List ℕ)) (was now : FolderState) (err0 err1 : SinkState)
    (r : Result Unit FolderError) (due answer : Status) → trimmed ≡ Ok left → due ≡ write_status r → Leaves left output list was now r → Reports (line_of [] [] due) due err0 err1 answer
    → Finished trimmed inputs descriptors files output list was now err0 err1 answer
finished_left trimmed left inputs descriptors files output list was now err0 err1 r due answer is told leaves report =
    let due_report = subst (λ (s : Status). Reports (line_of [] [] s) s err0 err1 answer) told report in
    subst (λ (q : Result Trimmed Refusal). Finished q inputs descriptors files output list was now err0 err1 answer) (sym is)
    (left_finished left inputs descriptors files output list was now err0 err1 r answer leaves due_report)

-- ---- the reads come before

where_after : (P : Files → Files → Type 0) → ((f g h : Files) → SameFiles f g → P g h → P f h) → (a b c : Option Files) → KeepsFiles a b → WhereTold P b c → WhereTold P a c
where_after P step None b c kept p = tt
where_after P step (Some f) None c kept p = absurd kept
where_after P step (Some f) (Some g) None kept p = p
where_after P step (Some f) (Some g) (Some h) kept p = step f g h kept p

stand_after : (left : Trimmed) (output : List ℕ) (list : Option (List ℕ)) (f g h : Files) → SameFiles f g → BothStand left output list g h → BothStand left output list f h
stand_after left output list f g h same p = p

output_after : (left : Trimmed) (output : List ℕ) (f g h : Files) → SameFiles f g → OutputStands left output g h → OutputStands left output f h
output_after left output f g h same p = (p.0, λ other ne. p.1 other ne ∙ same other)

prefix_after : (f g h : Files) (name bytes : List ℕ) → SameFiles f g → LeavesPrefix g h name bytes → LeavesPrefix f h name bytes
prefix_after f g h name bytes same (inl e) = inl (e ∙ same name)
prefix_after f g h name bytes same (inr e) = inr e

list_after : (left : Trimmed) (output name : List ℕ) (f g h : Files) → SameFiles f g → ListIsPrefix left output name g h → ListIsPrefix left output name f h
list_after left output name f g h same p = (p.0, prefix_after f g h name left.kept same p.1)

but_after : (names : List (List ℕ)) (f g h : Files) → SameFiles f g → SameBut names g h → SameBut names f h
but_after names f g h same p = λ other d. p other d ∙ same other

failed_after : (a b c : Option Files) (name bytes : List ℕ) → KeepsFiles a b → WritesFile b c name bytes (Err folder_error.Failed) → WritesFile a c name bytes (Err folder_error.Failed)
failed_after None b c name bytes p q = tt
failed_after (Some f) None c name bytes p q = absurd p
failed_after (Some f) (Some g) None name bytes p q = q
failed_after (Some f) (Some g) (Some h) name bytes p q = (prefix_after f g h name bytes p q.0, λ other ne. q.1 other ne ∙ p other)

leaves_after : (left : Trimmed) (output : List ℕ) (list : Option (List ℕ)) (was mid now : FolderState) (r : Result Unit FolderError) → KeepsFiles was.files mid.files → NoFault was mid
    → Leaves left output list mid now r → Leaves left output list was now r
leaves_after left output list was mid now (Ok x) kept quiet h =
    (where_after (BothStand left output list) (stand_after left output list) was.files mid.files now.files kept h.0, quiet_twice was mid now quiet h.1)
leaves_after left output list was mid now (Err folder_error.Failed) kept quiet (inl h) = inl (record {
  written = failed_after was.files mid.files now.files output left.bytes kept h.written;
  rose = subst (λ (n : ℕ). Rose n now.write_faults) quiet.1 h.rose;
  failed = h.failed;
  reads = h.reads ∙ quiet.0;
})
leaves_after left output list was mid now (Err folder_error.Failed) kept quiet (inr h) = inr (record {
  name = h.name;
  named = h.named;
  written = where_after (ListIsPrefix left output h.name) (list_after left output h.name) was.files mid.files now.files kept h.written;
  rose = subst (λ (n : ℕ). Rose n now.write_faults) quiet.1 h.rose;
  failed = h.failed;
  reads = h.reads ∙ quiet.0;
})
leaves_after left output list was mid now (Err folder_error.NoMemory) kept quiet (inl h, none) =
    (inl (keeps_twice was.files mid.files now.files kept h), quiet_twice was mid now quiet none)
leaves_after left output list was mid now (Err folder_error.NoMemory) kept quiet (inr h, none) =
    (inr (where_after (OutputStands left output) (output_after left output) was.files mid.files now.files kept h), quiet_twice was mid now quiet none)

due_after : (trimmed : Result Trimmed Refusal) (output : List ℕ) (list : Option (List ℕ)) (was mid now : FolderState) (due : Status) → KeepsFiles was.files mid.files → NoFault was mid
    → IsDue trimmed output list mid now due → IsDue trimmed output list was now due
due_after (Ok left) output list was mid now due kept quiet h = (h.0, leaves_after left output list was mid now h.0 kept quiet h.1, h.2)
due_after (Err why) output list was mid now due kept quiet h = (h.0, keeps_twice was.files mid.files now.files kept h.1, quiet_twice was mid now quiet h.2)

given_after : (inputs descriptors files texts : List (List ℕ)) (output : List ℕ) (list : Option (List ℕ)) (opts : Opts) (was mid now : FolderState) (err0 err1 : SinkState) (answer : Status)
    → KeepsFiles was.files mid.files → NoFault was mid → GivenTrimmed inputs descriptors files texts output list opts mid now err0 err1 answer
    → GivenTrimmed inputs descriptors files texts output list opts was now err0 err1 answer
given_after inputs descriptors files texts output list opts was mid now err0 err1 answer kept quiet h = record {
  trimmed = h.trimmed;
  trims = h.trims;
  finished = record {
    due = h.finished.due;
    cause = due_after h.trimmed output list was mid now h.finished.due kept quiet h.finished.cause;
    reported = h.finished.reported;
  };
}

pub others_after : (names : List (List ℕ)) (a b c : Option Files) → KeepsFiles a b → KeepsOthers names b c → KeepsOthers names a c
others_after names a b c kept p = where_after (SameBut names) (but_after names) a b c kept p

pub others_kept : (names : List (List ℕ)) (a b : Option Files) → KeepsFiles a b → KeepsOthers names a b
others_kept names None b kept = tt
others_kept names (Some f) None kept = kept
others_kept names (Some f) (Some g) kept = λ other d. kept other

-- ---- names

untouched : (s : SinkState) → Prints [] s s
untouched s = (Appends-nil s.held, refl)

pub trimmed_names : (inputs descriptors : List (List ℕ)) (output : List ℕ) (list : Option (List ℕ)) (internalize : Bool) (given : Given) (was mid now : FolderState) (out err0 err1 : SinkState) (answer : Status)
    → ReadsGiven inputs descriptors was mid (Ok given) → KeepsFiles was.files mid.files
    → GivenTrimmed inputs descriptors given.files given.descriptors output list (opts_of internalize list) mid now err0 err1 answer
    → TrimCaused inputs descriptors output list internalize was now out out err0 err1 answer
trimmed_names inputs descriptors output list internalize given was mid now out err0 err1 answer read kept h = inl (record {
  files = given.files;
  texts = given.descriptors;
  told = read.0;
  described = read.1;
  printed = untouched out;
  given = given_after inputs descriptors given.files given.descriptors output list (opts_of internalize list) was mid now err0 err1 answer kept read.2 h;
})

pub unread_names : (inputs descriptors : List (List ℕ)) (output : List ℕ) (list : Option (List ℕ)) (internalize : Bool) (was now : FolderState) (out err0 err1 : SinkState) (e : FolderError) (answer : Status)
    → e ≡ folder_error.Failed → ReadsGiven inputs descriptors was now (Err e) → KeepsFiles was.files now.files → Reports (line_of [] [] ReadFault) ReadFault err0 err1 answer
    → TrimCaused inputs descriptors output list internalize was now out out err0 err1 answer
unread_names inputs descriptors output list internalize was now out err0 err1 e answer is read kept report = inr (inl (record {
  failed = subst (λ (x : FolderError). ReadsGiven inputs descriptors was now (Err x)) is read;
  kept = kept;
  printed = untouched out;
  reported = report;
}))

pub starved_names : (inputs descriptors : List (List ℕ)) (output : List ℕ) (list : Option (List ℕ)) (internalize : Bool) (was now : FolderState) (out err0 err1 : SinkState) (e : FolderError) (answer : Status)
    → e ≡ folder_error.NoMemory → ReadsGiven inputs descriptors was now (Err e) → KeepsFiles was.files now.files → Reports (line_of [] [] NoMemory) NoMemory err0 err1 answer
    → TrimCaused inputs descriptors output list internalize was now out out err0 err1 answer
starved_names inputs descriptors output list internalize was now out err0 err1 e answer is read kept report = inr (inr (record {
  quiet = subst (λ (x : FolderError). ReadsGiven inputs descriptors was now (Err x)) is read;
  kept = kept;
  printed = untouched out;
  reported = report;
}))
