-- What a run over files answered, and its status line, make the answer for the files, for the input and for the names.
use Rattle.std.proofs.Common.{◌≡◌, ℕ, List, [], length, Option, Some, None, Result, Ok, Err, refl, sym, ap, subst, ◌∙◌, inl, inr, arith}
use Rattle.std.proofs.KnownBytes.{Appends-nil, Consumes-nil}
use Rattle.std.proofs.lemmas.List.{take_all}
use Rattle.std.specs.Io.KnownBytes.{Appends, Consumes}
use Rattle.il_outside.specs.Folder.{FolderState}
use Rattle.il_outside.specs.Streams.{SourceState, SinkState, AppendsPrefix}
use Rattle.inputs.specs.declared.error.InputError.{InputError}
use Rattle.inputs.specs.declared.error.InputError.TheVariants as refusal
use Rattle.inputs.specs.Files.{input_fault}
use Rattle.run_rules.specs.declared.answers.EndKind.{EndKind}
use Rattle.run_rules.specs.declared.answers.ExecFault.{ExecFault}
use Rattle.run_rules.specs.declared.answers.ExecFault.TheVariants as fault
use Rattle.run_rules.specs.Answers.{RunsTo, RefusedBy, ExecsBy, ExecsTo}
use Rattle.run_rules.specs.Runs.{run_of_files}
use Rattle.status_lines.specs.declared.status.Status.{Status}
use Rattle.status_lines.specs.declared.status.Status.TheVariants.{WriteFault, NoMemory}
use Rattle.status_lines.specs.Lines.{line_of}
use Rattle.status_lines.specs.Reports.{Prints, Reports}
use Rattle.exec_command.specs.Input.{TakesSome}
use Rattle.exec_command.specs.Answer.{status_of, refused, PrintsPrefix, RunCaused, FilesCaused, ExecCaused}
use Rattle.exec_command.specs.Reporting.{StatusReported, RunReported}

-- all of it is a prefix
whole_prefix : (a b : Option (List ℕ)) (x : List ℕ) → Appends a b x → AppendsPrefix a b x
whole_prefix a b x h = (length x, subst (λ (t : List ℕ). Appends a b t) (sym (take_all (length x) x (omega arith))) h)

pub untouched : (s : SinkState) → Prints [] s s
untouched s = (Appends-nil s.held, refl)

-- want of memory was due; its line names nothing
starved : (names files : List (List ℕ)) (input : List ℕ) (steps : ℕ) (out0 out1 err0 err1 : SinkState) (answer : Status) → PrintsPrefix files input steps out0 out1
    → out1.faults ≡ out0.faults → Reports (line_of [] [] NoMemory) NoMemory err0 err1 answer → RunCaused names files input steps out0 out1 err0 err1 answer
starved names files input steps out0 out1 err0 err1 answer prints faults report = record { due = NoMemory; cause = inr (inr (inr (refl, prints, faults))); reported = report }

-- a run with its end
ran : (names files : List (List ℕ)) (input : List ℕ) (steps : ℕ) (out0 out1 err0 err1 : SinkState) (end : EndKind) (answer : Status) → input_fault files ≡ None
    → RunsTo (run_of_files files input steps) out0 out1 (Ok end) → StatusReported names files (status_of steps end) err0 err1 answer
    → RunCaused names files input steps out0 out1 err0 err1 answer
ran names files input steps out0 out1 err0 err1 end answer sound out (inl report) = record {
  due = status_of steps end;
  cause = inl (record { sound = sound; answer = ap (λ (e : EndKind). status_of steps e) out.0; printed = (out.1, out.2) });
  reported = report;
}
ran names files input steps out0 out1 err0 err1 end answer sound out (inr report) =
    starved names files input steps out0 out1 err0 err1 answer (inr (sound, whole_prefix out0.held out1.held (run_of_files files input steps).output out.1)) out.2 report

-- memory ran out before the end
starved_run : (names files : List (List ℕ)) (input : List ℕ) (steps : ℕ) (out0 out1 err0 err1 : SinkState) (answer : Status) → PrintsPrefix files input steps out0 out1
    → out1.faults ≡ out0.faults → StatusReported names files NoMemory err0 err1 answer → RunCaused names files input steps out0 out1 err0 err1 answer
starved_run names files input steps out0 out1 err0 err1 answer prints faults (inl report) = starved names files input steps out0 out1 err0 err1 answer prints faults report
starved_run names files input steps out0 out1 err0 err1 answer prints faults (inr report) = starved names files input steps out0 out1 err0 err1 answer prints faults report

-- a refusal that was due
refused_files : (names files : List (List ℕ)) (input : List ℕ) (steps : ℕ) (out0 out1 err0 err1 : SinkState) (due why : InputError) (answer : Status) → input_fault files ≡ Some due → due ≡ why
    → Prints [] out0 out1 → StatusReported names files (refused why) err0 err1 answer → RunCaused names files input steps out0 out1 err0 err1 answer
refused_files names files input steps out0 out1 err0 err1 due why answer told same printed (inl report) = record {
  due = refused why;
  cause = inr (inl (record { why = why; fault = told ∙ ap (λ (e : InputError). Some e) same; answer = refl; printed = printed }));
  reported = report;
}
refused_files names files input steps out0 out1 err0 err1 due why answer told same printed (inr report) = starved names files input steps out0 out1 err0 err1 answer (inl printed.0) printed.1 report

-- a refusal is the one that was due, or memory ran out
by_refusal : (names files : List (List ℕ)) (input : List ℕ) (steps : ℕ) (out0 out1 err0 err1 : SinkState) (due why : InputError) (answer : Status) → input_fault files ≡ Some due → RefusedBy due why
    → Prints [] out0 out1 → StatusReported names files (refused why) err0 err1 answer → RunCaused names files input steps out0 out1 err0 err1 answer
by_refusal names files input steps out0 out1 err0 err1 due refusal.NoMemory answer told by printed report = starved_run names files input steps out0 out1 err0 err1 answer (inl printed.0) printed.1 report
by_refusal names files input steps out0 out1 err0 err1 due (refusal.BadFile file at) answer told by printed report = refused_files names files input steps out0 out1 err0 err1 due (refusal.BadFile file at) answer told by printed report
by_refusal names files input steps out0 out1 err0 err1 due (refusal.Limit which found) answer told by printed report = refused_files names files input steps out0 out1 err0 err1 due (refusal.Limit which found) answer told by printed report
by_refusal names files input steps out0 out1 err0 err1 due (refusal.NoEntry token) answer told by printed report = refused_files names files input steps out0 out1 err0 err1 due (refusal.NoEntry token) answer told by printed report

run_caused_by : (names files : List (List ℕ)) (input : List ℕ) (steps : ℕ) (out0 out1 err0 err1 : SinkState) (o : Option InputError) (r : Result EndKind ExecFault) (answer : Status) → input_fault files ≡ o
    → ExecsBy o (run_of_files files input steps) out0 out1 r → RunReported names files steps r err0 err1 answer → RunCaused names files input steps out0 out1 err0 err1 answer
run_caused_by names files input steps out0 out1 err0 err1 None (Ok end) answer told out report = ran names files input steps out0 out1 err0 err1 end answer told out report
run_caused_by names files input steps out0 out1 err0 err1 None (Err fault.Write) answer told out report = record { due = WriteFault; cause = inr (inr (inl (refl, inr (told, out.0), out.1))); reported = report }
run_caused_by names files input steps out0 out1 err0 err1 None (Err (fault.Refused refusal.NoMemory)) answer told out report =
    starved_run names files input steps out0 out1 err0 err1 answer (inr (told, out.0)) out.1 report
run_caused_by names files input steps out0 out1 err0 err1 None (Err (fault.Refused (refusal.BadFile file at))) answer told out report = absurd out
run_caused_by names files input steps out0 out1 err0 err1 None (Err (fault.Refused (refusal.Limit which found))) answer told out report = absurd out
run_caused_by names files input steps out0 out1 err0 err1 None (Err (fault.Refused (refusal.NoEntry token))) answer told out report = absurd out
run_caused_by names files input steps out0 out1 err0 err1 (Some due) (Ok end) answer told out report = absurd out
run_caused_by names files input steps out0 out1 err0 err1 (Some due) (Err fault.Write) answer told out report = absurd out
run_caused_by names files input steps out0 out1 err0 err1 (Some due) (Err (fault.Refused why)) answer told out report =
    by_refusal names files input steps out0 out1 err0 err1 due why answer told out.0 (out.1, out.2) report

pub run_caused : (names files : List (List ℕ)) (input : List ℕ) (steps : ℕ) (out0 out1 err0 err1 : SinkState) (r : Result EndKind ExecFault) (answer : Status) → ExecsTo files input steps out0 out1 r
    → RunReported names files steps r err0 err1 answer → RunCaused names files input steps out0 out1 err0 err1 answer
run_caused names files input steps out0 out1 err0 err1 r answer out report = run_caused_by names files input steps out0 out1 err0 err1 (input_fault files) r answer refl out report

-- ---- the source

some_taken_by_files : (names files : List (List ℕ)) (steps : ℕ) (in0 in1 : SourceState) (out0 out1 err0 err1 : SinkState) (answer : Status) → FilesCaused names files steps in0 in1 out0 out1 err0 err1 answer → TakesSome in0 in1
some_taken_by_files names files steps in0 in1 out0 out1 err0 err1 answer (inl h) = (h.input, h.read.taken)
some_taken_by_files names files steps in0 in1 out0 out1 err0 err1 answer (inr (inl h)) = h.taken
some_taken_by_files names files steps in0 in1 out0 out1 err0 err1 answer (inr (inr (inl h))) = (h.taken.bytes, h.taken.taken)
some_taken_by_files names files steps in0 in1 out0 out1 err0 err1 answer (inr (inr (inr h))) = h.taken

none_taken : (in0 in1 : SourceState) → in1 ≡ in0 → TakesSome in0 in1
none_taken in0 in1 e = ([], subst (λ (s : SourceState). Consumes in0.left s.left []) (sym e) (Consumes-nil in0.left))

pub some_taken : (names : List (List ℕ)) (steps : ℕ) (was now : FolderState) (in0 in1 : SourceState) (out0 out1 err0 err1 : SinkState) (answer : Status)
    → ExecCaused names steps was now in0 in1 out0 out1 err0 err1 answer → TakesSome in0 in1
some_taken names steps was now in0 in1 out0 out1 err0 err1 answer (inl h) = some_taken_by_files names h.files steps in0 in1 out0 out1 err0 err1 answer h.caused
some_taken names steps was now in0 in1 out0 out1 err0 err1 answer (inr (inl h)) = none_taken in0 in1 h.unread
some_taken names steps was now in0 in1 out0 out1 err0 err1 answer (inr (inr h)) = none_taken in0 in1 h.unread
