-- Where the marked set is kept, all that a step of a kept method can reach is kept, in a world of files that link.
use Rattle.std.specs.Prelude.{◌≡◌, ℕ, List, Option, None, Bool, IsTrue}
use Rattle.il_base.specs.declared.world_model.record.AsmRec.{AsmRec}
use Rattle.rules.specs.declared.link_rules.row_at.RowAt.{RowAt}
use Rattle.rules.specs.link_rules.Linked.{assemblies, link_fault_of}
use Rattle.descriptor_file.specs.declared.root.Root.{Root}
use Rattle.rules.specs.mark_rules.Facts.{Fact}
use Rattle.rules.specs.mark_rules.Marking.{Marks}
use Rattle.rules.specs.mark_rules.BadItems.{IsFirstFlaw}
use Rattle.rules.specs.mark_rules.NotYet.{IsFirstNotYet}
use Rattle.mark_numbers.specs.Numbers.{is_there}
use Rattle.base_laws.specs.world_laws.Inputs.{AreRecords}
use Rattle.rules.specs.step_rules.Run.{run_from}
use Rattle.rules.specs.view_rules.Answers.{queries_of}
use Rattle.rules.specs.change_rules.Change.{Change}
use Rattle.rules.specs.change_rules.Keeps.{can_call}
use Rattle.rules.specs.world_change_rules.Places.{Places}
use Rattle.rules.specs.world_change_rules.Rows.{RowsMove}
use Rattle.run_laws.specs.dispatch_laws.Kept.{Apart}
use Rattle.run_laws.specs.lock_steps.Laws.{move_outcome}
use Rattle.run_laws.specs.agree_laws.Closed.{Closed}
use Rattle.run_laws.specs.marked_laws.Flags.{HasMarks, keep_of, kept_of, RunsEnd, NestsWithin}
use Rattle.run_laws.specs.marked_code_laws.Laws.{MethodsApart, FieldsApart, AreRead, AreFollowed}
use Rattle.run_laws.specs.marked_call_laws.Laws.{HasFewTypes}

-- properties of files, and of a set of facts without bad items and without reflection that marking doesn't follow
pub record AreSound (inputs : List AsmRec) (has : Fact → Bool) : Type 0 where
  pub few : HasFewTypes inputs
  pub ends : RunsEnd (assemblies inputs)
  pub nests : NestsWithin (assemblies inputs)
  pub methods : MethodsApart (assemblies inputs)
  pub fields : FieldsApart (assemblies inputs)
  pub reads : AreRead (assemblies inputs) has
  pub follows : AreFollowed (assemblies inputs) has

abbrev pub MarkedClosed : Type 0
MarkedClosed =
    (inputs : List AsmRec) (entry : Option RowAt) (roots : List Root) (has : Fact → Bool) → link_fault_of inputs ≡ None → HasMarks (assemblies inputs) entry roots has → AreSound inputs has
    → Closed (keep_of (assemblies inputs) has) (kept_of (assemblies inputs) has) (assemblies inputs)

-- the flags of facts whose item or type is there are set for marked ones alone
abbrev pub OnlyMarks : List AsmRec → Option RowAt → List Root → (Fact → Bool) → Type 0
OnlyMarks recs entry roots has = (f : Fact) → IsTrue (is_there recs f) → IsTrue (has f) → Marks recs entry roots f

-- Where only marked facts have flags and no marked item is bad, signatures and locals of methods with a flag and a body have a reading.
abbrev pub MarkedReads : Type 0
MarkedReads =
    (inputs : List AsmRec) (entry : Option RowAt) (roots : List Root) (has : Fact → Bool) → OnlyMarks (assemblies inputs) entry roots has
    → IsFirstFlaw (assemblies inputs) entry (Marks (assemblies inputs) entry roots) None → AreRead (assemblies inputs) has

-- Where only marked facts have flags and marking follows what each marked method names, so it does for methods with a flag.
abbrev pub MarkedFollows : Type 0
MarkedFollows =
    (inputs : List AsmRec) (entry : Option RowAt) (roots : List Root) (has : Fact → Bool) → OnlyMarks (assemblies inputs) entry roots has
    → IsFirstNotYet (assemblies inputs) (Marks (assemblies inputs) entry roots) None → AreFollowed (assemblies inputs) has

-- Inputs that are records have the rest.
abbrev pub RecordsSound : Type 0
RecordsSound =
    (inputs : List AsmRec) (has : Fact → Bool) → AreRecords inputs → HasFewTypes inputs → AreRead (assemblies inputs) has → AreFollowed (assemblies inputs) has → AreSound inputs has

-- So a trim runs as its inputs do, from each kept method that can be called, for any input and any number of steps: where both are
-- records that link, the marked set has no bad item and no reflection that marking doesn't follow, and the outputs have the rows of
-- what is marked, of names that only modifiers use at least those that what is marked names.
abbrev pub MarkedTrimsRun : Type 0
MarkedTrimsRun =
    (k : Change) (p : Places) (outputs inputs : List AsmRec) (entry : Option RowAt) (roots : List Root) (has : Fact → Bool) → link_fault_of outputs ≡ None → link_fault_of inputs ≡ None
    → AreRecords outputs → AreRecords inputs → HasFewTypes inputs
    → HasMarks (assemblies inputs) entry roots has → OnlyMarks (assemblies inputs) entry roots has → IsFirstFlaw (assemblies inputs) entry (Marks (assemblies inputs) entry roots) None
    → IsFirstNotYet (assemblies inputs) (Marks (assemblies inputs) entry roots) None
    → k.keep ≡ keep_of (assemblies inputs) has → RowsMove k (kept_of (assemblies inputs) has) p (assemblies outputs) (assemblies inputs) → Apart k.keep p (assemblies inputs)
    → (m : ℕ) → IsTrue (can_call k.keep m) → (bytes : List ℕ) (n : ℕ)
    → run_from (queries_of (assemblies outputs)) (k.rho.method m) bytes n ≡ move_outcome k.rho (run_from (queries_of (assemblies inputs)) m bytes n)
