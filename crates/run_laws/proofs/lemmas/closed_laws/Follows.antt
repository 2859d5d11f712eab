-- Where marking follows what each marked method names, no method with a flag has an operand that it doesn't follow.
use Rattle.std.proofs.Common.{◌≡◌, Bool, true, false, List, Option, Some, None, refl, sym, ap, ◌∙◌}
use Rattle.std.specs.Prelude.{IsTrue, slice_get}
use Rattle.std.specs.List.{list_any, flat_map}
use Rattle.std.specs.Option.{is_some}
use Rattle.std.proofs.lemmas.Bool.{true≢false}
use Rattle.std.proofs.lemmas.List.{append-nil}
use Rattle.il_base.specs.declared.world_model.members.MethodDefRow.{MethodDefRow}
use Rattle.il_base.specs.declared.world_model.record.AsmRec.{AsmRec}
use Rattle.rules.specs.declared.link_rules.row_at.RowAt.{RowAt}
use Rattle.rules.specs.link_rules.Cycles.{listed}
use Rattle.rules.specs.link_rules.Linked.{assemblies}
use Rattle.rules.specs.type_rules.Rows.{rec_at}
use Rattle.descriptor_file.specs.declared.root.Root.{Root}
use Rattle.rules.specs.mark_rules.Facts.{Fact}
use Rattle.rules.specs.mark_rules.Places.{marks_method}
use Rattle.rules.specs.mark_rules.Calls.{row_parts, parts_of_method}
use Rattle.rules.specs.mark_rules.Marking.{Marks}
use Rattle.rules.specs.mark_rules.NotYet.{is_operand, has_operand, IsFirstNotYet}
use Rattle.mark_numbers.specs.Numbers.{is_there}
use Rattle.run_laws.proofs.lemmas.marked_laws.Places.{method_row_of}
use Rattle.run_laws.specs.closed_laws.Laws.{OnlyMarks, MarkedFollows}

module _ (recs : List AsmRec) (at : RowAt) where
  -- a method with an operand is there
  operand_in : (rec : AsmRec) → rec_at recs at ≡ Some rec → (o : Option MethodDefRow) → slice_get rec.method_def at.row ≡ o
      → list_any (is_operand recs) (flat_map (row_parts recs at rec) (listed o)) ≡ true → IsTrue (is_there recs (marks_method recs at))
  unfolding is_there
  operand_in rec there None row h = absurd (true≢false (sym h))
  operand_in rec there (Some d) row h = ap is_some (method_row_of recs at rec there d row)

  operand_by : (o : Option AsmRec) → rec_at recs at ≡ o
      → list_any (is_operand recs) (flat_map (λ (rec : AsmRec). flat_map (row_parts recs at rec) (listed (slice_get rec.method_def at.row))) (listed o)) ≡ true → IsTrue (is_there recs (marks_method recs at))
  operand_by None there h = absurd (true≢false (sym h))
  operand_by (Some rec) there h =
      operand_in rec there (slice_get rec.method_def at.row) refl
      (ap (list_any (is_operand recs)) (sym (append-nil (flat_map (row_parts recs at rec) (listed (slice_get rec.method_def at.row))))) ∙ h)

  operand_there : has_operand recs at ≡ true → IsTrue (is_there recs (marks_method recs at))
  unfolding has_operand parts_of_method
  operand_there h = operand_by (rec_at recs at) refl h

module _ (inputs : List AsmRec) (entry : Option RowAt) (roots : List Root) (has : Fact → Bool) (only : OnlyMarks (assemblies inputs) entry roots has)
    (first : IsFirstNotYet (assemblies inputs) (Marks (assemblies inputs) entry roots) None) where
  abbrev recs : List AsmRec
  recs = assemblies inputs

  by_flag : (at : RowAt) (b : Bool) → IsTrue (has (marks_method recs at)) → has_operand recs at ≡ b → b ≡ false
  by_flag at true h e = absurd (first at.asm (record { row = at.row; is_marked = only (marks_method recs at) (operand_there recs at e) h; has = e }))
  by_flag at false h e = refl

pub all_followed : MarkedFollows
all_followed inputs entry roots has only first at h = by_flag inputs entry roots has only first at (has_operand (assemblies inputs) at) h refl
