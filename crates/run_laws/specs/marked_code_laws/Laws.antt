-- What the signature and the body of a marked method name is kept, in a world of files that link.
use Rattle.std.specs.Prelude.{◌≡◌, ◌≤◌, ℕ, List, Some, slice_get, Bool, true, false, IsTrue}
use Rattle.il_base.specs.declared.world_model.known.Known.TheVariants.{Good}
use Rattle.il_base.specs.declared.body.Body.{Body}
use Rattle.il_base.specs.declared.world_model.types.TypeDefRow.{TypeDefRow}
use Rattle.il_base.specs.declared.world_model.members.MethodDefRow.{MethodDefRow}
use Rattle.il_base.specs.declared.world_model.record.AsmRec.{AsmRec}
use Rattle.rules.specs.declared.link_rules.row_at.RowAt.{RowAt}
use Rattle.rules.specs.link_rules.Members.{owns_method, owns_field}
use Rattle.rules.specs.mark_rules.Facts.{Fact}
use Rattle.rules.specs.mark_rules.Places.{marks_method}
use Rattle.rules.specs.mark_rules.Bodies.{is_read, are_locals_read}
use Rattle.rules.specs.mark_rules.NotYet.{has_operand}
use Rattle.il_base.specs.declared.cil_values.definition.Method.{Method}
use Rattle.rules.specs.view_rules.Methods.{method_query}
use Rattle.rules.specs.view_rules.Answers.{queries_of}
use Rattle.rules.specs.change_rules.Keeps.{keeps_method}
use Rattle.run_laws.specs.marked_laws.Flags.{keep_of}
use Rattle.run_laws.specs.marked_laws.Laws.{ForMarked}

-- Runs begin at rows from 1, and no row is in those of two types, as in files (II.22.37).
pub record RunsApart (owns : ℕ → TypeDefRow → Bool) (first : TypeDefRow → ℕ) (recs : List AsmRec) : Type 0 where
  pub begin : (a i : ℕ) (rec : AsmRec) (t : TypeDefRow) → slice_get recs a ≡ Some rec → slice_get rec.type_def i ≡ Some t → 1 ≤ first t
  pub apart : (a i j k : ℕ) (rec : AsmRec) (s t : TypeDefRow) → slice_get recs a ≡ Some rec → slice_get rec.type_def i ≡ Some s → slice_get rec.type_def j ≡ Some t
      → owns k s ≡ true → owns k t ≡ true → i ≡ j

abbrev pub MethodsApart : List AsmRec → Type 0
MethodsApart recs = RunsApart owns_method (λ t. t.method_list_first) recs

abbrev pub FieldsApart : List AsmRec → Type 0
FieldsApart recs = RunsApart owns_field (λ t. t.field_list_first) recs

-- the signature and the locals of a marked method have a reading: one without is a bad item
abbrev pub AreRead : List AsmRec → (Fact → Bool) → Type 0
AreRead recs has =
    (at : RowAt) (rec : AsmRec) (m : MethodDefRow) → IsTrue (has (marks_method recs at)) → slice_get recs at.asm ≡ Some rec → slice_get rec.method_def at.row ≡ Some m
    → (b : Body) → m.body ≡ Some (Good b) → IsTrue (is_read m.signature) × IsTrue (are_locals_read rec b.locals)

-- no marked method has an operand that names a member of reflection that does more than look at types
abbrev pub AreFollowed : List AsmRec → (Fact → Bool) → Type 0
AreFollowed recs has = (at : RowAt) → IsTrue (has (marks_method recs at)) → has_operand recs at ≡ false

abbrev pub MarkedMethods : Type 0
MarkedMethods = ForMarked (λ recs has. MethodsApart recs → FieldsApart recs → AreRead recs has → AreFollowed recs has
    → (m : ℕ) (f : Method) → IsTrue ((keep_of recs has).method m) → method_query recs m ≡ Some f → IsTrue (keeps_method (keep_of recs has) (queries_of recs) f))
