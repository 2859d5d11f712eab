-- What virtual calls run is marked, in a world of files that link (II.10.3, II.12.2).
use Rattle.std.specs.Prelude.{◌≡◌, ◌<◌, ℕ, List, length, Option, Some, None, Bool, slice_get, IsTrue}
use Rattle.std.specs.Option.{option_and_then}
use Rattle.il_base.specs.declared.world_model.expr.TypeExpr.{TypeExpr}
use Rattle.il_base.specs.declared.world_model.record.AsmRec.{AsmRec}
use Rattle.rules.specs.declared.link_rules.row_at.RowAt.{RowAt}
use Rattle.rules.specs.link_rules.Linked.{assemblies, link_fault_of}
use Rattle.rules.specs.type_rules.Dispatch.{in_interface, interface_method, dispatch_slot}
use Rattle.il_base.specs.declared.cil_values.definition.Method.{Method}
use Rattle.rules.specs.view_rules.Methods.{method_query}
use Rattle.descriptor_file.specs.declared.root.Root.{Root}
use Rattle.rules.specs.mark_rules.Facts.{Fact}
use Rattle.rules.specs.change_rules.Change.{Keep}
use Rattle.rules.specs.change_rules.Keeps.{keeps_expr, keeps_made, is_of}
use Rattle.rules.specs.world_change_rules.Places.{keeps_method_row}
use Rattle.rules.specs.world_change_rules.Kept.{KeepsRows}
use Rattle.run_laws.specs.dispatch_laws.Kept.{slot_numbered}
use Rattle.run_laws.specs.subtype_laws.Gone.{KeepsImplied}
use Rattle.run_laws.specs.marked_laws.Flags.{HasMarks, keep_of, kept_of}

-- A token has three bytes for its row (II.22), so a file has fewer types.
abbrev pub HasFewTypes : List AsmRec → Type 0
HasFewTypes recs = (a : ℕ) (rec : AsmRec) → slice_get recs a ≡ Some rec → length rec.type_def < 16777216

-- a method is called on a type of the definition that it is of
abbrev pub IsOwned : List AsmRec → TypeExpr → ℕ → Type 0
IsOwned recs owner m = (f : Method) → method_query recs m ≡ Some f → IsTrue (is_of f.owner owner)

abbrev pub ForCalls : ((k : Keep) (recs : List AsmRec) (e owner : TypeExpr) (m : ℕ) → Type 0) → Type 0
ForCalls P =
    (inputs : List AsmRec) (entry : Option RowAt) (roots : List Root) (has : Fact → Bool) → link_fault_of inputs ≡ None → HasFewTypes inputs → HasMarks (assemblies inputs) entry roots has
    → KeepsRows (keep_of (assemblies inputs) has) (kept_of (assemblies inputs) has) (assemblies inputs)
    → KeepsImplied (keep_of (assemblies inputs) has) (kept_of (assemblies inputs) has) (assemblies inputs)
    → (e owner : TypeExpr) (m : ℕ) → IsTrue (keeps_made (keep_of (assemblies inputs) has) e) → IsTrue (keeps_expr (keep_of (assemblies inputs) has) owner)
    → IsTrue ((keep_of (assemblies inputs) has).method m) → IsOwned (assemblies inputs) owner m → P (keep_of (assemblies inputs) has) (assemblies inputs) e owner m

abbrev pub MarkedRuns : Type 0
MarkedRuns = ForCalls (λ k recs e owner m. (f : RowAt) → option_and_then (dispatch_slot recs e owner) (slot_numbered recs m) ≡ Some f → IsTrue (keeps_method_row k recs f))

abbrev pub MarkedFinds : Type 0
MarkedFinds = ForCalls (λ k recs e owner m. (s f : RowAt) → slot_numbered recs m ≡ Some s → IsTrue (in_interface recs s) → interface_method recs e owner s ≡ Some f
    → IsTrue (keeps_method_row k recs f))
