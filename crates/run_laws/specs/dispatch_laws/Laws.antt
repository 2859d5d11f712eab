-- What two worlds answer a virtual call with, where the one has the kept rows of the other.
use Rattle.std.specs.Prelude.{◌≡◌, ℕ, List, Some, Bool, IsTrue}
use Rattle.std.specs.Option.{option_map}
use Rattle.il_base.specs.declared.world_model.expr.TypeExpr.{TypeExpr}
use Rattle.il_base.specs.declared.world_model.members.MethodDefRow.{MethodDefRow}
use Rattle.il_base.specs.declared.world_model.record.AsmRec.{AsmRec}
use Rattle.rules.specs.declared.link_rules.row_at.RowAt.{RowAt}
use Rattle.rules.specs.link_rules.Members.{with_bases}
use Rattle.rules.specs.type_rules.Slots.{method_row_at, nearest}
use Rattle.rules.specs.type_rules.Dispatch.{choice_in, class_dispatch, interface_method, interface_dispatch}
use Rattle.base_laws.specs.walk_laws.Walks.{BasesWhole, SlotsWhole}
use Rattle.rules.specs.view_rules.Answers.{answers_query}
use Rattle.rules.specs.change_rules.Change.{Change}
use Rattle.rules.specs.change_rules.Moves.{move_expr, move_use}
use Rattle.rules.specs.change_rules.Keeps.{keeps_expr}
use Rattle.rules.specs.world_change_rules.Places.{Places, keeps_method_row}
use Rattle.rules.specs.world_change_rules.Rows.{RowsMove}
use Rattle.rules.specs.world_change_rules.Kept.{KeepsRows}
use Rattle.run_laws.specs.dispatch_laws.Kept.{Apart, KeepsImpls, KeepsRuns, move_choice}

-- where bases and slots of both worlds are whole, as in every world of files that link
abbrev pub ClassRunsMove : Type 0
ClassRunsMove =
    (k : Change) (kept : RowAt → Bool) (p : Places) (after before : List AsmRec) → RowsMove k kept p after before → KeepsRows k.keep kept before → Apart k.keep p before → KeepsImpls k.keep before
    → BasesWhole after → BasesWhole before → SlotsWhole after → SlotsWhole before
    → (e : TypeExpr) (slot : RowAt) (m : MethodDefRow) → IsTrue (keeps_expr k.keep e) → IsTrue (keeps_method_row k.keep before slot) → method_row_at before slot ≡ Some m
    → ((found : RowAt) → class_dispatch before e slot ≡ Some found → IsTrue (keeps_method_row k.keep before found))
    → class_dispatch after (move_expr k.rho e) (p.method slot) ≡ option_map p.method (class_dispatch before e slot)

-- where the type chooses the same interface instance
abbrev pub InterfaceRunsMove : Type 0
InterfaceRunsMove =
    (k : Change) (kept : RowAt → Bool) (p : Places) (after before : List AsmRec) → RowsMove k kept p after before → KeepsRows k.keep kept before → Apart k.keep p before → KeepsImpls k.keep before
    → BasesWhole after → BasesWhole before → SlotsWhole after → SlotsWhole before
    → (e instance : TypeExpr) (slot : RowAt) (m : MethodDefRow) → IsTrue (keeps_expr k.keep e) → IsTrue (keeps_method_row k.keep before slot) → method_row_at before slot ≡ Some m
    → nearest (choice_in after (move_expr k.rho instance)) (with_bases after (move_expr k.rho e)) ≡ option_map (move_choice k.rho) (nearest (choice_in before instance) (with_bases before e))
    → ((found : RowAt) → interface_method before e instance slot ≡ Some found → IsTrue (keeps_method_row k.keep before found))
    → ((found : RowAt) → interface_dispatch before e instance slot ≡ Some found → IsTrue (keeps_method_row k.keep before found))
    → interface_dispatch after (move_expr k.rho e) (move_expr k.rho instance) (p.method slot) ≡ option_map p.method (interface_dispatch before e instance slot)

-- what a virtual call runs, and the type in which it is found
abbrev pub AnswersMove : Type 0
AnswersMove =
    (k : Change) (kept : RowAt → Bool) (p : Places) (after before : List AsmRec) → RowsMove k kept p after before → KeepsRows k.keep kept before → Apart k.keep p before → KeepsImpls k.keep before
    → BasesWhole after → BasesWhole before → SlotsWhole after → SlotsWhole before
    → (e owner : TypeExpr) (m : ℕ) → IsTrue (keeps_expr k.keep e) → IsTrue (k.keep.method m) → KeepsRuns k after before e owner m
    → answers_query after (move_expr k.rho e) (move_expr k.rho owner) (k.rho.method m) ≡ option_map (move_use k.rho) (answers_query before e owner m)
