-- What two worlds of files that link answer of a kept type, where the one has the kept rows of the other.
use Rattle.std.specs.Prelude.{◌≡◌, List, None, Bool, IsTrue}
use Rattle.std.specs.Option.{option_map}
use Rattle.il_base.specs.declared.world_model.expr.TypeExpr.{TypeExpr}
use Rattle.il_base.specs.declared.world_model.record.AsmRec.{AsmRec}
use Rattle.rules.specs.declared.link_rules.row_at.RowAt.{RowAt}
use Rattle.rules.specs.link_rules.Members.{with_bases}
use Rattle.rules.specs.link_rules.Linked.{assemblies, link_fault_of}
use Rattle.rules.specs.type_rules.Subtypes.{is_subtype}
use Rattle.rules.specs.type_rules.Slots.{nearest}
use Rattle.rules.specs.type_rules.Dispatch.{choice_in}
use Rattle.rules.specs.change_rules.Change.{Change}
use Rattle.rules.specs.change_rules.Moves.{move_expr}
use Rattle.rules.specs.change_rules.Keeps.{keeps_expr, keeps_defined}
use Rattle.rules.specs.world_change_rules.Places.{Places}
use Rattle.rules.specs.world_change_rules.Rows.{RowsMove}
use Rattle.rules.specs.world_change_rules.Kept.{KeepsRows}
use Rattle.run_laws.specs.dispatch_laws.Kept.{move_choice}
use Rattle.run_laws.specs.subtype_laws.Gone.{KeepsImplied}

abbrev pub ForLinked : ((k : Change) (after before : List AsmRec) → Type 0) → Type 0
ForLinked P =
    (k : Change) (kept : RowAt → Bool) (p : Places) (outputs inputs : List AsmRec) → link_fault_of outputs ≡ None → link_fault_of inputs ≡ None
    → RowsMove k kept p (assemblies outputs) (assemblies inputs) → KeepsRows k.keep kept (assemblies inputs) → KeepsImplied k.keep kept (assemblies inputs)
    → P k (assemblies outputs) (assemblies inputs)

abbrev pub BelowMoves : Type 0
BelowMoves = ForLinked (λ k after before. (a b : TypeExpr) → IsTrue (keeps_expr k.keep a) → IsTrue (keeps_defined k.keep b)
    → is_subtype after (move_expr k.rho a) (move_expr k.rho b) ≡ is_subtype before a b)

abbrev pub ChoicesMove : Type 0
ChoicesMove = ForLinked (λ k after before. (e wanted : TypeExpr) → IsTrue (keeps_expr k.keep e) → IsTrue (keeps_expr k.keep wanted)
    → nearest (choice_in after (move_expr k.rho wanted)) (with_bases after (move_expr k.rho e)) ≡ option_map (move_choice k.rho) (nearest (choice_in before wanted) (with_bases before e)))
