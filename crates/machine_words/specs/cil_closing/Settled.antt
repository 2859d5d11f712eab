-- Types and signatures that are the same with any arguments put in.
use Rattle.std.specs.Prelude.{◌≡◌, List, Some}
use Rattle.il_base.specs.declared.world_model.expr.TypeExpr.{TypeExpr}
use Rattle.il_base.specs.declared.world_model.expr.MethodUse.{MethodUse}
use Rattle.il_base.specs.declared.cil_values.definition.Signature.{Signature}
use Rattle.rules.specs.step_rules.Queries.{Queries}
use Rattle.rules.specs.step_rules.Closing.{closed_slot, closed_return, closed_signature, all_of}

abbrev pub SettledSlot : Queries → TypeExpr → Type 0
SettledSlot q e = (targs margs : List TypeExpr) → closed_slot q targs margs e ≡ Some e

abbrev pub SettledReturn : Queries → TypeExpr → Type 0
SettledReturn q e = (targs margs : List TypeExpr) → closed_return q targs margs e ≡ Some e

abbrev pub SettledSlots : Queries → List TypeExpr → Type 0
SettledSlots q es = (targs margs : List TypeExpr) → all_of (closed_slot q targs margs) es ≡ Some es

abbrev pub SettledSignature : Queries → Signature → Type 0
SettledSignature q sig = (u : MethodUse) → closed_signature q u sig ≡ Some sig
