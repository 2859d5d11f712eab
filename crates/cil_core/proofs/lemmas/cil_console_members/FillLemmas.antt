-- Arrays that are filled.
use Rattle.std.proofs.Common.{◌≡◌, ◌∙◌, refl, sym, ap, ℕ, List, [], length}
use Rattle.std.specs.Prelude.{Option, Some, Result, Ok, Err, IfOk, slice_get}
use Rattle.il_base.specs.declared.world_model.expr.TypeExpr.{TypeExpr}
use Rattle.il_base.specs.declared.cil_values.value.Value.{Value}
use Rattle.il_base.specs.declared.cil_values.object.Obj.{Obj}
use Rattle.il_base.specs.declared.cil_values.object.Obj.TheVariants as object
use Rattle.il_base.specs.declared.cil_values.layout.Shape.{Shape}
use Rattle.il_base.specs.declared.cil_values.layout.Shape.TheVariants as shape
use Rattle.il_base.specs.declared.cil_values.state.State.{State}
use Rattle.rules.specs.step_rules.Queries.{Queries}
use Rattle.rules.specs.step_rules.CoreWords.{Gives}
use Rattle.rules.specs.step_rules.Words.{given, object_at}
use Rattle.rules.specs.step_rules.CoreArrays.{fill_by, fill_object}
use Rattle.cil_core.specs.declared.cil_members.core_out.CoreOut.{CoreOut}
use Rattle.cil_core.specs.cil_members.Outs.{gives_by}
use Rattle.cil_core.specs.cil_console_members.Fills.{code_in, fill_by_code}

filled_by : (q : Queries) (s : State) (give : Gives) (a : ℕ) (of : TypeExpr) (cells : List Value) (f : ℕ) (sh : Shape) → fill_by q s give a of cells f sh ≡ fill_by_code q s give a of cells f (code_in sh)
filled_by q s give a of cells f (shape.Integer code) = refl
filled_by q s give a of cells f shape.Reference = refl
filled_by q s give a of cells f shape.Pointer = refl
filled_by q s give a of cells f shape.TypeHandle = refl
filled_by q s give a of cells f shape.FieldHandle = refl
filled_by q s give a of cells f (shape.Structure layouts) = refl
filled_by q s give a of cells f shape.NoValue = refl

pub object_filled : {E : Type 0} (r : Result CoreOut E) (q : Queries) (s t : State) (a f : ℕ) (of copy : TypeExpr) (cells : List Value) (count : ℕ)
    → slice_get s.heap a ≡ Some (object.Array of cells) → copy ≡ of → count ≡ length cells
    → IfOk r (λ out. (give : Gives) (cs : List Value) → count ≡ length cs → gives_by out t [] give ≡ fill_by_code q s give a copy cs f (code_in (q.shape copy)))
    → IfOk r (λ out. (give : Gives) → gives_by out t [] give ≡ given (object_at s a) s (fill_object q s give a f))
object_filled (Err e) q s t a f of copy cells count g c n h = h
object_filled (Ok out) q s t a f of copy cells count g c n h = λ give.
    h give cells n
    ∙ ap (λ (e : TypeExpr). fill_by_code q s give a e cells f (code_in (q.shape e))) c
    ∙ sym (filled_by q s give a of cells f (q.shape of))
    ∙ sym (ap (λ (o : Option Obj). given o s (fill_object q s give a f)) g)
