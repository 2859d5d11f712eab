use Rattle.std.proofs.Common.{◌∷◌}
use Rattle.il_base.specs.declared.cil_values.value.Value.TheVariants as value
use Rattle.rules.specs.step_rules.Words.{goes}
use Rattle.rules.specs.step_rules.Types.{unboxes}
use Rattle.rules.specs.step_rules.Dispatch.{path_into_box}
use Rattle.machine_objects.proofs.lemmas.cil_types.Unboxing.{no_operand, refused_by, pointer_is}
use Rattle.machine_objects.proofs.cil_types.unboxes.pointer_of.Goals as goal

pub returns-in-Ok : goal.returns-in-Ok
returns-in-Ok c = pointer_is c.args.st.now c.args.ty.now c.in-Some.r.now _ c.in-Some.ensures _ _ _ c.in-Ok.ensures c.box_pointer.ensures

pub returns-in-Err : goal.returns-in-Err
returns-in-Err c = λ q here i.
    refused_by c.args.st.now c.args.ty.now c.in-Some.r.now _ c.in-Some.ensures q here i (λ stack a w. goes here i (value.Pointer (path_into_box a c.args.ty.now) ∷ stack) c.args.st.now) c.in-Err.why c.in-Err.ensures

pub returns-in_default : goal.returns-in_default
returns-in_default c = λ q here i.
    no_operand q here i c.args.st.now _ (λ v stack. unboxes q c.args.st.now c.args.ty.now v (λ a w. goes here i (value.Pointer (path_into_box a c.args.ty.now) ∷ stack) c.args.st.now)) c.in_default.ensures
