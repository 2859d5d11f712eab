use Rattle.std.proofs.Common.{◌∷◌}
use Rattle.rules.specs.step_rules.Words.{goes}
use Rattle.rules.specs.step_rules.Types.{unboxes}
use Rattle.machine_objects.proofs.lemmas.cil_types.Unboxing.{no_operand, refused_by, value_is}
use Rattle.machine_objects.proofs.cil_types.unboxes.value_of.Goals as goal

pub returns-in-Ok : goal.returns-in-Ok
returns-in-Ok c = value_is c.args.st.now c.args.ty.now c.in-Some.r.now _ c.in-Some.ensures _ _ _ c.in-Ok.ensures c.copied.ensures

pub returns-in-Err : goal.returns-in-Err
returns-in-Err c = λ q here i.
    refused_by c.args.st.now c.args.ty.now c.in-Some.r.now _ c.in-Some.ensures q here i (λ stack a w. goes here i (w ∷ stack) c.args.st.now) c.in-Err.why c.in-Err.ensures

pub returns-in_default : goal.returns-in_default
returns-in_default c = λ q here i.
    no_operand q here i c.args.st.now _ (λ v stack. unboxes q c.args.st.now c.args.ty.now v (λ a w. goes here i (w ∷ stack) c.args.st.now)) c.in_default.ensures
