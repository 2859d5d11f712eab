use Rattle.machine_objects.proofs.lemmas.cil_arrays.Telling.{address_none, address_one, address_tells, address_refused}
use Rattle.machine_objects.proofs.cil_arrays.addresses.address_element.Goals as goal

pub returns-in_default : goal.returns-in_default
returns-in_default c = λ q here i. address_none q here i c.args.st.now _ c.args.ty.now c.in_default.ensures

pub returns-in_default-next_operand : goal.returns-in_default-next_operand
returns-in_default-next_operand c = λ q here i. address_one q here i c.args.st.now _ _ _ c.in-Some.ensures c.args.ty.now c.in_default-next_operand.ensures

pub returns-in-Ok : goal.returns-in-Ok
returns-in-Ok c =
    address_tells c.args.st.now _ _ c.in-Ok.ensures.0 _ _ _ c.in-Some.ensures c.in-Some-next_operand.ensures c.args.ty.now _ c.address_found.ensures

pub returns-in-Err : goal.returns-in-Err
returns-in-Err c = λ q here i.
    address_refused c.args.st.now _ c.in-Err.why c.in-Err.ensures q here i _ _ _ _ c.in-Some.ensures c.in-Some-next_operand.ensures c.args.ty.now
