use Rattle.machine_objects.proofs.lemmas.cil_arrays.Telling.{length_none, length_tells, length_refused}
use Rattle.machine_objects.proofs.cil_arrays.loads.load_length.Goals as goal

pub returns-in_default : goal.returns-in_default
returns-in_default c = λ q here i. length_none q here i c.args.st.now _ c.in_default.ensures

pub returns-in-Ok : goal.returns-in-Ok
returns-in-Ok c = length_tells c.args.st.now _ _ c.in-Ok.ensures.0 _ c.in-Some.ensures _ c.length_of.ensures

pub returns-in-Err : goal.returns-in-Err
returns-in-Err c = λ q here i. length_refused c.args.st.now _ c.in-Err.why c.in-Err.ensures q here i _ _ c.in-Some.ensures
