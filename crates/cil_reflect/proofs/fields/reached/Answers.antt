use Rattle.cil_reflect.proofs.fields.reached.Goals as goal

pub returns : goal.returns
returns g c = c.in_ok-x.ensures c.args.st.now.top.stack
