use Rattle.machine_objects.proofs.cil_fields.forms.load_whole.Goals as goal

pub returns : goal.returns
returns g c = c.in_ok-out.ensures c.args.st.now.top.stack
