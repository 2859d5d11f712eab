use Rattle.machine_calls.proofs.cil_making.making.gives_object.Goals as goal

pub returns : goal.returns
returns c = λ bytes. c.in_ok-out.ensures bytes c.args.returned
