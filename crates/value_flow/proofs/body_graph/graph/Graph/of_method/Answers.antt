use Rattle.value_flow.proofs.body_graph.graph.Graph.of_method.Goals as goal

pub returns-in-Ok-None : goal.returns-in-Ok-None
returns-in-Ok-None c = rw (c.in-Ok-None.field-0-is, c.as_slice-2.ensures, c.in-Ok-exits_of.ensures, c.from.ensures) at c.in-Ok-None.ensures
