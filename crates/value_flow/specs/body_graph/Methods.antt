-- A method of a world with its body.
use Rattle.std.specs.Prelude.{◌≡◌, Some, slice_get}
use Rattle.rules.specs.link_rules.Linked.{IsWorld}
use Rattle.rules.specs.flow_rules.Methods.{Setting}
use Rattle.value_flow.specs.declared.body_graph.methods.Method.{Method}

abbrev pub setting_in : Method → Setting
setting_in m = record { asm = m.asm; rec = m.rec.now; own = m.own; locals = m.locals; body = m.body.now }

-- its assembly is in its place in a world that a link gave
pub record IsHere (m : Method) : Type 0 where
  pub world : IsWorld m.world.now
  pub here : slice_get m.world.now.recs m.asm ≡ Some m.rec.now
