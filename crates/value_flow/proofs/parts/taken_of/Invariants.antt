use Rattle.std.proofs.Common.{◌≡◌, ◌++◌, drop}
use Rattle.std.specs.List.{flat_map}
use Rattle.il_base.specs.declared.body.Instr.{Instr}
use Rattle.rules.specs.flow_rules.Moves.{taken_by, taken_of}
use Rattle.value_flow.specs.body_graph.Methods.{setting_in}
use Rattle.value_flow.proofs.parts.taken_of.Given as goal

abbrev pub invariant-loop-i : goal.invariant-loop-i
invariant-loop-i l =
    l.taken.items ++ flat_map (λ (i : Instr). taken_by (setting_in l.m) i.form i.operand) (drop l.i-index l.m.body.now.code) ≡ taken_of (setting_in l.m)
