use Rattle.std.proofs.Common.{◌≡◌, ◌++◌, map, drop}
use Rattle.il_base.specs.declared.cil_values.resolved.Instruction.{Instruction}
use Rattle.cil_world.proofs.world_methods.methods.offsets.Given as goal

abbrev pub invariant-loop-i : goal.invariant-loop-i
invariant-loop-i l = l.keys.items ++ map (λ (i : Instruction). i.at) (drop l.i-index l.code) ≡ map (λ (i : Instruction). i.at) l.code
