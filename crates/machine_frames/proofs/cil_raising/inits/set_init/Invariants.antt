use Rattle.std.proofs.Common.{◌≡◌, map}
use Rattle.rules.specs.step_rules.Raising.{change_init}
use Rattle.machine_frames.proofs.cil_raising.inits.set_init.Given as goal

abbrev pub invariant-loop-x : goal.invariant-loop-x
invariant-loop-x l = l.noted ≡ map (change_init l.ty l.init) l.yielded
