-- Forms opened.
use Rattle.std.proofs.Common.{◌≡◌, refl}
use Rattle.std.specs.Prelude.{not}
use Rattle.std.specs.List.{list_any}
use Rattle.il_base.specs.declared.cil_values.state.State.{State}
use Rattle.il_base.specs.declared.cil_values.resolved.Instruction.{Instruction}
use Rattle.rules.specs.step_rules.Queries.{Queries}
use Rattle.rules.specs.step_rules.Words.{Here, given, required, good}
use Rattle.rules.specs.step_rules.Returns.{in_block, return, returns}

pub return_opened : (q : Queries) (here : Here) (i : Instruction) (s : State) → return q here i s ≡ required (not (list_any (in_block i.at) here.code.clauses)) s (given (good here.method.signature) s (returns q here s))
unfolding return
return_opened q here i s = refl
