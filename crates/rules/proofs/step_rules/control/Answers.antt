use Rattle.rules.proofs.lemmas.step_rules.Computed as computed
use Rattle.rules.proofs.step_rules.control.Goals as goal

pub returns-clause-branches : goal.returns-clause-branches
returns-clause-branches c = computed.branches

pub returns-clause-calls : goal.returns-clause-calls
returns-clause-calls c = computed.calls

pub returns-clause-prints : goal.returns-clause-prints
returns-clause-prints c = computed.prints

pub returns-clause-operand : goal.returns-clause-operand
returns-clause-operand c = computed.bad_operand

pub returns-clause-stack : goal.returns-clause-stack
returns-clause-stack c = computed.empty_stack
