use Rattle.rules.proofs.lemmas.step_rules.Computed as computed
use Rattle.rules.proofs.step_rules.exceptions.Goals as goal

pub returns-clause-catches : goal.returns-clause-catches
returns-clause-catches c = computed.catches

pub returns-clause-leaves : goal.returns-clause-leaves
returns-clause-leaves c = computed.leaves

pub returns-clause-ends : goal.returns-clause-ends
returns-clause-ends c = computed.ends_finally

pub returns-clause-falls : goal.returns-clause-falls
returns-clause-falls c = computed.falls_out
