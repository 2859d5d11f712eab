use Rattle.rules.proofs.lemmas.step_rules.Computed as computed
use Rattle.rules.proofs.step_rules.creation.Goals as goal

pub returns-clause-constructor : goal.returns-clause-constructor
returns-clause-constructor c = computed.creates

pub returns-clause-zero : goal.returns-clause-zero
returns-clause-zero c = computed.creates_zero

pub returns-clause-none : goal.returns-clause-none
returns-clause-none c = computed.creates_nothing
