use Rattle.rules.proofs.lemmas.step_rules.Computed as computed
use Rattle.rules.proofs.step_rules.arithmetic.Goals as goal

pub returns-clause-sum : goal.returns-clause-sum
returns-clause-sum c = computed.adds

pub returns-clause-by_zero : goal.returns-clause-by_zero
returns-clause-by_zero c = computed.divides_by_zero

pub returns-clause-least : goal.returns-clause-least
returns-clause-least c = computed.divides_least

pub returns-clause-converted : goal.returns-clause-converted
returns-clause-converted c = computed.converts

pub returns-clause-shifted : goal.returns-clause-shifted
returns-clause-shifted c = computed.shifts
