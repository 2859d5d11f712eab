use Rattle.rules.proofs.lemmas.step_rules.Computed as computed
use Rattle.rules.proofs.step_rules.types.Goals as goal

pub returns-clause-boxes : goal.returns-clause-boxes
returns-clause-boxes c = computed.boxes

pub returns-clause-casts : goal.returns-clause-casts
returns-clause-casts c = computed.casts
