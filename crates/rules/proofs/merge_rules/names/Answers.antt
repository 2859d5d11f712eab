use Rattle.rules.proofs.lemmas.merge_rules.Computed as computed
use Rattle.rules.proofs.merge_rules.names.Goals as goal

pub returns-clause-types : goal.returns-clause-types
returns-clause-types c = computed.types

pub returns-clause-methods : goal.returns-clause-methods
returns-clause-methods c = computed.methods

pub returns-clause-names : goal.returns-clause-names
returns-clause-names c = computed.names

pub returns-clause-without : goal.returns-clause-without
returns-clause-without c = computed.without

pub returns-clause-collision : goal.returns-clause-collision
returns-clause-collision c = computed.collision
