use Rattle.rules.proofs.lemmas.view_rules.Computed as computed
use Rattle.rules.proofs.view_rules.fields.Goals as goal

pub returns-clause-has_bytes : goal.returns-clause-has_bytes
returns-clause-has_bytes c = computed.has_bytes

pub returns-clause-has_none : goal.returns-clause-has_none
returns-clause-has_none c = computed.has_none
