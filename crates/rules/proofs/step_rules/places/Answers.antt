use Rattle.rules.proofs.lemmas.step_rules.Computed as computed
use Rattle.rules.proofs.step_rules.places.Goals as goal

pub returns-clause-makes : goal.returns-clause-makes
returns-clause-makes c = computed.makes

pub returns-clause-stores : goal.returns-clause-stores
returns-clause-stores c = computed.stores_field

pub returns-clause-loads : goal.returns-clause-loads
returns-clause-loads c = computed.loads_field

pub returns-clause-null : goal.returns-clause-null
returns-clause-null c = computed.field_of_null

pub returns-clause-addresses : goal.returns-clause-addresses
returns-clause-addresses c = computed.addresses

pub returns-clause-pointers : goal.returns-clause-pointers
returns-clause-pointers c = computed.points
