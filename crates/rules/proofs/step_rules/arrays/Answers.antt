use Rattle.rules.proofs.lemmas.step_rules.Computed as computed
use Rattle.rules.proofs.step_rules.arrays.Goals as goal

pub returns-clause-new : goal.returns-clause-new
returns-clause-new c = computed.new_arrays

pub returns-clause-stores : goal.returns-clause-stores
returns-clause-stores c = computed.stores_element

pub returns-clause-covariance : goal.returns-clause-covariance
returns-clause-covariance c = computed.mismatches
