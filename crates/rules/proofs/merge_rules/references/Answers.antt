use Rattle.rules.proofs.lemmas.merge_rules.Computed as computed
use Rattle.rules.proofs.merge_rules.references.Goals as goal

pub returns-clause-meets : goal.returns-clause-meets
returns-clause-meets c = computed.meets

pub returns-clause-refers : goal.returns-clause-refers
returns-clause-refers c = computed.refers

pub returns-clause-reference_rows : goal.returns-clause-reference_rows
returns-clause-reference_rows c = computed.reference_rows

pub returns-clause-assemblies : goal.returns-clause-assemblies
returns-clause-assemblies c = computed.assemblies
