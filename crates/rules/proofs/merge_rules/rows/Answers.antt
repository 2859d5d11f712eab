use Rattle.rules.proofs.lemmas.merge_rules.Computed as computed
use Rattle.rules.proofs.merge_rules.rows.Goals as goal

pub returns-clause-field_rows : goal.returns-clause-field_rows
returns-clause-field_rows c = computed.field_rows

pub returns-clause-method_rows : goal.returns-clause-method_rows
returns-clause-method_rows c = computed.method_rows

pub returns-clause-entry : goal.returns-clause-entry
returns-clause-entry c = computed.entry

pub returns-clause-type_row : goal.returns-clause-type_row
returns-clause-type_row c = computed.type_row

pub returns-clause-other_row : goal.returns-clause-other_row
returns-clause-other_row c = computed.other_row
