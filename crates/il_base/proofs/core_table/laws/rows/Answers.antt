use Rattle.std.proofs.Common.{refl}
use Rattle.il_base.specs.core_table.Record.{core_record, record_with, type_rows, type_row, all_fields, all_methods}
use Rattle.il_base.specs.core_table.Members.{fields_of, methods_of}
use Rattle.il_base.proofs.core_table.laws.rows.Goals as goal

pub returns-clause-types : goal.returns-clause-types
unfolding core_record record_with type_rows
returns-clause-types c = refl

pub returns-clause-fields : goal.returns-clause-fields
unfolding core_record record_with all_fields fields_of
returns-clause-fields c = refl

pub returns-clause-methods : goal.returns-clause-methods
unfolding core_record record_with all_methods methods_of
returns-clause-methods c = refl

pub returns-clause-runs : goal.returns-clause-runs
unfolding core_record record_with type_rows type_row fields_of methods_of
returns-clause-runs c = refl
