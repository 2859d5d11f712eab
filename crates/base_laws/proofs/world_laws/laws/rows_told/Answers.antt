use Rattle.base_laws.proofs.lemmas.world_laws.Told.{all_types, all_methods, all_fields}
use Rattle.base_laws.proofs.world_laws.laws.rows_told.Goals as goal

pub returns-clause-types : goal.returns-clause-types
returns-clause-types c = all_types

pub returns-clause-methods : goal.returns-clause-methods
returns-clause-methods c = all_methods

pub returns-clause-fields : goal.returns-clause-fields
returns-clause-fields c = all_fields
