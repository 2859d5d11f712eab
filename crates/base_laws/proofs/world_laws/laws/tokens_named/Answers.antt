use Rattle.base_laws.proofs.lemmas.world_laws.Named.{types_named, methods_named, fields_named}
use Rattle.base_laws.proofs.world_laws.laws.tokens_named.Goals as goal

pub returns-clause-types : goal.returns-clause-types
returns-clause-types c = types_named

pub returns-clause-methods : goal.returns-clause-methods
returns-clause-methods c = methods_named

pub returns-clause-fields : goal.returns-clause-fields
returns-clause-fields c = fields_named
