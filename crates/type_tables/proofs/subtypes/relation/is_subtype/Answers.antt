use Rattle.type_tables.proofs.lemmas.subtypes.Decided.{decided}
use Rattle.type_tables.proofs.subtypes.relation.is_subtype.Goals as goal

pub returns-clause-related : goal.returns-clause-related
returns-clause-related c = decided c.subtype_decides.ensures c.args.tables.now.world.now c.requires.world c.args.a.now c.args.b.now c.in_ok-yes.yes c.in_ok-yes.ensures
