use Rattle.mark_parts.specs.mark_tables.Assemblies.{recs_of, all_of}
use Rattle.descriptor_texts.proofs.lemmas.descriptor_types.First.{names_there}
use Rattle.descriptor_texts.proofs.descriptor_types.types.rows_at.Goals as goal

pub of-requires-clause-names : goal.of-requires-clause-names
of-requires-clause-names c = names_there c.args.names.now (recs_of c.in-Some.here) (all_of c.args.marker.now) c.in-Some.ensures.is.recs c.requires.names
