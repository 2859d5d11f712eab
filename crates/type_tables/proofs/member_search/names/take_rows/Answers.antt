use Rattle.std.specs.Prelude.{None}
use Rattle.std.proofs.lemmas.Map.Text.{hash_map_updates_str}
use Rattle.type_tables.proofs.lemmas.member_search.NameRows.{taken_others}
use Rattle.type_tables.proofs.member_search.names.take_rows.Goals as goal

pub returns-in-Some-clause-others : goal.returns-in-Some-clause-others
returns-in-Some-clause-others c =
    taken_others c.args.rows.now c.remove.new.self c.remove.new.self c.args.name.now (hash_map_updates_str c.args.name.now c.args.rows.now c.remove.new.self None c.remove.ensures.updates)
