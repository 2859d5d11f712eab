use Rattle.type_tables.proofs.Worlds.{type_links_are}
use Rattle.type_tables.proofs.tables.Tables.of.Goals as goal

pub returns-clause-are : goal.returns-clause-are
returns-clause-are c =
    let told = c.links_tell.ensures c.args.world.now.recs c.args.world.now.types (type_links_are c.args.world.now c.requires) in
    record {
      world = c.requires;
      tokens = told.0;
      signatures = told.1;
      methods = told.2;
      uses = c.uses_told.ensures c.args.world.now c.requires;
      names = rw c.as_slice-all.ensures at c.in_ok-names.ensures;
      rows = rw c.as_slice-all.ensures at c.in_ok-rows.ensures;
    }
