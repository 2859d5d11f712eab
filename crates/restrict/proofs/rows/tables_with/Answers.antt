use Rattle.std.proofs.Common.{refl}
use Rattle.restrict.proofs.rows.tables_with.Goals as goal

pub merged_tables-requires : goal.merged_tables-requires
merged_tables-requires c =
    let are = c.requires.sources in
    record {
      marker = are.world.marker;
      same = are.same;
      index = are.index;
      all = refl;
      plan = are.plan;
      tables = are.tables;
      tokens = c.requires.tokens;
    }
