use Rattle.std.proofs.Common.{◌≡◌, None}
use Rattle.il_base.specs.cli_format.Demand.{first_fault}
use Rattle.il_base.specs.cli_format.Image.{metadata_of, metadata_place_of}
use Rattle.il_base.specs.cli_format.Tables.{rows_of}
use Rattle.il_base.specs.cli_format.Metadata.{tables_demands, tables_stream}
use Rattle.world_reader.proofs.lemmas.cell_reader.Fits.{rows_few}
use Rattle.world_reader.proofs.cell_reader.assembly.Assembly.count.Goals as goal

pub returns-clause-few : goal.returns-clause-few
returns-clause-few c =
    let held : first_fault (tables_demands (metadata_of c.self.inside.map) (metadata_place_of c.self.inside.map)) ≡ None = c.self.invariant.1 in
    let tables : c.self.inside.tables ≡ metadata_of c.self.inside.map = c.self.invariant.0 in
    let rows : c.rows.result ≡ rows_of (tables_stream c.self.inside.tables) c.args.table = c.rows.ensures in
    rw (rows, tables) (rows_few (metadata_of c.self.inside.map) (metadata_place_of c.self.inside.map) c.args.table held)
