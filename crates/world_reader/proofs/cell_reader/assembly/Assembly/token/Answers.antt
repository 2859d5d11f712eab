use Rattle.std.proofs.Common.{◌≡◌, None}
use Rattle.il_base.specs.cli_format.Demand.{first_fault}
use Rattle.il_base.specs.cli_format.Image.{metadata_of, metadata_place_of}
use Rattle.il_base.specs.cli_format.Metadata.{tables_demands}
use Rattle.world_reader.proofs.lemmas.cell_reader.Fits.{cell_fits}
use Rattle.world_reader.proofs.cell_reader.assembly.Assembly.token.Goals as goal

pub token_by-requires : goal.token_by-requires
token_by-requires c =
    let is : c.self.inside.map ≡ c.args.self.now = c.self.view_is in
    let held : first_fault (tables_demands (metadata_of c.self.inside.map) (metadata_place_of c.self.inside.map)) ≡ None = c.self.invariant.1 in
    rw (c.column_at.ensures, c.word.ensures) (cell_fits (metadata_of c.args.self.now) (metadata_place_of c.args.self.now) c.args.table c.args.column c.args.row (rw is at held) c.requires.row c.requires.column)
