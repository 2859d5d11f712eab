use Rattle.std.specs.Option.{option_copied}
use Rattle.cil_world.proofs.lemmas.world_definitions.Rows.{no_row, one_row}
use Rattle.cil_world.proofs.world_definitions.field_rows.row_with.Goals as goal

pub returns-in-None : goal.returns-in-None
returns-in-None c = no_row c.args.rec.now c.args.places.now c.args.token c.requires c.in-None.ensures

pub returns-in-Some : goal.returns-in-Some
returns-in-Some c =
    one_row c.args.rec.now c.args.places.now c.args.token c.requires c.in-Some.place c.in-Some.ensures (option_copied c.get-in-Some.result) c.get-in-Some.ensures.value
