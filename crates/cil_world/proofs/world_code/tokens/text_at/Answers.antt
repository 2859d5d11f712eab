use Rattle.std.specs.Option.{option_copied}
use Rattle.mark_parts.specs.mark_tables.Assemblies.{rec_of}
use Rattle.cil_world.proofs.lemmas.world_code.Texting.{text_none, text_some}
use Rattle.cil_world.proofs.world_code.tokens.text_at.Goals as goal

pub returns-in-None : goal.returns-in-None
returns-in-None c =
    let asm = c.args.asm.now in
    text_none (rec_of asm) asm.owners.now.texts c.requires.owners.texts c.args.token c.rows_with-places.result.now c.rows_with-places.ensures c.in-None.ensures

pub returns-in-Some : goal.returns-in-Some
returns-in-Some c =
    let asm = c.args.asm.now in
    text_some (rec_of asm) asm.owners.now.texts c.requires.owners.texts c.args.token c.rows_with-places.result.now c.rows_with-places.ensures c.in-Some.place c.in-Some.ensures (option_copied c.get.result)
    c.get.ensures.value
