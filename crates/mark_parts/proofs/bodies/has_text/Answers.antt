use Rattle.std.proofs.Common.{ap, ◌∙◌}
use Rattle.std.specs.List.{list_any}
use Rattle.mark_parts.specs.mark_tables.Assemblies.{rec_of}
use Rattle.mark_parts.specs.Items.{is_text_at}
use Rattle.mark_parts.proofs.Texting.{texts_grouped}
use Rattle.mark_parts.proofs.bodies.has_text.Goals as goal

pub returns : goal.returns
returns c =
    let asm = c.args.asm.now in
    c.any_text.ensures ∙ ap (list_any (is_text_at (rec_of asm))) c.rows_with-rows.ensures ∙ texts_grouped (rec_of asm) asm.owners.now.texts c.requires.owners.texts c.args.token
