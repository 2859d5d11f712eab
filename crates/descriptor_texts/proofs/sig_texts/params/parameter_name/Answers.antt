use Rattle.std.proofs.Common.{◌∙◌}
use Rattle.mark_parts.specs.mark_tables.Assemblies.{rec_of}
use Rattle.descriptor_texts.proofs.lemmas.sig_texts.Naming.{named_grouped}
use Rattle.descriptor_texts.proofs.sig_texts.params.parameter_name.Goals as goal

pub returns : goal.returns
returns c =
    c.first_named.ensures
    ∙ named_grouped (rec_of c.args.asm.now) c.args.owner c.args.n c.args.asm.now.owners.now.params c.requires.owners.params c.rows_with-rows.result.now c.rows_with-rows.ensures
