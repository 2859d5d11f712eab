use Rattle.std.proofs.Common.{◌∙◌}
use Rattle.merged_tables.specs.Parts.{output_in}
use Rattle.merged_tables.proofs.belonging.belonging_rows.Goals as goal

pub returns : goal.returns
returns c =
    let p = c.args.parts.now in
    let told = c.rows_tell.ensures (output_in p) p.tables.now c.requires.tables in
    record {
      constants = c.in_ok-constants.ensures ∙ told.constants_are;
      layouts = c.in_ok-layouts.ensures ∙ told.layouts_are;
      nested = c.in_ok-nested.ensures ∙ told.nested_are;
      semantics = c.in_ok-semantics.ensures ∙ told.semantics_are;
    }
