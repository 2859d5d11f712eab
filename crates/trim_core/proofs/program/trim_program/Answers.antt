use Rattle.std.proofs.Common.{Option, ap, subst, ◌∙◌}
use Rattle.rules.specs.declared.link_rules.row_at.RowAt.{RowAt}
use Rattle.trim_core.specs.Taken.{Bytes}
use Rattle.trim_core.specs.Told.{entry_row}
use Rattle.trim_core.specs.Trim.{TrimsProgram}
use Rattle.trim_core.proofs.FileLemmas.{by_program}
use Rattle.trim_core.proofs.Behaving.{spelled}
use Rattle.trim_core.proofs.program.trim_program.Goals as goal

pub returns : goal.returns
returns c =
    by_program c.args.files.now c.args.descriptors.now c.args.world.now c.args.roots.now c.args.opts c.requires.taken c.requires.roots c.trims_behave.ensures c.files_merge.ensures
    (subst Bytes c.as_slice.ensures c.all_bytes_told.ensures) c.trim_from.result
    (subst (λ (e : Option RowAt). TrimsProgram c.args.world.now.recs e c.args.roots.now c.args.opts c.trim_from.result) (c.entry_row-entry.ensures ∙ ap entry_row c.inputs_of.ensures) c.trim_from.ensures)

pub trim_from-requires-clause-spelled : goal.trim_from-requires-clause-spelled
trim_from-requires-clause-spelled c =
    spelled c.trim_is_spelled.ensures c.args.files.now (subst Bytes c.as_slice.ensures c.all_bytes_told.ensures) c.entry_row-entry.result c.args.roots.now c.args.opts.internalize c.args.world.now c.requires.taken
