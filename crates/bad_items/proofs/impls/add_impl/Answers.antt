use Rattle.std.proofs.Common.{◌++◌, List, ap, ◌∙◌}
use Rattle.rules.specs.mark_rules.BadItems.{Flaw}
use Rattle.mark_parts.specs.mark_tables.Assemblies.{rec_of}
use Rattle.bad_items.specs.Programs.{recs_in, has}
use Rattle.bad_items.proofs.Kept.{kept_are}
use Rattle.bad_items.proofs.impls.add_impl.Goals as goal

pub returns : goal.returns
returns c =
    c.in_ok-add_with.ensures
    ∙ ap (λ (fs : List Flaw). c.args.flaws.now ++ fs)
    (kept_are (recs_in c.args.program.now) (has c.args.program.now) c.args.at.asm (rec_of c.args.asm.now) c.args.at.row c.args.row.now c.requires.here _ _ c.index_in-class.ensures c.use_at-body.ensures)
