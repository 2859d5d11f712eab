use Rattle.std.proofs.Common.{List, ap, ◌∙◌}
use Rattle.std.specs.List.{flat_map}
use Rattle.rules.specs.declared.link_rules.row_at.RowAt.{RowAt}
use Rattle.rules.specs.file_layout.Interning.{each_once}
use Rattle.rules.specs.merge_rules.Moved.{texts_of_method}
use Rattle.restrict.proofs.rows.texts_of.Goals as goal

pub returns-clause-met : goal.returns-clause-met
returns-clause-met c =
    c.in_ok-texts.ensures.texts
    ∙ ap (λ (ms : List RowAt). each_once (flat_map (texts_of_method c.args.sources.now.index.now.all.now) ms)) (c.rows-methods.ensures ∙ c.requires.sources.tables.items.methods)
