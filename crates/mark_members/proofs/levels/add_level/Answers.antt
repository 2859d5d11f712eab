use Rattle.std.proofs.Common.{◌≡◌, suc, ◌-◌, List, ◌++◌, ap, ◌∙◌, arith}
use Rattle.rules.specs.declared.link_rules.row_at.RowAt.{RowAt}
use Rattle.mark_parts.specs.mark_tables.Assemblies.{all_of}
use Rattle.mark_members.specs.Levels.{pushed}
use Rattle.mark_members.proofs.Waiting.{one_level, one_level_total}
use Rattle.mark_members.proofs.levels.add_level.Goals as goal

pub returns-clause-items : goal.returns-clause-items
returns-clause-items c =
    let k : c.args.level.levels ≡ suc (c.args.level.levels - 1) = omega arith in
    one_level (all_of c.args.marker.now) c.args.level.levels (c.args.level.levels - 1) c.args.level.at c.in_ok-rows.rows.items c.args.items.now.items c.add_whole.new.items.items c.args.waiting.now c.push_levels.new.waiting k c.in_ok-rows.ensures
    c.in_ok-add_whole.ensures (c.in_ok-push_levels.ensures ∙ ap (λ (rows : List RowAt). c.args.waiting.now ++ pushed (c.args.level.levels - 1) rows) c.from_vec.ensures)

pub returns-clause-total : goal.returns-clause-total
returns-clause-total c =
    let k : c.args.level.levels ≡ suc (c.args.level.levels - 1) = omega arith in
    one_level_total (all_of c.args.marker.now) c.args.level.levels (c.args.level.levels - 1) c.args.level.at c.in_ok-rows.rows.items c.args.waiting.now c.push_levels.new.waiting k c.in_ok-rows.ensures
    (c.in_ok-push_levels.ensures ∙ ap (λ (rows : List RowAt). c.args.waiting.now ++ pushed (c.args.level.levels - 1) rows) c.from_vec.ensures)
