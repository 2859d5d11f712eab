use Rattle.std.proofs.Common.{◌++◌, List, Bool, map, sym, ap, ◌∙◌}
use Rattle.rules.specs.mark_rules.Facts.{Fact}
use Rattle.rules.specs.mark_rules.Places.{marks_field}
use Rattle.rules.specs.type_rules.Rows.{is_instance_field}
use Rattle.mark_items.specs.mark_needs.Owners.{laid}
use Rattle.mark_items.proofs.lemmas.mark_needs.Lists.{filtered}
use Rattle.mark_items.proofs.mark_needs.types.mark_fields.Goals as goal

pub returns : goal.returns
returns c =
    let recs = c.args.all.now in
    c.in_ok-mark_instances.ensures
    ∙ ap (λ (fs : List Fact). c.args.facts.now ++ fs) (filtered (is_instance_field recs) (marks_field recs) c.args.rows.now)
    ∙ ap (λ (b : Bool). c.args.facts.now ++ map (marks_field recs) (laid b recs c.args.rows.now)) (sym c.if-with_static.false)
