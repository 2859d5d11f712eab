use Rattle.std.proofs.Common.{◌++◌, List, ap, ◌∙◌}
use Rattle.rules.specs.mark_rules.Facts.{Fact}
use Rattle.mark_parts.specs.mark_tables.Assemblies.{all_of}
use Rattle.mark_dependencies.proofs.lemmas.mark_attributes.Belonging.{needs_are}
use Rattle.mark_dependencies.proofs.mark_attributes.needs.attribute_needs.Goals as goal

pub returns : goal.returns
returns c = c.in_ok-add_needs.ensures ∙ ap (λ (fs : List Fact). c.args.facts.now ++ fs) (needs_are (all_of c.args.marker.now) c.args.item)
