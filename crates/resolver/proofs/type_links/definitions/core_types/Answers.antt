use Rattle.std.proofs.Common.{◌∙◌}
use Rattle.il_base.proofs.lemmas.world_model.Counting.{core_last}
use Rattle.resolver.proofs.type_links.definitions.core_types.Goals as goal

pub returns-in-len1-up : goal.returns-in-len1-up
returns-in-len1-up c = c.as_slice.ensures ∙ core_last c.args.all.now c.core-item.result c.in-len1-up.len_at_least c.core-item.is
