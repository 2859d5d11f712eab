use Rattle.rules.proofs.lemmas.site_rules.Computed as computed
use Rattle.rules.proofs.site_rules.examples.arguments.Goals as goal

pub returns : goal.returns
returns c = record { inside = computed.asks_inside; parameter = computed.asks_of_parameter; none = computed.asks_nothing }
