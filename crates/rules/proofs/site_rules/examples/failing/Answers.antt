use Rattle.rules.proofs.lemmas.site_rules.Computed as computed
use Rattle.rules.proofs.site_rules.examples.failing.Goals as goal

pub returns : goal.returns
returns c = record { methods = computed.fails_methods; name = computed.fails_name }
