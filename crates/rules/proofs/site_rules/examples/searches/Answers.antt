use Rattle.rules.proofs.lemmas.site_rules.Computed as computed
use Rattle.rules.proofs.site_rules.examples.searches.Goals as goal

pub returns : goal.returns
returns c = record { reached = computed.searches; unreached = computed.searches_unreached; none = computed.searches_nothing; name = computed.looks_for_name }
