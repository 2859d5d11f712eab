use Rattle.rules.proofs.lemmas.site_rules.Computed as computed
use Rattle.rules.proofs.site_rules.examples.names.Goals as goal

pub returns : goal.returns
returns c = record { known = computed.knows_names; unknown = computed.knows_no_name; none = computed.has_no_names }
