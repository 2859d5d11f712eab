use Rattle.rules.specs.link_rules.Members.{home_from}
use Rattle.rules.specs.mark_rules.Places.{row_of}
use Rattle.mark_flow.proofs.items.row_sites.Goals as goal

pub method_sites-requires-clause-home : goal.method_sites-requires-clause-home
unfolding row_of home_from
method_sites-requires-clause-home c = rw c.in-Method.is at c.requires.home
