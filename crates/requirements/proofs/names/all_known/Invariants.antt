use Rattle.std.proofs.Common.{◌≡◌, drop}
use Rattle.std.specs.List.{list_all}
use Rattle.rules.specs.site_rules.Values.{is_known_name}
use Rattle.requirements.proofs.names.all_known.Given as goal

abbrev pub invariant-loop-s : goal.invariant-loop-s
invariant-loop-s l = list_all is_known_name (drop l.s-index l.sources) ≡ list_all is_known_name l.sources
