use Rattle.std.proofs.Common.{◌≡◌, ◌++◌, drop}
use Rattle.std.specs.List.{flat_map}
use Rattle.rules.specs.site_rules.Values.{name_in}
use Rattle.requirements.proofs.names.texts_of.Given as goal

abbrev pub invariant-loop-s : goal.invariant-loop-s
invariant-loop-s l = l.names ++ flat_map name_in (drop l.s-index l.sources) ≡ flat_map name_in l.sources
