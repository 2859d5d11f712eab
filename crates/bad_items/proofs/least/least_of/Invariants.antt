use Rattle.std.proofs.Common.{◌≡◌, None, drop, map}
use Rattle.std.specs.Option.{option_map}
use Rattle.bad_items.specs.mark_flaws.Told.{flaw_told}
use Rattle.base_laws.specs.flaw_laws.Listed.{first_from}
use Rattle.bad_items.proofs.least.least_of.Given as goal

abbrev pub invariant-loop-flaw : goal.invariant-loop-flaw
invariant-loop-flaw l = first_from (option_map flaw_told l.best) (map flaw_told (drop l.flaw-index l.flaws)) ≡ first_from None (map flaw_told l.flaws)
