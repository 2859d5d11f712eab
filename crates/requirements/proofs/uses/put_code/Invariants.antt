use Rattle.std.proofs.Common.{◌≡◌, ◌++◌, drop}
use Rattle.std.specs.List.{flat_map}
use Rattle.rules.specs.site_rules.Bodies.{instruction_sites}
use Rattle.requirements.specs.Bodies.{flowed}
use Rattle.requirements.proofs.uses.put_code.Given as goal

abbrev pub invariant-loop-i : goal.invariant-loop-i
invariant-loop-i l =
    l.sites ++ flat_map (instruction_sites (flowed l.body)) (drop l.i-index l.code) ≡ l.initial.sites ++ flat_map (instruction_sites (flowed l.body)) l.code
