use Rattle.std.proofs.Common.{◌≡◌, ◌-◌, ◌++◌}
use Rattle.rules.specs.site_rules.Bodies.{arguments_from}
use Rattle.requirements.specs.Bodies.{flowed}
use Rattle.requirements.proofs.calls.put_all.Given as goal

abbrev pub invariant-loop-j : goal.invariant-loop-j
invariant-loop-j l =
    l.sites ++ arguments_from (flowed l.body) l.offset l.m l.n l.j (l.n - l.j) ≡ l.initial.sites ++ arguments_from (flowed l.body) l.offset l.m l.n 0 l.n
