use Rattle.std.proofs.Common.{◌≡◌, drop}
use Rattle.std.specs.Prelude.{bytes_eq}
use Rattle.std.specs.HashSet.{contains_by}
use Rattle.rules.specs.link_rules.Faults.{first_repeat}
use Rattle.link_faults.specs.Repeats.{repeat_by}
use Rattle.link_faults.proofs.repeats.first_repeat.Given as goal

abbrev pub invariant-loop-at : goal.invariant-loop-at
invariant-loop-at l = repeat_by (λ code. contains_by (λ k. bytes_eq code k.now) l.met) l.at (drop l.at l.codes) ≡ first_repeat bytes_eq l.codes
