use Rattle.std.proofs.Common.{◌≡◌, drop}
use Rattle.rules.specs.link_rules.Faults.{first_of, repeated_in, duplicate_member}
use Rattle.link_faults.proofs.duplicates.first_duplicate.Given as goal

abbrev pub invariant-loop-file : goal.invariant-loop-file
invariant-loop-file l = first_of (repeated_in l.scope.all.now) l.file (drop l.file l.recs) ≡ duplicate_member l.scope.all.now l.recs
