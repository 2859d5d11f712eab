use Rattle.std.proofs.Common.{◌≡◌, ◌++◌, drop}
use Rattle.std.specs.List.{flat_map}
use Rattle.rules.specs.merge_rules.Refs.{numbers_in}
use Rattle.token_keys.proofs.sig_numbers.numbers.+numbering.Given as goal

abbrev pub invariant-add_each-loop-sig : goal.invariant-add_each-loop-sig
invariant-add_each-loop-sig l = l.numbers.items ++ flat_map numbers_in (drop l.sig-index l.sigs) ≡ l.initial.numbers.items ++ flat_map numbers_in l.sigs
