use Rattle.std.proofs.Common.{◌≡◌, [], map}
use Rattle.rules.specs.merge_rules.Keys.{same_sigs}
use Rattle.rules.specs.merge_rules.Refs.{all_once}
use Rattle.token_keys.specs.key_codes.Codes.{sigs_code}
use Rattle.token_keys.proofs.met_keys.lists.MetLists.of.Given as goal

abbrev pub invariant-loop-one : goal.invariant-loop-one
invariant-loop-one l = (all_once same_sigs l.firsts.items l.one-iterator.rest.items ≡ all_once same_sigs [] l.fn.all.items) × (l.codes ≡ map sigs_code l.firsts.items)
