use Rattle.std.proofs.Common.{◌≡◌, [], map}
use Rattle.rules.specs.merge_rules.Keys.{same_sig}
use Rattle.rules.specs.merge_rules.Refs.{all_once}
use Rattle.token_keys.specs.key_codes.Codes.{sig_code}
use Rattle.token_keys.proofs.met_keys.sigs.MetSigs.of.Given as goal

abbrev pub invariant-loop-one : goal.invariant-loop-one
invariant-loop-one l = (all_once same_sig l.firsts.items l.one-iterator.rest.items ≡ all_once same_sig [] l.fn.all.items) × (l.codes ≡ map sig_code l.firsts.items)
