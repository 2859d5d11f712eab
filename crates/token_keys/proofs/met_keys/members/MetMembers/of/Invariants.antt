use Rattle.std.proofs.Common.{◌≡◌, [], map}
use Rattle.rules.specs.merge_rules.Refs.{same_member}
use Rattle.rules.specs.merge_rules.Refs.{all_once}
use Rattle.token_keys.specs.key_codes.KeyCodes.{member_key_code}
use Rattle.token_keys.specs.key_codes.Keys.{member_key}
use Rattle.token_keys.proofs.met_keys.members.MetMembers.of.Given as goal

abbrev pub invariant-loop-one : goal.invariant-loop-one
invariant-loop-one l =
    (all_once same_member (map member_key l.firsts.items) (map member_key l.one-iterator.rest.items) ≡ all_once same_member [] (map member_key l.fn.all.items)) × (l.codes ≡ map member_key_code (map member_key l.firsts.items))
