use Rattle.std.proofs.Common.{map, ap, ◌∙◌}
use Rattle.std.specs.List.{position}
use Rattle.rules.specs.merge_rules.Refs.{same_member}
use Rattle.token_keys.specs.key_codes.KeyCodes.{member_key_code}
use Rattle.token_keys.specs.key_codes.Keys.{member_key}
use Rattle.token_keys.proofs.lemmas.key_codes.Keyed.{all_tell}
use Rattle.token_keys.proofs.lemmas.met_keys.Coded.{place_is}
use Rattle.token_keys.proofs.met_keys.members.MetMembers.place.Goals as goal

pub returns : goal.returns
returns c =
    c.place-place.ensures
    ∙ place_is same_member member_key_code all_tell.members (map member_key c.self.inside.firsts.items) (member_key c.args.one.now) c.as_slice.result.now c.self.inside.codes (c.as_slice.ensures.value ∙ c.in_ok-code.ensures) c.self.invariant
    ∙ ap (λ xs. position (same_member (member_key c.args.one.now)) (map member_key xs)) c.self.view_is
