use Rattle.std.proofs.Common.{map, ap, ◌∙◌}
use Rattle.std.specs.List.{position}
use Rattle.rules.specs.merge_rules.Keys.{same_instance}
use Rattle.token_keys.specs.key_codes.KeyCodes.{instance_key_code}
use Rattle.token_keys.specs.key_codes.Keys.{instance_key}
use Rattle.token_keys.proofs.lemmas.key_codes.Keyed.{all_tell}
use Rattle.token_keys.proofs.lemmas.met_keys.Coded.{place_is}
use Rattle.token_keys.proofs.met_keys.instances.MetInstances.place.Goals as goal

pub returns : goal.returns
returns c =
    c.place-place.ensures
    ∙ place_is same_instance instance_key_code all_tell.instances (map instance_key c.self.inside.firsts.items) (instance_key c.args.one.now) c.as_slice.result.now c.self.inside.codes (c.as_slice.ensures.value ∙ c.in_ok-code.ensures) c.self.invariant
    ∙ ap (λ xs. position (same_instance (instance_key c.args.one.now)) (map instance_key xs)) c.self.view_is
