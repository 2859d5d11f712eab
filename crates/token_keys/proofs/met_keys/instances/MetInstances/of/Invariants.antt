use Rattle.std.proofs.Common.{◌≡◌, [], map}
use Rattle.rules.specs.merge_rules.Keys.{same_instance}
use Rattle.rules.specs.merge_rules.Refs.{all_once}
use Rattle.token_keys.specs.key_codes.KeyCodes.{instance_key_code}
use Rattle.token_keys.specs.key_codes.Keys.{instance_key}
use Rattle.token_keys.proofs.met_keys.instances.MetInstances.of.Given as goal

abbrev pub invariant-loop-one : goal.invariant-loop-one
invariant-loop-one l =
    (all_once same_instance (map instance_key l.firsts.items) (map instance_key l.one-iterator.rest.items) ≡ all_once same_instance [] (map instance_key l.fn.all.items)) × (l.codes ≡ map instance_key_code (map instance_key l.firsts.items))
