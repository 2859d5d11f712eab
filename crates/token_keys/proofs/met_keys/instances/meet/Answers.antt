use Rattle.std.proofs.Common.{[], ◌∷◌, map, sym, ap, ◌∙◌}
use Rattle.std.proofs.lemmas.List.{map-append}
use Rattle.rules.specs.merge_rules.Keys.{same_instance}
use Rattle.token_keys.specs.key_codes.KeyCodes.{instance_key_code}
use Rattle.token_keys.specs.key_codes.Keys.{instance_key}
use Rattle.token_keys.proofs.lemmas.key_codes.Keyed.{all_tell}
use Rattle.token_keys.proofs.lemmas.met_keys.Coded.{met_already, met_newly}
use Rattle.token_keys.proofs.met_keys.instances.meet.Goals as goal

pub returns-then-has-clause-firsts : goal.returns-then-has-clause-firsts
returns-then-has-clause-firsts c =
    met_already same_instance instance_key_code all_tell.instances (map instance_key c.args.firsts.now.items) (instance_key c.args.one) c.as_slice.result.now c.args.codes.now (c.as_slice.ensures.value ∙ c.in_ok-code.ensures) c.requires (sym c.has.ensures ∙ c.if-has.true)

pub returns-clause-firsts : goal.returns-clause-firsts
returns-clause-firsts c =
    ap (map instance_key) c.in_ok-push.ensures.items ∙ map-append instance_key c.args.firsts.now.items (c.args.one ∷ [])
    ∙ met_newly same_instance instance_key_code all_tell.instances (map instance_key c.args.firsts.now.items) (instance_key c.args.one) c.as_slice.result.now c.args.codes.now (c.as_slice.ensures.value ∙ c.in_ok-code.ensures) c.requires (sym c.has.ensures ∙ c.if-has.false)
