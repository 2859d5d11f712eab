use Rattle.std.proofs.Common.{[], ◌∷◌, map, sym, ap, ◌∙◌}
use Rattle.std.proofs.lemmas.List.{map-append}
use Rattle.rules.specs.merge_rules.Refs.{same_member}
use Rattle.token_keys.specs.key_codes.KeyCodes.{member_key_code}
use Rattle.token_keys.specs.key_codes.Keys.{member_key}
use Rattle.token_keys.proofs.lemmas.key_codes.Keyed.{all_tell}
use Rattle.token_keys.proofs.lemmas.met_keys.Coded.{met_already, met_newly}
use Rattle.token_keys.proofs.met_keys.members.meet.Goals as goal

pub returns-then-has-clause-firsts : goal.returns-then-has-clause-firsts
returns-then-has-clause-firsts c =
    met_already same_member member_key_code all_tell.members (map member_key c.args.firsts.now.items) (member_key c.args.one) c.as_slice.result.now c.args.codes.now (c.as_slice.ensures.value ∙ c.in_ok-code.ensures) c.requires (sym c.has.ensures ∙ c.if-has.true)

pub returns-clause-firsts : goal.returns-clause-firsts
returns-clause-firsts c =
    ap (map member_key) c.in_ok-push.ensures.items ∙ map-append member_key c.args.firsts.now.items (c.args.one ∷ [])
    ∙ met_newly same_member member_key_code all_tell.members (map member_key c.args.firsts.now.items) (member_key c.args.one) c.as_slice.result.now c.args.codes.now (c.as_slice.ensures.value ∙ c.in_ok-code.ensures) c.requires (sym c.has.ensures ∙ c.if-has.false)
