use Rattle.std.proofs.Common.{sym, ◌∙◌}
use Rattle.rules.specs.merge_rules.Keys.{same_sig}
use Rattle.token_keys.specs.key_codes.Codes.{sig_code}
use Rattle.token_keys.proofs.lemmas.key_codes.Distinct.{all_tell}
use Rattle.token_keys.proofs.lemmas.met_keys.Coded.{met_already, met_newly}
use Rattle.token_keys.proofs.met_keys.sigs.meet.Goals as goal

pub returns-then-has-clause-firsts : goal.returns-then-has-clause-firsts
returns-then-has-clause-firsts c =
    met_already same_sig sig_code all_tell.sigs c.args.firsts.now.items c.args.one c.as_slice.result.now c.args.codes.now (c.as_slice.ensures.value ∙ c.in_ok-code.ensures) c.requires (sym c.has.ensures ∙ c.if-has.true)

pub returns-clause-firsts : goal.returns-clause-firsts
returns-clause-firsts c =
    c.in_ok-push.ensures.items
    ∙ met_newly same_sig sig_code all_tell.sigs c.args.firsts.now.items c.args.one c.as_slice.result.now c.args.codes.now (c.as_slice.ensures.value ∙ c.in_ok-code.ensures) c.requires (sym c.has.ensures ∙ c.if-has.false)
