use Rattle.std.proofs.Common.{sym, ap, ◌∙◌}
use Rattle.rules.specs.merge_rules.Keys.{same_sigs}
use Rattle.token_keys.specs.key_codes.Codes.{sigs_code}
use Rattle.token_keys.proofs.lemmas.key_codes.Distinct.{all_tell}
use Rattle.token_keys.proofs.lemmas.met_keys.Coded.{met_already, met_newly}
use Rattle.token_keys.proofs.met_keys.lists.meet.Goals as goal

pub returns-then-has-clause-firsts : goal.returns-then-has-clause-firsts
returns-then-has-clause-firsts c =
    met_already same_sigs sigs_code all_tell.lists c.args.firsts.now.items c.args.one c.as_slice-2.result.now c.args.codes.now (c.as_slice-2.ensures.value ∙ c.in_ok-code.ensures ∙ ap sigs_code c.as_slice.ensures) c.requires (sym c.has.ensures ∙ c.if-has.true)

pub returns-clause-firsts : goal.returns-clause-firsts
returns-clause-firsts c =
    c.in_ok-push.ensures.items
    ∙ met_newly same_sigs sigs_code all_tell.lists c.args.firsts.now.items c.args.one c.as_slice-2.result.now c.args.codes.now (c.as_slice-2.ensures.value ∙ c.in_ok-code.ensures ∙ ap sigs_code c.as_slice.ensures) c.requires (sym c.has.ensures ∙ c.if-has.false)
