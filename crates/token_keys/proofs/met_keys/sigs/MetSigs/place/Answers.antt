use Rattle.std.proofs.Common.{ap, ◌∙◌}
use Rattle.std.specs.List.{position}
use Rattle.rules.specs.merge_rules.Keys.{same_sig}
use Rattle.token_keys.specs.key_codes.Codes.{sig_code}
use Rattle.token_keys.proofs.lemmas.key_codes.Distinct.{all_tell}
use Rattle.token_keys.proofs.lemmas.met_keys.Coded.{place_is}
use Rattle.token_keys.proofs.met_keys.sigs.MetSigs.place.Goals as goal

pub returns : goal.returns
returns c =
    c.place-place.ensures
    ∙ place_is same_sig sig_code all_tell.sigs c.self.inside.firsts.items c.args.one.now c.as_slice.result.now c.self.inside.codes (c.as_slice.ensures.value ∙ c.in_ok-code.ensures) c.self.invariant
    ∙ ap (position (same_sig c.args.one.now)) c.self.view_is
