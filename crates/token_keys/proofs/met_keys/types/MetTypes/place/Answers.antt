use Rattle.std.proofs.Common.{ap, ◌∙◌}
use Rattle.std.specs.List.{position}
use Rattle.rules.specs.merge_rules.Refs.{same_id}
use Rattle.token_keys.specs.met_keys.Ids.{id_code}
use Rattle.token_keys.proofs.lemmas.met_keys.Numbered.{by_id}
use Rattle.token_keys.proofs.lemmas.met_keys.Coded.{place_is}
use Rattle.token_keys.proofs.met_keys.types.MetTypes.place.Goals as goal

pub returns : goal.returns
returns c =
    c.place-place.ensures
    ∙ place_is same_id id_code by_id c.self.inside.firsts.items c.args.one c.as_slice.result.now c.self.inside.codes (c.as_slice.ensures.value ∙ c.in_ok-code.ensures) c.self.invariant
    ∙ ap (position (same_id c.args.one)) c.self.view_is
