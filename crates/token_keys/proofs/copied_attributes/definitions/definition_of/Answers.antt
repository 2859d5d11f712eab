use Rattle.std.proofs.Common.{◌∙◌}
use Rattle.std.specs.Prelude.{slice_get}
use Rattle.token_keys.proofs.lemmas.copied_attributes.Tokens.{definition_here}
use Rattle.token_keys.proofs.copied_attributes.definitions.definition_of.Goals as goal

pub returns : goal.returns
returns c =
    let recs = c.args.index.now.all.now in
    c.in_ok-def.ensures ∙ definition_here recs c.args.at c.in_ok-token.token c.in_ok-token.ensures (slice_get recs c.args.at.asm)
