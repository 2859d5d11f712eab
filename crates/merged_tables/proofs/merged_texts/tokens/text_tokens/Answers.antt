use Rattle.std.proofs.Common.{ap, ◌∙◌}
use Rattle.merged_tables.specs.merged_texts.Texts.{texts_in, text_number, first_token}
use Rattle.merged_tables.proofs.lemmas.merged_texts.TextLemmas.{token_found}
use Rattle.merged_tables.proofs.merged_texts.tokens.text_tokens.Goals as goal

pub returns : goal.returns
returns c = λ q.
    c.in_ok-map.ensures q ∙ ap (first_token (text_number (texts_in c.args.places.now)) q) c.as_slice.ensures
    ∙ token_found (text_number (texts_in c.args.places.now)) q c.args.rec.now.user
