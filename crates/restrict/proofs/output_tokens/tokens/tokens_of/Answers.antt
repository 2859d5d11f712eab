use Rattle.merged_tables.specs.merged_texts.Texts.{texts_in}
use Rattle.restrict.proofs.lemmas.output_tokens.Telling.{told_here}
use Rattle.restrict.proofs.output_tokens.tokens.tokens_of.Goals as goal

pub returns-in_ok-tokens-in-Some : goal.returns-in_ok-tokens-in-Some
returns-in_ok-tokens-in-Some c = λ rec there.
    told_here c.assembly_tokens_tell.ensures c.texts_tell.ensures c.args.parts.now (texts_in c.args.texts.now) c.args.place c.in-Some.keys c.in-Some.ensures.are
    c.in_ok-tokens-in-Some.tokens c.in_ok-loaded-in-Some.loaded c.in_ok-tokens-in-Some.ensures.moved c.in_ok-tokens-in-Some.ensures.texts c.in_ok-loaded-in-Some.ensures c.in-Some.ensures.there rec there
