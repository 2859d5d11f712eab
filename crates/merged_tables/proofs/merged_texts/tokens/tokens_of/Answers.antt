use Rattle.std.proofs.Common.{◌≡◌, ℕ, drop, sym, ap, ◌∙◌, arith}
use Rattle.merged_tables.specs.merged_texts.Texts.{texts_in, text_number, first_token}
use Rattle.merged_tables.proofs.lemmas.merged_texts.TextLemmas.{token_past, token_step}
use Rattle.merged_tables.proofs.merged_texts.tokens.tokens_of.Goals as goal

pub loop-n-init : goal.loop-n-init
loop-n-init c = λ q. c.new-map.ensures q ∙ sym (token_past (text_number (texts_in c.args.places.now)) q c.args.texts.now)

pub loop-n-preserved : goal.loop-n-preserved
loop-n-preserved c = λ q.
    token_step (text_number (texts_in c.args.places.now)) q c.args.texts.now c.loop-n.n c.index-texts-n.result _ _ c.token.result (omega arith) (omega arith) c.index-texts-n.is
    (c.token.ensures ∙ ap (text_number (texts_in c.args.places.now)) c.as_slice.ensures) (c.in_ok-set.ensures q) (c.loop-n.invariant q)

pub returns : goal.returns
returns c = λ q.
    let end : c.loop-n.n ≡ 0 = omega arith in
    c.loop-n.invariant q ∙ ap (λ (k : ℕ). first_token (text_number (texts_in c.args.places.now)) q (drop k c.args.texts.now)) end
