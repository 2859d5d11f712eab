use Rattle.std.proofs.Common.{◌≡◌, ◌+◌, ℕ, List, length, Some, sym, subst, ◌∙◌, arith}
use Rattle.std.specs.Prelude.{slice_get}
use Rattle.il_base.specs.declared.world_model.record.AsmRec.{AsmRec}
use Rattle.merge_plan.specs.declared.moved_parts.tokens.NewTokens.{NewTokens}
use Rattle.merged_tables.specs.merged_texts.Texts.{texts_in}
use Rattle.restrict.specs.member_rows.Rows.{recs_of}
use Rattle.restrict.specs.output_tokens.Tokens.{TellTokens, AreFirstTokens}
use Rattle.restrict.proofs.lemmas.output_tokens.Telling.{one_more, none_first, all_have}
use Rattle.restrict.proofs.output_tokens.tokens.all_tokens.Goals as goal

pub loop-k-init : goal.loop-k-init
loop-k-init c = none_first c.args.parts.now (texts_in c.args.texts.now) c.new-all.result.items c.new-all.ensures.items

pub loop-k-preserved : goal.loop-k-preserved
loop-k-preserved c =
    let p = c.args.parts.now in
    let texts = texts_in c.args.texts.now in
    let new = c.in_ok-tokens.tokens in
    let are = subst (λ (a : ℕ). (rec : AsmRec) → slice_get (recs_of p) a ≡ Some rec → TellTokens p texts a rec new) c.in_ok-place.ensures c.in_ok-tokens.ensures in
    subst (λ (xs : List NewTokens). AreFirstTokens p texts (c.loop-k.k + 1) xs) (sym c.in_ok-push.ensures.items)
    (one_more p texts c.loop-k.k c.loop-k.all.items new are c.loop-k.invariant)

pub returns : goal.returns
returns c = λ o parts met.
    let p = c.args.parts.now in
    let texts = texts_in c.args.texts.now in
    let all : c.loop-k.k ≡ length (recs_of p) = omega arith in
    all_have p texts c.loop-k.all.items (subst (λ (n : ℕ). AreFirstTokens p texts n c.loop-k.all.items) all c.loop-k.invariant) o parts met
