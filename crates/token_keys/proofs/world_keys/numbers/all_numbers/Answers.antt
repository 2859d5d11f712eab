use Rattle.std.proofs.Common.{◌≡◌, ◌+◌, ℕ, List, length, Some, sym, subst, ap, ◌∙◌, arith}
use Rattle.std.specs.Prelude.{slice_get}
use Rattle.mark_parts.specs.mark_tables.Assemblies.{all_of, recs_of, place_of, rec_of}
use Rattle.merge_plan.specs.declared.moved_parts.tokens.NewTokens.{NewTokens}
use Rattle.token_keys.specs.world_keys.Keys.{AreFirstNumbers}
use Rattle.token_keys.proofs.lemmas.world_keys.Numbering.{one_more, none_first, moved_numbers}
use Rattle.token_keys.proofs.world_keys.numbers.all_numbers.Goals as goal

pub loop-k-init : goal.loop-k-init
loop-k-init c = none_first (all_of c.args.marker.now) c.new-all.result.items c.new-all.ensures.items

pub loop-k-preserved : goal.loop-k-preserved
loop-k-preserved c =
    let recs = all_of c.args.marker.now in
    let asm = c.in-Some.asm in
    let own = c.in-Some.ensures.is in
    let here : slice_get recs c.loop-k.k ≡ Some (rec_of asm) = ap (slice_get recs) (sym c.in_ok-place.ensures) ∙ sym c.in-Some.ensures.there in
    let are = moved_numbers recs (recs_of asm) c.loop-k.k (place_of asm) (rec_of asm) c.in_ok-numbers-in-Some.numbers own.recs (own.place ∙ c.in_ok-place.ensures) c.in_ok-numbers-in-Some.ensures in
    subst (λ (xs : List NewTokens). AreFirstNumbers recs (c.loop-k.k + 1) xs) (sym c.in_ok-push-in-Some.ensures.items)
    (one_more recs c.loop-k.k c.loop-k.all.items (rec_of asm) c.in_ok-numbers-in-Some.numbers here are c.loop-k.invariant)

pub returns : goal.returns
returns c =
    let recs = all_of c.args.marker.now in
    let all : c.loop-k.k ≡ length recs = omega arith in
    subst (λ (n : ℕ). AreFirstNumbers recs n c.loop-k.all.items) all c.loop-k.invariant
