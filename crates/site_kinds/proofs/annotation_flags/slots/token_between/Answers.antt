use Rattle.std.proofs.Common.{◌≡◌, ℕ, suc, ◌+◌, ◌-◌, ◌<◌, List, [], ◌++◌, sym, ap, ◌∙◌, arith}
use Rattle.std.specs.List.{flat_map, range_with_len}
use Rattle.rules.specs.link_rules.Cycles.{listed}
use Rattle.rules.specs.mark_rules.Attributes.{head_of}
use Rattle.site_kinds.specs.annotation_flags.Slots.{token_here}
use Rattle.site_kinds.proofs.annotation_flags.slots.token_between.Goals as goal

not_here : (f : ℕ → List ℕ) (k end : ℕ) → k < end → f k ≡ []
    → head_of (flat_map f (range_with_len (k + 1) (end - (k + 1)))) ≡ head_of (flat_map f (range_with_len k (end - k)))
not_here f k end h e =
    let n : end - k ≡ suc (end - (k + 1)) = omega arith in
    let rest : List ℕ = flat_map f (range_with_len (k + 1) (end - (k + 1))) in
    sym (ap (λ (m : ℕ). head_of (flat_map f (range_with_len k m))) n ∙ ap (λ (xs : List ℕ). head_of (xs ++ rest)) e)

pub loop-k-preserved : goal.loop-k-preserved
loop-k-preserved c =
    not_here (token_here c.args.rec.now c.args.sequence) c.loop-k.k c.args.end c.loop-k-test.true (sym c.in-Ok-None.ensures ∙ ap listed c.in-Ok-None.field-0-is) ∙ c.loop-k.invariant
