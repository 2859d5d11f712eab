use Rattle.std.proofs.Common.{◌≡◌, ℕ, suc, ◌+◌, ◌-◌, ◌<◌, ◌≤◌, List, [], ◌∷◌, ◌++◌, map, sym, ap, ◌∙◌, arith, append_assoc}
use Rattle.std.specs.List.{range_with_len}
use Rattle.std.proofs.lemmas.List.{append-nil}
use Rattle.il_base.specs.declared.table.TheConstants.{PARAM}
use Rattle.il_base.specs.world_model.Tokens.{token_of}
use Rattle.attribute_values.proofs.attribute_rows.tokens.add_params_between.Goals as goal

abbrev token_at : ℕ → ℕ
token_at p = token_of PARAM (suc p)

one_more : (out new : List ℕ) (k end token : ℕ) → k < end → new ≡ out ++ token ∷ [] → token ≡ token_at k
    → new ++ map token_at (range_with_len (k + 1) (end - (k + 1))) ≡ out ++ map token_at (range_with_len k (end - k))
one_more out new k end token below e t =
    let n : end - k ≡ suc (end - (k + 1)) = omega arith in
    ap (λ (xs : List ℕ). xs ++ map token_at (range_with_len (k + 1) (end - (k + 1)))) (e ∙ ap (λ (z : ℕ). out ++ z ∷ []) t)
    ∙ append_assoc out (token_at k ∷ []) (map token_at (range_with_len (k + 1) (end - (k + 1))))
    ∙ ap (λ (m : ℕ). out ++ map token_at (range_with_len k m)) (sym n)

all_put : (out : List ℕ) (k end : ℕ) → end ≤ k → out ++ map token_at (range_with_len k (end - k)) ≡ out
all_put out k end done =
    let n : end - k ≡ 0 = omega arith in
    ap (λ (m : ℕ). out ++ map token_at (range_with_len k m)) n ∙ append-nil out

pub loop-p-preserved : goal.loop-p-preserved
loop-p-preserved c = one_more c.loop-p.tokens.items _ c.loop-p.p c.args.end c.in_ok-token.token c.loop-p-test.true c.in_ok-push.ensures.items c.in_ok-token.ensures ∙ c.loop-p.invariant

pub returns : goal.returns
returns c = sym (all_put c.loop-p.tokens.items c.loop-p.p c.args.end c.loop-p-test.false) ∙ c.loop-p.invariant
