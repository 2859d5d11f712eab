use Rattle.std.proofs.Common.{ap, sym, ◌∙◌, ◌++◌, ◌∷◌, [], List, ℕ, zero-add}
use Rattle.std.proofs.lemmas.List.FromFn.{map-range_with_len_more}
use Rattle.il_base.specs.declared.world_model.expr.TypeExpr.{TypeExpr}
use Rattle.il_base.specs.declared.world_model.expr.TypeExpr as expr
use Rattle.type_tables.proofs.member_search.own_types.own_args.Goals as goal

pub loop-k-preserved : goal.loop-k-preserved
loop-k-preserved c =
    let pushed = c.in_ok-push.ensures.ok in
    let more = map-range_with_len_more (λ (k : ℕ). expr.Var k) 0 c.loop-k.k c.loop-k.k (zero-add c.loop-k.k) in
    pushed ∙ ap (λ (args : List TypeExpr). args ++ expr.Var c.loop-k.k ∷ []) c.loop-k.invariant ∙ sym more
