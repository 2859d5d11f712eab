use Rattle.std.proofs.Common.{◌≡◌, Some, ap, ◌∙◌}
use Rattle.merge_plan.specs.declared.moved_parts.tokens.NewTokens.{NewTokens}
use Rattle.merge_plan.specs.moved_parts.Moves.{new_token}
use Rattle.restrict.proofs.rows.first_callee.Goals as goal

same_some : (x y : NewTokens) → Some x ≡ Some y → x ≡ y
same_some x y e = cc

pub returns-in-Some : goal.returns-in-Some
returns-in-Some c = λ t is.
    c.get.ensures ∙ ap (λ (x : NewTokens). new_token x.callees c.args.token) (same_some c.in-Some.new.now t (c.in-Some.ensures ∙ is))
