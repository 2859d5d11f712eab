use Rattle.std.proofs.Common.{◌≡◌, suc, ◌-◌, ◌++◌, map}
use Rattle.std.specs.List.{range_with_len}
use Rattle.il_base.specs.declared.table.TheConstants.{PARAM}
use Rattle.il_base.specs.world_model.Tokens.{token_of}
use Rattle.attribute_values.proofs.attribute_rows.tokens.add_params_between.Given as goal

abbrev pub invariant-loop-p : goal.invariant-loop-p
invariant-loop-p l =
    l.tokens.items ++ map (λ p. token_of PARAM (suc p)) (range_with_len l.p (l.end - l.p)) ≡ l.initial.tokens.items ++ map (λ p. token_of PARAM (suc p)) (range_with_len l.start (l.end - l.start))
