use Rattle.reference_rows.specs.number_tokens.Numbers.{number_token_by, IsFilledBelow}
use Rattle.reference_rows.proofs.number_tokens.maps.fill_below.Given as goal

abbrev pub invariant-loop-k : goal.invariant-loop-k
invariant-loop-k l = IsFilledBelow (number_token_by l.tokens) l.k l.initial.map l.map
