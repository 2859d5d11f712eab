use Rattle.std.proofs.Common.{take}
use Rattle.reference_rows.specs.number_tokens.Numbers.{number_token_by, IsFilledWith}
use Rattle.reference_rows.proofs.number_tokens.maps.fill_with.Given as goal

abbrev pub invariant-loop-id : goal.invariant-loop-id
invariant-loop-id l = IsFilledWith (number_token_by l.tokens) (take l.id-index l.ids) l.initial.map l.map
