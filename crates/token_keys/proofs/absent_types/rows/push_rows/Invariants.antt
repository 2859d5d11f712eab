use Rattle.std.proofs.Common.{◌≡◌, ◌-◌, ◌++◌, length, map}
use Rattle.std.specs.List.{range_with_len}
use Rattle.rules.specs.link_rules.Types.{at_row}
use Rattle.token_keys.specs.absent_types.Rows.{rows_of_one}
use Rattle.token_keys.proofs.absent_types.rows.push_rows.Given as goal

abbrev pub invariant-loop-k : goal.invariant-loop-k
invariant-loop-k l = l.rows.items ++ map (at_row l.asm) (range_with_len l.k (length l.rec.type_ref - l.k)) ≡ l.initial.rows.items ++ rows_of_one l.asm l.rec
