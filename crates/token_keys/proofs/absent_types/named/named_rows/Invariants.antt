use Rattle.std.proofs.Common.{◌≡◌, ℕ, List, ◌++◌, drop}
use Rattle.token_keys.specs.absent_types.Named.{named_in, has_name, placed_from}
use Rattle.token_keys.proofs.absent_types.named.named_rows.Given as goal

abbrev pub invariant-loop-k : goal.invariant-loop-k
invariant-loop-k l = (name : List ℕ) → named_in l.rows name ++ placed_from (has_name l.recs name) l.k (drop l.k l.all) ≡ placed_from (has_name l.recs name) 0 l.all
