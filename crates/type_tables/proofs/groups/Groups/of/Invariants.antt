use Rattle.std.proofs.Common.{◌≡◌, ℕ, ◌++◌, drop}
use Rattle.type_tables.specs.member_search.Names.{places}
use Rattle.type_tables.specs.Groups.{is_key, rows_of}
use Rattle.type_tables.proofs.groups.Groups.of.Given as goal

abbrev pub invariant-loop-k : goal.invariant-loop-k
invariant-loop-k l = (key : ℕ) → rows_of l.rows key ++ places (is_key key) l.k (drop l.k l.keys) ≡ places (is_key key) 0 l.keys
