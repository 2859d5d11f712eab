use Rattle.std.proofs.Common.{◌≡◌, ℕ, List, ◌++◌, drop}
use Rattle.type_tables.specs.member_search.Names.{places, rows_at, is_field_named}
use Rattle.type_tables.proofs.member_search.names.field_rows.Given as goal

abbrev pub invariant-loop-k : goal.invariant-loop-k
invariant-loop-k l = (name : List ℕ) → rows_at l.rows name ++ places (is_field_named name) l.k (drop l.k l.row-items) ≡ places (is_field_named name) 0 l.row-items
