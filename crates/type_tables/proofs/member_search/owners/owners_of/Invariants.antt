use Rattle.std.proofs.Common.{◌≡◌, ℕ, suc, ◌<◌, length, None, get_or, drop}
use Rattle.std.specs.List.{position_from}
use Rattle.type_tables.specs.member_search.Owners.{holds}
use Rattle.type_tables.proofs.member_search.owners.owners_of.Given as goal

abbrev pub invariant-loop-t : goal.invariant-loop-t
invariant-loop-t l = record {
  one_each : length l.owners.items ≡ l.rows;
  owned : (k : ℕ) → k < l.rows → get_or l.owners.items k None ≡ position_from (holds (suc k)) l.t (drop l.t l.runs);
}
