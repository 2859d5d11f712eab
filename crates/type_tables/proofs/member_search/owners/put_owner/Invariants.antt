use Rattle.std.proofs.Common.{◌≡◌, ℕ, suc, ◌<◌, length, Some, None, get_or, nat_lt, nat_le, ◌&&◌}
use Rattle.std.specs.Prelude.{if◌then◌else◌}
use Rattle.type_tables.proofs.member_search.owners.put_owner.Given as goal

abbrev pub invariant-loop-i : goal.invariant-loop-i
invariant-loop-i l = (k : ℕ) → k < length l.owners → get_or l.owners k None ≡ (if nat_le l.fn.run.first (suc k) && nat_lt k l.i then Some l.owner else get_or l.initial.owners k None)
