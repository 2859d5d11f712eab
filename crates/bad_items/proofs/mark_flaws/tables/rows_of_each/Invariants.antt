use Rattle.std.proofs.Common.{◌≡◌, length}
use Rattle.bad_items.specs.mark_flaws.Tables.{AreEach}
use Rattle.bad_items.proofs.mark_flaws.tables.rows_of_each.Given as goal

abbrev pub invariant-loop-a : goal.invariant-loop-a
invariant-loop-a l = (length l.rows.items ≡ l.a) × AreEach l.all l.rows.items
