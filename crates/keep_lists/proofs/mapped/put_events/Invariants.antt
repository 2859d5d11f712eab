use Rattle.std.proofs.Common.{◌≡◌, ◌++◌, drop}
use Rattle.rules.specs.type_rules.Rows.{each_from}
use Rattle.keep_lists.specs.Lists.{recs_in, place_in, rec_in, kept_in, event_line}
use Rattle.keep_lists.proofs.mapped.put_events.Given as goal

abbrev pub invariant-loop-k : goal.invariant-loop-k
invariant-loop-k l =
    l.out ++ each_from (event_line (recs_in l.s) (kept_in l.s) (place_in l.s) (rec_in l.s)) l.k (drop l.k l.rows)
    ≡ l.initial.out ++ each_from (event_line (recs_in l.s) (kept_in l.s) (place_in l.s) (rec_in l.s)) 0 l.rows
