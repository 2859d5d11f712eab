use Rattle.std.proofs.Common.{◌≡◌, ◌+◌, ◌-◌}
use Rattle.std.specs.List.{list_any, range_with_len}
use Rattle.merge_plan.specs.Kept.{kept_by}
use Rattle.merged_tables.specs.merged_maps.Maps.{keeps_row}
use Rattle.merged_tables.proofs.merged_maps.runs.keeps_some.Given as goal

abbrev pub invariant-loop-k : goal.invariant-loop-k
invariant-loop-k l =
    list_any (keeps_row l.kind l.recs (kept_by l.kept) l.asm) (range_with_len (l.start + l.k) (l.count - l.k))
    ≡ list_any (keeps_row l.kind l.recs (kept_by l.kept) l.asm) (range_with_len l.start l.count)
