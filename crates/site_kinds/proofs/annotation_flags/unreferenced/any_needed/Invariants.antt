use Rattle.std.proofs.Common.{◌≡◌, drop}
use Rattle.std.specs.List.{list_any}
use Rattle.attribute_values.specs.attribute_kinds.Sites.{rec_in}
use Rattle.site_kinds.specs.annotation_flags.Unreferenced.{needed_at}
use Rattle.site_kinds.proofs.annotation_flags.unreferenced.any_needed.Given as goal

abbrev pub invariant-loop-k : goal.invariant-loop-k
invariant-loop-k l = list_any (needed_at (rec_in l.site)) (drop l.k-index l.rows) ≡ list_any (needed_at (rec_in l.site)) l.rows
