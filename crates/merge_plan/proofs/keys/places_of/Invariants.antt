use Rattle.std.proofs.Common.{◌≡◌, drop}
use Rattle.std.specs.HashMap.{get}
use Rattle.std.specs.List.{position_from}
use Rattle.std.specs.Option.{option_or}
use Rattle.rules.specs.declared.link_rules.row_at.RowAt.{RowAt}
use Rattle.rules.specs.link_rules.Cycles.{same_row}
use Rattle.merge_plan.specs.Keys.{same_spot, spot_of}
use Rattle.merge_plan.proofs.keys.places_of.Given as goal

abbrev pub invariant-loop-i : goal.invariant-loop-i
invariant-loop-i l = (q : RowAt) → option_or (get same_spot l.places (spot_of q)) (position_from (same_row q) l.i (drop l.i l.rows)) ≡ position_from (same_row q) 0 l.rows
