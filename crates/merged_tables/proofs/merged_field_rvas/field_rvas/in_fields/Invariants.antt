use Rattle.std.proofs.Common.{◌≡◌, ◌++◌, drop}
use Rattle.merge_plan.specs.Kept.{all_from}
use Rattle.merged_tables.specs.merged_field_rvas.FieldRvas.{field_rvas_in}
use Rattle.merged_tables.proofs.merged_field_rvas.field_rvas.in_fields.Given as goal

abbrev pub invariant-loop-a : goal.invariant-loop-a
invariant-loop-a l = l.rows.items ++ all_from (field_rvas_in l.tables) l.a (drop l.a l.rec-items) ≡ all_from (field_rvas_in l.tables) 0 l.rec-items
