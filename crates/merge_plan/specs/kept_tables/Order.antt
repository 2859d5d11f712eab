-- Rows with the keys by which they are sorted.
use Rattle.std.specs.Prelude.{ℕ}
use Rattle.rules.specs.merge_rules.Rows as rows
use Rattle.merge_plan.specs.declared.kept_tables.order.SortedRow.{SortedRow}

abbrev pub sorted_of : SortedRow → rows.SortedRow
sorted_of r = record { at = r.at; owner = r.owner; key = r.key }

abbrev pub key_of : SortedRow → ℕ
key_of r = r.key
