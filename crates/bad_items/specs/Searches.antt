-- The first marked method that names a member of reflection which marking doesn't follow yet, by a search.
use Rattle.std.specs.Prelude.{ℕ, zero, suc, ◌+◌, List, length, slice_get, Bool, ◌&&◌, Option, Some, None, if◌then◌else◌}
use Rattle.std.specs.Option.{is_some}
use Rattle.il_base.specs.declared.world_model.record.AsmRec.{AsmRec}
use Rattle.rules.specs.declared.link_rules.row_at.RowAt.{RowAt}
use Rattle.rules.specs.link_rules.Types.{at_row}
use Rattle.rules.specs.mark_rules.Places.{marks_method}
use Rattle.rules.specs.mark_rules.NotYet.{has_operand}
use Rattle.marking.specs.declared.marked.Marked.{Marked}
use Rattle.marking.specs.Holding.{holds}

-- the first of n numbers, from i on, at which a test holds
unfoldable pub found_from : (ℕ → Bool) → ℕ → ℕ → Option ℕ
found_from test zero i = None
found_from test (suc n) i = if test i then Some i else found_from test n (i + 1)

-- whether the method in a row is marked and names such a member
abbrev pub is_waiting : List AsmRec → Marked → RowAt → Bool
is_waiting recs m at = holds m (marks_method recs at) && has_operand recs at

-- the first such row of an assembly
abbrev pub first_row : List AsmRec → Marked → ℕ → Option ℕ
first_row recs m asm = row_in (slice_get recs asm)
  where
    row_in : Option AsmRec → Option ℕ
    row_in None = None
    row_in (Some rec) = found_from (λ row. is_waiting recs m (at_row asm row)) (length rec.method_def) 0

-- the first assembly with one
abbrev pub first_assembly : List AsmRec → Marked → Option ℕ
first_assembly recs m = found_from (λ asm. is_some (first_row recs m asm)) (length recs) 0
