-- New numbers of the rows of one kind, types, methods or fields. Kept rows of inputs are counted in their order, after them the rows
-- of the core library that the output's world has too. Any other number goes after all rows, so that no two numbers become one.
use Rattle.std.specs.Prelude.{◌≡◌, ◌<◌, ℕ, ◌+◌, ◌-◌, List, length, Option, Some, None, Bool, slice_get, nat_le, nat_lt, ◌&&◌, unwrap_or, if◌then◌else◌}
use Rattle.std.specs.List.{list_any}
use Rattle.std.specs.Option.{option_map, option_and_then}
use Rattle.il_base.specs.declared.world_model.record.AsmRec.{AsmRec}
use Rattle.il_base.specs.world_model.Worlds.{rows_before}
use Rattle.rules.specs.declared.link_rules.row_at.RowAt.{RowAt}
use Rattle.rules.specs.link_rules.Types.{at_row}
use Rattle.rules.specs.link_rules.Cycles.{listed}
use Rattle.rules.specs.link_rules.Members.{home_from}
use Rattle.rules.specs.merge_rules.Numbers.{new_row}

-- how many rows the inputs have, and how many with the core library, the last assembly
abbrev pub in_inputs : (AsmRec → ℕ) → List AsmRec → ℕ
in_inputs count recs = rows_before count recs (length recs - 1)

abbrev pub in_all : (AsmRec → ℕ) → List AsmRec → ℕ
in_all count recs = rows_before count recs (length recs)

-- the number of a row
abbrev pub number_at : (AsmRec → ℕ) → List AsmRec → RowAt → ℕ
number_at count recs at = rows_before count recs at.asm + at.row

-- ---- rows of the core library

pub record CoreRows : Type 0 where
  -- the new row of a row, in the other world's core library, where it has one
  pub to : ℕ → Option ℕ
  -- the row whose new row is this one
  pub back : ℕ → ℕ
  -- how many rows the other world's core library has
  pub count : ℕ

-- each new row is there, and no two rows have the same one
pub record IsFit (c : CoreRows) : Type 0 where
  pub low : (r s : ℕ) → c.to r ≡ Some s → s < c.count
  pub led_back : (r s : ℕ) → c.to r ≡ Some s → c.back s ≡ r

-- so many rows, which stay where they are
abbrev pub same_rows : ℕ → CoreRows
same_rows n = record { to = λ r. if nat_lt r n then Some r else None; back = λ r. r; count = n }

-- ---- numbers

-- the new row of a row of the core library, by its number n: the inputs have `below` rows, the world has `all`
abbrev pub core_to : CoreRows → ℕ → ℕ → ℕ → Option ℕ
core_to c below all n = if nat_le below n && nat_lt n all then c.to (n - below) else None

abbrev pub other_number : CoreRows → ℕ → ℕ → ℕ → ℕ → ℕ
other_number c kept below all n = unwrap_or (option_map (λ r. kept + r) (core_to c below all n)) (kept + c.count + n)

-- the new number of a row, where these rows of inputs are kept
unfoldable pub new_number : (AsmRec → ℕ) → CoreRows → List AsmRec → List RowAt → ℕ → ℕ
new_number count c recs kept n =
    unwrap_or (option_and_then (new_row kept) (home_from count 0 recs n)) (other_number c (length kept) (in_inputs count recs) (in_all count recs) n)

abbrev pub other_back : CoreRows → ℕ → ℕ → ℕ → ℕ
other_back c kept below n = if nat_lt n (kept + c.count) then c.back (n - kept) + below else n - (kept + c.count)

-- the number whose new number is n
unfoldable pub old_number : (AsmRec → ℕ) → CoreRows → List AsmRec → List RowAt → ℕ → ℕ
old_number count c recs kept n = unwrap_or (option_map (number_at count recs) (slice_get kept n)) (other_back c (length kept) (in_inputs count recs) n)

-- ---- places

-- the row with a number; where there is none, one that would have it
abbrev pub place_numbered : (AsmRec → ℕ) → List AsmRec → ℕ → RowAt
place_numbered count recs n = unwrap_or (home_from count 0 recs n) (at_row 0 n)

-- whether a row is there
abbrev pub has_row : (AsmRec → ℕ) → List AsmRec → RowAt → Bool
has_row count recs at = list_any (λ (rec : AsmRec). nat_lt at.row (count rec)) (listed (slice_get recs at.asm))

-- the place of a row in the other world; a row that isn't there has a place without a row
abbrev pub new_place : (AsmRec → ℕ) → CoreRows → List AsmRec → List AsmRec → List RowAt → RowAt → RowAt
new_place count c after before kept at =
    if has_row count before at then place_numbered count after (new_number count c before kept (number_at count before at)) else at_row (length after) 0
