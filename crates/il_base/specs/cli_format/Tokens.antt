-- The number that a coded index has for a token (II.24.2.6): the row above the tag, which says the table.
use Rattle.std.specs.Prelude.{ℕ, ◌+◌, ◌*◌, ◌/◌, ◌%◌, ◌^◌, ◌==◌, position, unwrap_or, if◌then◌else◌}
use Rattle.il_base.specs.declared.cli_format.column.CodedIndex.{CodedIndex}
use Rattle.il_base.specs.cli_format.Coded.{targets_of, tag_bits_of, first_tag_of}

-- the tag that names a table
abbrev pub tag_of : CodedIndex → ℕ → ℕ
tag_of index t = first_tag_of index + unwrap_or (position (λ u. u == t) (targets_of index)) 0

-- the coded index of a token: its row above the tag of its table; 0 for no token
unfoldable pub coded_of : CodedIndex → ℕ → ℕ
coded_of index token = if token == 0 then 0 else token % 16777216 * 2 ^ tag_bits_of index + tag_of index (token / 16777216)
