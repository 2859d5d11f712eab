-- Flags of II.23.1.
use Rattle.std.specs.Prelude.{ℕ, Bool, ◌/◌, ◌%◌, ◌==◌}

-- whether a flag of one bit is set
abbrev pub has_flag : ℕ → ℕ → Bool
has_flag flags bit = flags / bit % 2 == 1

-- the accessibility of a member or the visibility of a type: the low three flags (II.23.1.5, II.23.1.10, II.23.1.15)
abbrev pub access_of : ℕ → ℕ
access_of flags = flags % 8
