-- The first layout of each type, while the rows are gone through.
use Rattle.std.proofs.Common.{ℕ, Option, Some, None}

abbrev pub or_else : Option ℕ → Option ℕ → Option ℕ
or_else (Some j) d = Some j
or_else None d = d
