-- The first place of a key, while the list is gone through and the places seen so far are kept.
use Rattle.std.proofs.Common.{ℕ, Option, Some, None}

abbrev pub or_else : Option ℕ → Option ℕ → Option ℕ
or_else (Some j) d = Some j
or_else None d = d
