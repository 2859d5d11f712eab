-- Texts with commas between.
use Rattle.std.specs.Prelude.{ℕ, zero, suc, List, [], codes}

-- a comma before each text but the first
abbrev pub separator : ℕ → List ℕ
separator zero = []
separator (suc n) = codes ","
