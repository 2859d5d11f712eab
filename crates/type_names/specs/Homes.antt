-- The row of a type, with the assembly that has it.
use Rattle.std.specs.Prelude.{ℕ, ◌-◌, List, [], ◌∷◌, length, Option, Some, None, nat_lt, if◌then◌else◌}
use Rattle.il_base.specs.declared.world_model.record.AsmRec.{AsmRec}
use Rattle.il_base.specs.world_model.Worlds.{types_in}
use Rattle.rules.specs.type_rules.Texts.{row_name}
use Rattle.rules.specs.type_rules.Labels.{row_space}

-- the assembly and the row of the type with this number
abbrev pub row_of : List AsmRec → ℕ → Option (AsmRec × ℕ)
row_of [] n = None
row_of (rec ∷ recs) n = if nat_lt n (types_in rec) then Some (rec, n) else row_of recs (n - types_in rec)

-- what is made of such a row; of none nothing
abbrev pub made_of_row : (AsmRec → ℕ → List ℕ) → Option (AsmRec × ℕ) → List ℕ
made_of_row f None = []
made_of_row f (Some p) = f p.0 p.1

-- the name with the enclosers, the own name and the namespace of the outermost encloser
abbrev pub whole_name : AsmRec → ℕ → List ℕ
whole_name rec k = row_name rec (length rec.type_def) k

abbrev pub outer_space : AsmRec → ℕ → List ℕ
outer_space rec k = row_space rec (length rec.type_def) k
