-- A type and its enclosers, from inside outwards.
use Rattle.std.specs.Prelude.{ℕ, List, [], ◌∷◌, ◌++◌, codes, Option, Some, None, slice_get}
use Rattle.il_base.specs.declared.world_model.record.AsmRec.{AsmRec}
use Rattle.rules.specs.type_rules.Texts.{part_or_none}
use Rattle.rules.specs.type_rules.Labels.{own_name as bare_or_none}
use Rattle.type_names.specs.declared.chain.Chain.{Chain}

-- the name of a type's row, without a namespace and without its enclosers
abbrev pub bare_name : AsmRec → ℕ → List ℕ
bare_name rec k = bare_or_none (slice_get rec.type_def k)

abbrev pub inner_name : AsmRec → ℕ → List ℕ
inner_name rec k = codes "+" ++ bare_name rec k

-- the name of the row of a type that isn't nested
abbrev pub own_name : AsmRec → ℕ → List ℕ
own_name rec k = part_or_none None (slice_get rec.type_def k)

-- the names after that of the outermost type, of which the last row comes first
unfoldable pub inner_names : AsmRec → List ℕ → List ℕ
inner_names rec [] = []
inner_names rec (k ∷ ks) = inner_names rec ks ++ inner_name rec k

abbrev pub outer_name : AsmRec → Option ℕ → List ℕ
outer_name rec None = []
outer_name rec (Some k) = own_name rec k

abbrev pub chain_name : AsmRec → Chain → List ℕ
chain_name rec c = outer_name rec c.outermost ++ inner_names rec c.inner
