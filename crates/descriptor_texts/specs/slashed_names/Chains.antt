-- A type and its enclosers, from inside outwards.
use Rattle.std.specs.Prelude.{ℕ, List, [], ◌∷◌, ◌++◌, codes, Option, Some, None, slice_get}
use Rattle.il_base.specs.declared.world_model.types.TypeDefRow.{TypeDefRow}
use Rattle.il_base.specs.declared.world_model.record.AsmRec.{AsmRec}
use Rattle.rules.specs.type_rules.Texts.{full_name}
use Rattle.descriptor_texts.specs.declared.slashed_names.chain.Chain.{Chain}

abbrev pub bare_or_none : Option TypeDefRow → List ℕ
bare_or_none None = []
bare_or_none (Some t) = t.name

abbrev pub own_or_none : Option TypeDefRow → List ℕ
own_or_none None = []
own_or_none (Some t) = full_name t

-- the name of a nested type's row, without a namespace and without its enclosers
abbrev pub bare_name : AsmRec → ℕ → List ℕ
bare_name rec k = bare_or_none (slice_get rec.type_def k)

abbrev pub inner_name : AsmRec → ℕ → List ℕ
inner_name rec k = codes "/" ++ bare_name rec k

-- the name of the row of a type that isn't nested
abbrev pub own_name : AsmRec → ℕ → List ℕ
own_name rec k = own_or_none (slice_get rec.type_def k)

-- the names after that of the outermost type, of which the last row comes first
unfoldable pub inner_names : AsmRec → List ℕ → List ℕ
inner_names rec [] = []
inner_names rec (k ∷ ks) = inner_names rec ks ++ inner_name rec k

abbrev pub outer_name : AsmRec → Option ℕ → List ℕ
outer_name rec None = []
outer_name rec (Some k) = own_name rec k

abbrev pub chain_name : AsmRec → Chain → List ℕ
chain_name rec c = outer_name rec c.outermost ++ inner_names rec c.inner
