-- Assemblies, type by type.
use Rattle.std.proofs.Common.{◌≡◌, ◌≤◌, ℕ, List, [], ◌∷◌, ◌++◌, length, drop, refl, sym, ap, ◌∙◌, Bool}
use Rattle.std.specs.List.{flat_map}
use Rattle.std.proofs.lemmas.List.{drop_all}
use Rattle.il_base.specs.declared.ids.TypeId.{TypeId}
use Rattle.il_base.specs.declared.world_model.assemblies.AssemblyRefRow.{AssemblyRefRow}
use Rattle.il_base.specs.declared.world_model.record.AsmRec.{AsmRec}
use Rattle.rules.specs.merge_rules.Absent.{same_assembly}
use Rattle.rules.specs.merge_rules.Refs.{met_once, all_once, assemblies_of}
use Rattle.reference_rows.specs.reference_assemblies.Assemblies.{meets_listed}

abbrev pub all_met : List AsmRec → List AssemblyRefRow → List TypeId → List AssemblyRefRow
all_met recs rows [] = rows
all_met recs rows (t ∷ types) = all_met recs (meets_listed recs rows t) types

once_append : {A : Type 0} (same : A → A → Bool) (xs ys zs : List A) → all_once same xs (ys ++ zs) ≡ all_once same (all_once same xs ys) zs
once_append same xs [] zs = refl
once_append same xs (y ∷ ys) zs = once_append same (met_once same xs y) ys zs

pub all_met_is : (recs : List AsmRec) (rows : List AssemblyRefRow) (types : List TypeId) → all_met recs rows types ≡ all_once same_assembly rows (flat_map (assemblies_of recs) types)
all_met_is recs rows [] = refl
all_met_is recs rows (t ∷ types) =
    all_met_is recs (meets_listed recs rows t) types ∙ sym (once_append same_assembly rows (assemblies_of recs t) (flat_map (assemblies_of recs) types))

-- after the last type
pub all_done : (recs : List AsmRec) (rows : List AssemblyRefRow) (types : List TypeId) (k : ℕ) → length types ≤ k → all_met recs rows (drop k types) ≡ all_met recs [] types
    → rows ≡ all_once same_assembly [] (flat_map (assemblies_of recs) types)
all_done recs rows types k past e = ap (λ (ts : List TypeId). all_met recs rows ts) (sym (drop_all k types past)) ∙ e ∙ all_met_is recs [] types
