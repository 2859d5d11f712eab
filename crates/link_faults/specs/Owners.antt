-- The types that members are in.
use Rattle.std.specs.Prelude.{◌≡◌, ℕ, suc, ◌<◌, List, length, slice_index_or, Option, None}
use Rattle.std.specs.List.{position_from}
use Rattle.il_base.specs.declared.world_model.types.TypeDefRow.{TypeDefRow}
use Rattle.rules.specs.link_rules.Members.{is_in_run}
use Rattle.link_faults.specs.declared.owners.Member.{Member}
use Rattle.link_faults.specs.declared.owners.Member.TheVariants as member
use Rattle.std.specs.Prelude.{Bool}

abbrev pub first_in : Member → TypeDefRow → ℕ
first_in member.Field t = t.field_list_first
first_in member.Method t = t.method_list_first

abbrev pub end_in : Member → TypeDefRow → ℕ
end_in member.Field t = t.field_list_end
end_in member.Method t = t.method_list_end

-- whether the run of a type holds a row, from 1
abbrev pub owns : Member → ℕ → TypeDefRow → Bool
owns kind row t = is_in_run (first_in kind t) (end_in kind t) row

-- `owners` gives each row the first of these types whose run holds it; the types are numbered from i
pub record OwnsFrom (kind : Member) (i : ℕ) (types : List TypeDefRow) (rows : ℕ) (owners : List (Option ℕ)) : Type 0 where
  pub one_each : length owners ≡ rows
  pub each : (k : ℕ) → k < rows → slice_index_or owners k None ≡ position_from (owns kind (suc k)) i types

abbrev pub Owns : Member → List TypeDefRow → ℕ → List (Option ℕ) → Type 0
Owns kind types rows owners = OwnsFrom kind 0 types rows owners
