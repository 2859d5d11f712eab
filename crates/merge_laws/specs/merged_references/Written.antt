-- Which types the output of a merge has tokens for: kept types of inputs, and types of the core library that it refers to.
use Rattle.std.specs.Prelude.{◌≡◌, ◌<◌, ℕ, suc, List, [], ◌∷◌, length, Some, Contains, IsTrue}
use Rattle.il_base.specs.declared.ids.TypeId.{TypeId}
use Rattle.il_base.specs.declared.ids.Item.TheVariants as item
use Rattle.il_base.specs.declared.world_model.types.TypeRefRow.{TypeRefRow}
use Rattle.il_base.specs.declared.world_model.members.MemberRefRow.{MemberRefRow}
use Rattle.rules.specs.declared.link_rules.row_at.RowAt.{RowAt}
use Rattle.rules.specs.link_rules.Members.{type_home}
use Rattle.rules.specs.merge_rules.Numbers.{kept_types, new_row}
use Rattle.rules.specs.merge_rules.Order.{Met}
use Rattle.rules.specs.merge_rules.Refs.{types_of_met, type_refs, type_ref_row, MemberKey, member_refs, member_ref_row}
use Rattle.rules.specs.merged_world_rules.Merge.{Merge, before, output}

-- Each type and each member that is referred to has one row.
pub record HasReferenceRows (m : Merge) : Type 0 where
  pub types : (t : TypeId) → Contains (type_refs (before m) (output m).mets) t → (row : TypeRefRow) × (type_ref_row (output m) t ≡ row ∷ [])
  pub members : (x : MemberKey) → Contains (member_refs (output m).mets) x → (row : MemberRefRow) × (member_ref_row (output m) x ≡ row ∷ [])

-- a type that the output has
pub data IsWritten (m : Merge) (t : TypeId) : Type 0 where
  kept_type : (at : RowAt) (k : ℕ) → type_home (before m) t ≡ Some at → suc at.asm < length (before m) → new_row (kept_types (before m) m.kept) at ≡ Some k → IsWritten m t
  core_type : (at : RowAt) → type_home (before m) t ≡ Some at → suc at.asm ≡ length (before m) → Contains (type_refs (before m) (output m).mets) t → IsWritten m t

-- what is met of inputs is kept
abbrev pub KeepsMet : Merge → Met → Type 0
KeepsMet m x =
    (t : TypeId) (at : RowAt) → Contains (types_of_met (before m) x) t → type_home (before m) t ≡ Some at → suc at.asm < length (before m) → IsTrue (m.kept (item.Typ t))
