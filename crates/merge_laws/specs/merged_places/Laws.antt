-- Where the rows of a merge's inputs stand in the world of its output.
use Rattle.std.specs.Prelude.{◌≡◌, Some, Bool}
use Rattle.il_base.specs.declared.world_model.types.TypeDefRow.{TypeDefRow}
use Rattle.il_base.specs.declared.world_model.members.MethodDefRow.{MethodDefRow}
use Rattle.rules.specs.declared.link_rules.row_at.RowAt.{RowAt}
use Rattle.rules.specs.link_rules.Cycles.{same_row}
use Rattle.rules.specs.type_rules.Rows.{type_row_at}
use Rattle.rules.specs.type_rules.Slots.{method_row_at}
use Rattle.rules.specs.change_rules.Change.{Keep, Undone}
use Rattle.rules.specs.world_change_rules.Places.{PlacesMove}
use Rattle.rules.specs.merged_world_rules.Merge.{Merge, IsMerge, before, after}
use Rattle.rules.specs.merged_world_rules.NewNumbers.{rho_of, back_of, change_of, places_of}
use Rattle.rules.specs.merged_world_rules.Kept.{HasFlags}

abbrev pub LeadBack : Type 0
LeadBack = (m : Merge) → Undone (back_of m) (rho_of m)

abbrev pub MovesPlaces : Type 0
MovesPlaces =
    (m : Merge) (undone : Undone (back_of m) (rho_of m)) (k : Keep) (kept : RowAt → Bool) → IsMerge m → HasFlags m k kept
    → PlacesMove (change_of m undone k) (places_of m) (after m) (before m)

-- two rows that are there, kept or not (`Apart` of run_laws/specs/dispatch_laws/Kept asks it of kept ones)
pub record RowsApart (m : Merge) : Type 0 where
  pub types : (a b : RowAt) (x y : TypeDefRow) → type_row_at (before m) a ≡ Some x → type_row_at (before m) b ≡ Some y
      → same_row ((places_of m).typ a) ((places_of m).typ b) ≡ same_row a b
  pub methods : (a b : RowAt) (x y : MethodDefRow) → method_row_at (before m) a ≡ Some x → method_row_at (before m) b ≡ Some y
      → same_row ((places_of m).method a) ((places_of m).method b) ≡ same_row a b

abbrev pub StayApart : Type 0
StayApart = (m : Merge) → IsMerge m → RowsApart m
