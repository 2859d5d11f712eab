-- Interface rows of a type by their places.
use Rattle.std.specs.Prelude.{ℕ, List, [], ◌∷◌, slice_get}
use Rattle.std.specs.Option.{option_map_or}
use Rattle.il_base.specs.declared.world_model.types.InterfaceImplRow.{InterfaceImplRow}
use Rattle.il_base.specs.declared.world_model.record.AsmRec.{AsmRec}
use Rattle.rules.specs.declared.link_rules.row_at.RowAt.{RowAt}
use Rattle.rules.specs.link_rules.Types.{at_row}

-- a row of InterfaceImpl, where it is there
abbrev pub impl_at : AsmRec → ℕ → ℕ → List RowAt
impl_at rec asm k = option_map_or (λ (row : InterfaceImplRow). at_row asm k ∷ []) (slice_get rec.interface_impl k) []
