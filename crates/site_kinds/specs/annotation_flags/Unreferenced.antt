-- Methods that need code that nothing refers to, by the rows of CustomAttribute.
use Rattle.std.specs.Prelude.{ℕ, suc, false, slice_get, ◌==◌, ◌&&◌, Bool}
use Rattle.std.specs.List.{list_any}
use Rattle.std.specs.Option.{option_map_or}
use Rattle.il_base.specs.declared.table.TheConstants.{METHOD_DEF}
use Rattle.il_base.specs.declared.world_model.extras.CustomAttributeRow.{CustomAttributeRow}
use Rattle.il_base.specs.declared.world_model.record.AsmRec.{AsmRec}
use Rattle.il_base.specs.world_model.Tokens.{token_of}
use Rattle.rules.specs.mark_rules.Annotations.{is_called, requires_unreferenced}

abbrev pub needed_at : AsmRec → ℕ → Bool
needed_at rec k = option_map_or (is_called rec requires_unreferenced) (slice_get rec.custom_attribute k) false

-- the method in a row
abbrev pub needed_in : AsmRec → ℕ → Bool
needed_in rec row = list_any (λ (r : CustomAttributeRow). r.parent == token_of METHOD_DEF (suc row) && is_called rec requires_unreferenced r) rec.custom_attribute
