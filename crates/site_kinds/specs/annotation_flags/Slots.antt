-- The kinds of a method's parameters and return, and of generic parameters.
use Rattle.std.specs.Prelude.{ℕ, suc, List, [], ◌∷◌, map, slice_get, ◌==◌, if◌then◌else◌}
use Rattle.std.specs.List.{flat_map}
use Rattle.std.specs.Option.{option_map_or}
use Rattle.il_base.specs.declared.table.TheConstants.{GENERIC_PARAM}
use Rattle.il_base.specs.declared.world_model.types.GenericParamRow.{GenericParamRow}
use Rattle.il_base.specs.declared.world_model.members.MethodDefRow.{MethodDefRow}
use Rattle.il_base.specs.declared.world_model.record.AsmRec.{AsmRec}
use Rattle.il_base.specs.world_model.Tokens.{token_of}
use Rattle.rules.specs.link_rules.Cycles.{listed}
use Rattle.rules.specs.mark_rules.Annotations.{sequence_token, param_token, or_zero, kinds_at, with_new}

-- of a row of Param
abbrev pub token_here : AsmRec → ℕ → ℕ → List ℕ
token_here rec sequence k = flat_map (sequence_token sequence k) (listed (slice_get rec.param k))

abbrev pub kinds_of_slot : List AsmRec → ℕ → AsmRec → ℕ → MethodDefRow → ℕ
kinds_of_slot recs a rec sequence m = or_zero (map (kinds_at recs a rec) (listed (param_token rec sequence m)))

-- of a row of GenericParam with a number
abbrev pub numbered_kinds : List AsmRec → ℕ → AsmRec → ℕ → ℕ → GenericParamRow → List ℕ
numbered_kinds recs a rec n k row = if row.number == n then with_new row (kinds_at recs a rec (token_of GENERIC_PARAM (suc k))) ∷ [] else []

abbrev pub numbered_at : List AsmRec → ℕ → AsmRec → ℕ → ℕ → List ℕ
numbered_at recs a rec n k = option_map_or (numbered_kinds recs a rec n k) (slice_get rec.generic_param k) []
