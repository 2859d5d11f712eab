-- What is left of inputs that link links alone (II.22): where its types lead on as those that they stand for, and what is there twice
-- is so in an input.
use Rattle.std.specs.Prelude.{◌≡◌, ◌<◌, ℕ, List, [], ◌∷◌, length, Some, None, Bool, slice_get}
use Rattle.il_base.specs.declared.world_model.record.AsmRec.{AsmRec}
use Rattle.il_base.specs.world_model.Records.{IsRecord}
use Rattle.il_base.specs.world_model.Exprs.{same_expr}
use Rattle.rules.specs.declared.link_rules.row_at.RowAt.{RowAt}
use Rattle.rules.specs.link_rules.Signatures.{same_method_type}
use Rattle.rules.specs.link_rules.Faults.{same_type_key, same_member_key}
use Rattle.rules.specs.link_rules.Linked.{assemblies, link_fault_of}
use Rattle.rules.specs.merge_rules.Numbers.{Kept}
use Rattle.rules.specs.merge_rules.Restricted.{restricted}
use Rattle.merge_laws.specs.merged_record.Laws.{RowsFit}
use Rattle.merge_laws.specs.merged_links.Cycles.{TypesLead, StandsFor}
use Rattle.merge_laws.specs.merged_links.Repeats.{KeysBack, type_keys, field_keys, method_keys}

-- what is asked of the output's rows
pub record LeadsBack (inputs : List AsmRec) (left : AsmRec) (place : RowAt → RowAt) (standing : RowAt → Bool) : Type 0 where
  pub lead : TypesLead (assemblies (left ∷ [])) (assemblies inputs) place standing
  pub each : (j : ℕ) → j < length left.type_def → StandsFor inputs place standing j
  pub types : KeysBack same_type_key type_keys (type_keys 0 left) inputs
  pub fields : KeysBack (same_member_key same_expr) (field_keys (assemblies inputs)) (field_keys (assemblies (left ∷ [])) 0 left) inputs
  pub methods : KeysBack (same_member_key same_method_type) (method_keys (assemblies inputs)) (method_keys (assemblies (left ∷ [])) 0 left) inputs

abbrev pub LinksStay : Type 0
LinksStay =
    (internal : Bool) (inputs : List AsmRec) (kept : Kept) (left : AsmRec) (place : RowAt → RowAt) (standing : RowAt → Bool) → restricted internal (assemblies inputs) kept ≡ Some left → 0 < length inputs
    → link_fault_of inputs ≡ None → ((a : ℕ) (rec : AsmRec) → slice_get inputs a ≡ Some rec → IsRecord rec) → RowsFit left → LeadsBack inputs left place standing → link_fault_of (left ∷ []) ≡ None
