-- What is left of inputs that link keeps the demands on names of assemblies (II.22.2) and on enclosers (II.22.32).
use Rattle.std.specs.Prelude.{◌≡◌, ◌<◌, ℕ, List, [], ◌∷◌, length, Some, None, Bool, slice_get}
use Rattle.il_base.specs.declared.world_model.record.AsmRec.{AsmRec}
use Rattle.il_base.specs.world_model.Records.{IsRecord}
use Rattle.rules.specs.link_rules.Faults.{duplicate_assembly, cyclic_nesting}
use Rattle.rules.specs.link_rules.Linked.{assemblies, link_fault_of}
use Rattle.rules.specs.merge_rules.Numbers.{Kept}
use Rattle.rules.specs.merge_rules.Restricted.{restricted}
use Rattle.merge_laws.specs.merged_record.Laws.{RowsFit}

abbrev pub NamesAndNestingStay : Type 0
NamesAndNestingStay =
    (internal : Bool) (inputs : List AsmRec) (kept : Kept) (left : AsmRec) → restricted internal (assemblies inputs) kept ≡ Some left → 0 < length inputs → link_fault_of inputs ≡ None
    → ((a : ℕ) (rec : AsmRec) → slice_get inputs a ≡ Some rec → IsRecord rec) → RowsFit left → (duplicate_assembly (left ∷ []) ≡ None) × (cyclic_nesting (left ∷ []) ≡ None)
