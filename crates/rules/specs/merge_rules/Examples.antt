-- Examples: what is left of two small inputs.
use Rattle.std.specs.Prelude.{◌≡◌, List, [], ◌∷◌, codes, true, false, Some, None}
use Rattle.std.specs.Option.{option_map}
use Rattle.il_base.specs.declared.element.TheConstants as element
use Rattle.il_base.specs.declared.sig.Sig as sig
use Rattle.il_base.specs.declared.world_model.record.AsmRec.{AsmRec}
use Rattle.rules.specs.link_rules.Types.{at_row}
use Rattle.rules.specs.merge_rules.Numbers.{kept_types, kept_methods}
use Rattle.rules.specs.merge_rules.Names.{new_names, collision}
use Rattle.rules.specs.merge_rules.Keys.{TypeKey, named, own_method}
use Rattle.rules.specs.merge_rules.Order.{Met, met_type, met_sig, met_method, met_by_types}
use Rattle.rules.specs.merge_rules.Refs.{Output, type_refs, type_ref_rows, assembly_refs}
use Rattle.rules.specs.merge_rules.Moved.{moved_type_row}
use Rattle.rules.specs.merge_rules.Restricted.{restricted}
use Rattle.rules.specs.merge_rules.Sample.{recs, kept, app, lib, class_row, method_row, int_field, call, ret, object_ref, runtime_ref}

-- kept rows in the order of the inputs, and then in their own
abbrev pub KeepsTypes : Type 0
KeepsTypes = kept_types recs kept ≡ at_row 0 0 ∷ at_row 0 1 ∷ at_row 1 0 ∷ at_row 1 1 ∷ []

abbrev pub KeepsMethods : Type 0
KeepsMethods = kept_methods recs kept ≡ at_row 0 1 ∷ at_row 1 0 ∷ []

-- the second P is renamed, and isn't public
abbrev pub Renames : Type 0
Renames = new_names recs (kept_types recs kept) ≡ record { typ = at_row 1 1; name = codes "<B>P" } ∷ []

abbrev pub NoCollision : Type 0
NoCollision = collision recs (λ t. false) (kept_types recs kept) ≡ None

-- a type that is shown can't be renamed
abbrev pub Collides : Type 0
Collides = collision recs (λ t. true) (kept_types recs kept) ≡ Some (record { first = at_row 0 1; second = at_row 1 1 })

-- ---- the record that is left: F and x are gone, and what is named has its new token

abbrev pub Left : {A : Type 0} → (AsmRec → A) → A → Type 0
Left part expected = option_map part (restricted false recs kept) ≡ Some expected

abbrev pub LeavesFields : Type 0
LeavesFields = Left (λ rec. rec.field) (int_field (codes "y") ∷ [])

abbrev pub LeavesMethods : Type 0
LeavesMethods =
    Left (λ rec. rec.method_def) (method_row (codes "Main") 0x2050 (call 0 0x06000001 ∷ ret 5 ∷ []) ∷ method_row (codes "M") 0x2058 (call 0 0x06000002 ∷ ret 5 ∷ []) ∷ [])

abbrev pub LeavesEntry : Type 0
LeavesEntry = Left (λ rec. rec.entry) 0x06000001

-- ---- references: Object stands after the four types of the inputs

abbrev pub object : TypeKey
object = named (record { 0 = 4 })

abbrev pub void : Met
void = met_sig (sig.Prim element.VOID)

-- in the order of types
abbrev pub mets : List Met
mets =
    met_type object ∷ void ∷ met_method (own_method (record { 0 = 1 }))
    ∷ met_type object ∷ met_type (named (record { 0 = 2 })) ∷ met_sig (sig.Prim element.I4) ∷ void ∷ met_method (own_method (record { 0 = 2 })) ∷ []

abbrev pub Meets : Type 0
Meets = met_by_types recs kept ≡ mets

abbrev pub output : Output
output = record { recs = recs; kept = kept; mets = mets }

abbrev pub RefersTo : Type 0
RefersTo = type_refs recs mets ≡ record { 0 = 4 } ∷ []

abbrev pub WritesReferences : Type 0
WritesReferences = type_ref_rows output ≡ object_ref ∷ []

abbrev pub NamesAssemblies : Type 0
NamesAssemblies = assembly_refs recs mets ≡ runtime_ref ∷ []

-- P of A lost F, and P of B has its new name and its base's new token
abbrev pub MovesType : Type 0
MovesType = moved_type_row false output (at_row 0 1) app (class_row (codes "P") 0x01000001 1 1 1 3) ≡ class_row (codes "P") 0x01000001 1 1 1 2

abbrev pub MovesOther : Type 0
MovesOther = moved_type_row false output (at_row 1 1) lib (class_row (codes "P") 0x02000001 2 3 1 2) ≡ class_row (codes "<B>P") 0x02000003 1 2 2 3
