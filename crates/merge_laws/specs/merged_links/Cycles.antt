-- No type of a record is on a cycle, where each stands for a type of inputs that link and leads on as that one does (II.10.3, II.22.37).
use Rattle.std.specs.Prelude.{◌≡◌, ◌<◌, ℕ, List, [], ◌∷◌, length, Some, None, slice_get, Contains, Bool, IsTrue}
use Rattle.il_base.specs.declared.world_model.record.AsmRec.{AsmRec}
use Rattle.rules.specs.declared.link_rules.row_at.RowAt.{RowAt}
use Rattle.rules.specs.link_rules.Types.{at_row}
use Rattle.rules.specs.link_rules.Cycles.{base_rows, interface_rows, field_values}
use Rattle.rules.specs.link_rules.Faults.{cyclic_types}
use Rattle.rules.specs.link_rules.Linked.{assemblies, link_fault_of}

-- What the place of a kept row leads to is the place of a kept row that this one leads to.
abbrev pub StepsBack : (RowAt → RowAt) → (RowAt → Bool) → (RowAt → List RowAt) → (RowAt → List RowAt) → Type 0
StepsBack place kept old new = (x z : RowAt) → IsTrue (kept x) → Contains (new (place x)) z → (w : RowAt) × Contains (old x) w × IsTrue (kept w) × (place w ≡ z)

-- a type of these assemblies
pub record IsType (recs : List AsmRec) (at : RowAt) : Type 0 where
  pub rec : AsmRec
  pub here : slice_get recs at.asm ≡ Some rec
  pub below : at.row < length rec.type_def

pub record TypesLead (after before : List AsmRec) (place : RowAt → RowAt) (kept : RowAt → Bool) : Type 0 where
  pub one : (x y : RowAt) → IsTrue (kept x) → IsTrue (kept y) → place x ≡ place y → x ≡ y
  pub bases : StepsBack place kept (base_rows before) (base_rows after)
  pub interfaces : StepsBack place kept (interface_rows before) (interface_rows after)
  pub values : StepsBack place kept (field_values before) (field_values after)
  pub there : (x : RowAt) → IsTrue (kept x) → IsType before x

-- A type of the record stands for a kept type of an input.
pub record StandsFor (inputs : List AsmRec) (place : RowAt → RowAt) (kept : RowAt → Bool) (j : ℕ) : Type 0 where
  pub at : RowAt
  pub is_kept : IsTrue (kept at)
  pub rec : AsmRec
  pub there : slice_get inputs at.asm ≡ Some rec
  pub below : at.row < length rec.type_def
  pub stands : place at ≡ at_row 0 j

abbrev pub CyclesStay : Type 0
CyclesStay =
    (inputs : List AsmRec) (left : AsmRec) (place : RowAt → RowAt) (kept : RowAt → Bool) → link_fault_of inputs ≡ None → TypesLead (assemblies (left ∷ [])) (assemblies inputs) place kept
    → ((j : ℕ) → j < length left.type_def → StandsFor inputs place kept j) → cyclic_types (assemblies (left ∷ [])) (left ∷ []) ≡ None
