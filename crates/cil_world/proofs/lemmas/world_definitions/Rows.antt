-- The first row of a field, by where its key stands first.
use Rattle.std.proofs.Common.{◌≡◌, ℕ, Option, Some, None}
use Rattle.std.specs.Prelude.{slice_get}
use Rattle.il_base.specs.declared.world_model.extras.FieldRvaRow.{FieldRvaRow}
use Rattle.il_base.specs.declared.world_model.record.AsmRec.{AsmRec}
use Rattle.il_base.specs.declared.first_places.places.Places.{Places}
use Rattle.il_base.specs.first_places.Places.{place_in, AreFirst}
use Rattle.il_base.proofs.lemmas.first_places.Finding.{missing, present}
use Rattle.cil_world.specs.world_definitions.Fields.{fields_with_bytes, row_with}

module _ (rec : AsmRec) (places : Places) (token : ℕ) (are : AreFirst (fields_with_bytes rec) places) where
  pub no_row : None ≡ place_in places token → None ≡ row_with rec token
  no_row none = missing (λ (r : FieldRvaRow). r.field) token rec.field_rva (place_in places token) (are token) none

  pub one_row : (place : ℕ) → Some place ≡ place_in places token → (found : Option FieldRvaRow) → found ≡ slice_get rec.field_rva place → found ≡ row_with rec token
  one_row place there found is = present (λ (r : FieldRvaRow). r.field) token place rec.field_rva (place_in places token) found (are token) there is
