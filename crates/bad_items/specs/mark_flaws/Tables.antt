-- What the flaws of a world's items are found by.
use Rattle.std.specs.Prelude.{◌≡◌, ℕ, List, Some, length, slice_get}
use Rattle.il_base.specs.declared.world_model.record.AsmRec.{AsmRec}
use Rattle.type_tables.specs.Groups.{AreGroups}
use Rattle.rules.specs.mark_rules.BadItems.{has_module_initializer}
use Rattle.bad_items.specs.declared.mark_flaws.tables.FlawRows.{FlawRows}
use Rattle.bad_items.specs.declared.mark_flaws.tables.FlawTables.{FlawTables}
use Rattle.bad_items.specs.mark_flaws.Rows.{rva_fields}

-- of an assembly in its place
pub record AreFlawRows (recs : List AsmRec) (a : ℕ) (rec : AsmRec) (r : FlawRows) : Type 0 where
  pub initializer : r.initializer ≡ has_module_initializer recs a
  pub rvas : AreGroups (rva_fields rec) r.rvas

-- those in a place are the assembly's in the same place
abbrev pub AreAt : List AsmRec → ℕ → FlawRows → Type 0
AreAt recs a r = (rec : AsmRec) → slice_get recs a ≡ Some rec → AreFlawRows recs a rec r

abbrev pub AreEach : List AsmRec → List FlawRows → Type 0
AreEach recs rows = (a : ℕ) (r : FlawRows) → slice_get rows a ≡ Some r → AreAt recs a r

pub record AreFlawTables (recs : List AsmRec) (t : FlawTables) : Type 0 where
  pub count : length t.rows.items ≡ length recs
  pub each : AreEach recs t.rows.items
