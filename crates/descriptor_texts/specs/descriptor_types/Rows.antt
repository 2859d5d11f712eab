-- The types of an assembly by their names.
use Rattle.std.specs.Prelude.{◌≡◌, ℕ, suc, List, [], ◌∷◌, Option, Some, None, ◌&&◌, Bool, true, false, not, bytes_eq}
use Rattle.std.specs.HashMap.{HashMap, get_by}
use Rattle.std.specs.Borrow.{Bor}
use Rattle.il_base.specs.declared.world_model.types.TypeDefRow.{TypeDefRow}
use Rattle.il_base.specs.declared.world_model.record.AsmRec.{AsmRec}
use Rattle.il_base.specs.world_model.Core.{same_name}
use Rattle.rules.specs.link_rules.Types.{or_else}
use Rattle.rules.specs.type_rules.Rows.{is_module_type}
use Rattle.rules.specs.mark_rules.Roots.{slashed_name}
use Rattle.descriptor_texts.specs.declared.descriptor_types.rows.TypeRows.{TypeRows}

abbrev pub row_if : Bool → ℕ → Option ℕ
row_if true row = Some row
row_if false row = None

-- the row under a name
abbrev pub row_in : {S : Type 0} → HashMap (Bor (List ℕ)) ℕ S → List ℕ → Option ℕ
row_in rows name = get_by (λ key. bytes_eq name key.now) rows

-- whether a type has this name; `<Module>` has none
abbrev pub has_name : AsmRec → List ℕ → ℕ → TypeDefRow → Bool
has_name rec name k t = not (is_module_type k t) && same_name (slashed_name rec k) name

-- the first of these types that has this name, where the first has the row k
abbrev pub first_from : AsmRec → List ℕ → ℕ → List TypeDefRow → Option ℕ
first_from rec name k [] = None
first_from rec name k (t ∷ ts) = or_else (row_if (has_name rec name k t) k) (first_from rec name (suc k) ts)

abbrev pub AreTypeRows : AsmRec → TypeRows → Type 0
AreTypeRows rec r = (name : List ℕ) → row_in r.rows name ≡ first_from rec name 0 rec.type_def
