-- The rows of members by their names.
use Rattle.std.specs.Prelude.{◌≡◌, ℕ, ◌+◌, List, [], ◌∷◌, Bool, Option, Some, None, nat_lt, bytes_eq, unwrap_or, if◌then◌else◌}
use Rattle.std.specs.HashMap.{HashMap, get_by}
use Rattle.std.specs.Borrow.{Bor}
use Rattle.il_base.specs.declared.world_model.members.FieldRow.{FieldRow}
use Rattle.il_base.specs.declared.world_model.members.MethodDefRow.{MethodDefRow}
use Rattle.il_base.specs.declared.world_model.record.AsmRec.{AsmRec}
use Rattle.il_base.specs.world_model.Core.{same_name}
use Rattle.type_tables.specs.declared.member_search.names.Names.{Names}

-- the places of the rows that pass a test, where the first of these rows has the place i
abbrev pub places : {A : Type 0} → (A → Bool) → ℕ → List A → List ℕ
places test i [] = []
places test i (x ∷ xs) = if test x then i ∷ places test (i + 1) xs else places test (i + 1) xs

-- the first of these places that fits, before an end
abbrev pub first_fitting : (ℕ → Bool) → ℕ → List ℕ → Option ℕ
first_fitting fits end [] = None
first_fitting fits end (k ∷ ks) = if nat_lt k end then (if fits k then Some k else first_fitting fits end ks) else None

-- the rows under a name
abbrev pub rows_at : {S : Type 0} → HashMap (Bor (List ℕ)) (List ℕ) S → List ℕ → List ℕ
rows_at rows name = unwrap_or (get_by (λ key. bytes_eq name key.now) rows) []

abbrev pub is_method_named : List ℕ → MethodDefRow → Bool
is_method_named name m = same_name m.name name

abbrev pub is_field_named : List ℕ → FieldRow → Bool
is_field_named name f = same_name f.name name

abbrev pub AreMethodRows : {S : Type 0} → AsmRec → HashMap (Bor (List ℕ)) (List ℕ) S → Type 0
AreMethodRows rec rows = (name : List ℕ) → rows_at rows name ≡ places (is_method_named name) 0 rec.method_def

abbrev pub AreFieldRows : {S : Type 0} → AsmRec → HashMap (Bor (List ℕ)) (List ℕ) S → Type 0
AreFieldRows rec rows = (name : List ℕ) → rows_at rows name ≡ places (is_field_named name) 0 rec.field

pub record AreNames (rec : AsmRec) (names : Names) : Type 0 where
  pub methods : AreMethodRows rec names.methods
  pub fields : AreFieldRows rec names.fields
