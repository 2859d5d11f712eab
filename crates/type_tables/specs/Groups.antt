-- The rows of a table, grouped by the value in one of their columns.
use Rattle.std.specs.Prelude.{◌≡◌, ℕ, nat_eq, Bool, List, [], ◌∷◌, Option, None, unwrap_or}
use Rattle.std.specs.HashMap.{HashMap, get}
use Rattle.rules.specs.link_rules.Types.{or_else}
use Rattle.type_tables.specs.member_search.Names.{places}
use Rattle.type_tables.specs.declared.groups.Groups.{Groups}

-- whether a column holds this
abbrev pub is_key : ℕ → ℕ → Bool
is_key key k = nat_eq k key

abbrev pub rows_of : {S : Type 0} → HashMap ℕ (List ℕ) S → ℕ → List ℕ
rows_of rows key = unwrap_or (get nat_eq rows key) []

abbrev pub AreRowsOf : {S : Type 0} → List ℕ → HashMap ℕ (List ℕ) S → Type 0
AreRowsOf keys rows = (key : ℕ) → rows_of rows key ≡ places (is_key key) 0 keys

-- the rows, from 0, in order
abbrev pub rows_with : Groups → ℕ → List ℕ
rows_with groups key = rows_of groups.rows key

abbrev pub AreGroups : List ℕ → Groups → Type 0
AreGroups keys groups = AreRowsOf keys groups.rows

-- the first result of a function over these items that isn't None
abbrev pub first_of : {A B : Type 0} → (A → Option B) → List A → Option B
first_of look [] = None
first_of look (x ∷ xs) = or_else (look x) (first_of look xs)
