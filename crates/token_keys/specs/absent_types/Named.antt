-- TypeRef rows by their names.
use Rattle.std.specs.Prelude.{◌≡◌, ℕ, ◌+◌, List, [], ◌∷◌, Bool, false, Option, Some, None, bytes_eq, unwrap_or, if◌then◌else◌}
use Rattle.std.specs.HashMap.{HashMap, get_by}
use Rattle.std.specs.Borrow.{Bor}
use Rattle.il_base.specs.declared.world_model.types.TypeRefRow.{TypeRefRow}
use Rattle.il_base.specs.declared.world_model.record.AsmRec.{AsmRec}
use Rattle.rules.specs.declared.link_rules.row_at.RowAt.{RowAt}
use Rattle.rules.specs.merge_rules.Absent.{reference_at}
use Rattle.token_keys.specs.declared.absent_types.named.Placed.{Placed}

-- the rows under a name
abbrev pub named_in : {S : Type 0} → HashMap (Bor (List ℕ)) (List Placed) S → List ℕ → List Placed
named_in rows name = unwrap_or (get_by (λ key. bytes_eq name key.now) rows) []

abbrev pub is_named : List ℕ → Option TypeRefRow → Bool
is_named name None = false
is_named name (Some row) = bytes_eq row.name name

-- whether a TypeRef row is there and has this name
abbrev pub has_name : List AsmRec → List ℕ → RowAt → Bool
has_name recs name at = is_named name (reference_at recs at)

-- the rows that pass a test, where the first has the place k
abbrev pub placed_from : (RowAt → Bool) → ℕ → List RowAt → List Placed
placed_from test k [] = []
placed_from test k (at ∷ rows) = if test at then record { place = k; at = at } ∷ placed_from test (k + 1) rows else placed_from test (k + 1) rows

abbrev pub AreNamed : {S : Type 0} → List AsmRec → List RowAt → HashMap (Bor (List ℕ)) (List Placed) S → Type 0
AreNamed recs all rows = (name : List ℕ) → named_in rows name ≡ placed_from (has_name recs name) 0 all

-- the place of the first row that passes a test
abbrev pub first_placed : (RowAt → Bool) → List Placed → Option ℕ
first_placed test [] = None
first_placed test (p ∷ ps) = if test p.at then Some p.place else first_placed test ps
