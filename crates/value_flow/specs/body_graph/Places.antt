-- The instructions of a body by their IL offsets.
use Rattle.std.specs.Prelude.{◌≡◌, ℕ, List, length, nat_eq, unwrap_or}
use Rattle.std.specs.List.{position_from}
use Rattle.std.specs.HashMap.{get}
use Rattle.value_flow.specs.declared.body_graph.places.Places.{Places}

abbrev pub place_at : Places → ℕ → ℕ
place_at p offset = unwrap_or (get nat_eq p.map offset) p.count

pub record ArePlaces (keys : List ℕ) (p : Places) : Type 0 where
  pub count : p.count ≡ length keys
  pub first : (offset : ℕ) → get nat_eq p.map offset ≡ position_from (nat_eq offset) 0 keys
