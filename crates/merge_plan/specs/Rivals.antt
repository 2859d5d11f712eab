-- Types by their full names.
use Rattle.std.specs.Prelude.{◌≡◌, ℕ, ◌&&◌, Bool, List, [], bytes_eq, unwrap_or}
use Rattle.std.specs.List.{filter}
use Rattle.std.specs.HashMap.{HashMap, get_by}
use Rattle.std.specs.Borrow.{Bor}
use Rattle.il_base.specs.declared.world_model.record.AsmRec.{AsmRec}
use Rattle.il_base.specs.world_model.Core.{same_name}
use Rattle.rules.specs.declared.link_rules.row_at.RowAt.{RowAt}
use Rattle.rules.specs.merge_rules.Names.{is_top_level, old_name}

-- the types under a name
abbrev pub named_in : {S : Type 0} → HashMap (Bor (List ℕ)) (List RowAt) S → List ℕ → List RowAt
named_in types name = unwrap_or (get_by (λ key. bytes_eq name key.now) types) []

abbrev pub has_full_name : List AsmRec → List ℕ → RowAt → Bool
has_full_name recs name at = is_top_level recs at && same_name (old_name recs at) name

-- the top-level ones of these types, by their full names
abbrev pub AreNamed : {S : Type 0} → List AsmRec → List RowAt → HashMap (Bor (List ℕ)) (List RowAt) S → Type 0
AreNamed recs rows types = (name : List ℕ) → named_in types name ≡ filter (has_full_name recs name) rows
