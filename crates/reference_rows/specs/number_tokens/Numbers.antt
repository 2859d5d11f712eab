-- The tokens of types by their numbers, and maps of them that are filled type by type.
use Rattle.std.specs.Prelude.{◌≡◌, ℕ, zero, suc, List, Bool, false, nat_eq, nat_lt, if◌then◌else◌}
use Rattle.std.specs.List.{list_any}
use Rattle.il_base.specs.declared.ids.TypeId.{TypeId}
use Rattle.merge_plan.specs.declared.moved_parts.tokens.TokenMap.{TokenMap}
use Rattle.merge_plan.specs.declared.moved_parts.tokens.NewTokens.{NewTokens}
use Rattle.merge_plan.specs.moved_parts.Moves.{new_token}
use Rattle.reference_rows.specs.declared.tokens.TypeTokens.{TypeTokens}
use Rattle.reference_rows.specs.Types.{type_token_by}

-- the token of the type that has a number; 0 for 0
abbrev pub number_token_by : TypeTokens → ℕ → ℕ
number_token_by t zero = 0
number_token_by t (suc k) = type_token_by t (record { 0 = k })

-- ---- maps

-- one number has its token; others have what they had
abbrev pub IsSet : (ℕ → ℕ) → ℕ → TokenMap → TokenMap → Type 0
IsSet f n before after = (q : ℕ) → new_token after q ≡ (if nat_eq n q then f q else new_token before q)

-- whether a number is that of one of the first types of the world
abbrev pub is_below : ℕ → ℕ → Bool
is_below count zero = false
is_below count (suc k) = nat_lt k count

abbrev pub IsFilledBelow : (ℕ → ℕ) → ℕ → TokenMap → TokenMap → Type 0
IsFilledBelow f count before after = (q : ℕ) → new_token after q ≡ (if is_below count q then f q else new_token before q)

abbrev pub has_number : ℕ → TypeId → Bool
has_number n t = nat_eq (suc t.0) n

-- whether a number is that of one of these types
abbrev pub is_among : List TypeId → ℕ → Bool
is_among ids n = list_any (has_number n) ids

abbrev pub IsFilledWith : (ℕ → ℕ) → List TypeId → TokenMap → TokenMap → Type 0
IsFilledWith f ids before after = (q : ℕ) → new_token after q ≡ (if is_among ids q then f q else new_token before q)

-- every number has its token
abbrev pub IsWhole : (ℕ → ℕ) → TokenMap → Type 0
IsWhole f map = (q : ℕ) → new_token map q ≡ f q

-- what stands in signatures for classes, value types and modifiers
pub record AreNumberTokensBy (t : TypeTokens) (n : NewTokens) : Type 0 where
  pub classes : IsWhole (number_token_by t) n.classes
  pub modifiers : IsWhole (number_token_by t) n.modifiers
