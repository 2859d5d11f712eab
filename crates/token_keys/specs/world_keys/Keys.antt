-- The assemblies of a world with the numbers of their tokens.
use Rattle.std.specs.Prelude.{◌≡◌, ℕ, List, length, Some, slice_get}
use Rattle.il_base.specs.declared.world_model.record.AsmRec.{AsmRec}
use Rattle.mark_parts.specs.mark_tables.Assemblies.{all_of, IsMarker}
use Rattle.merge_plan.specs.declared.moved_parts.tokens.NewTokens.{NewTokens}
use Rattle.token_keys.specs.signature_rows.Laws.{AreNumbers}
use Rattle.token_keys.specs.declared.keys.Keys.{Keys}
use Rattle.token_keys.specs.Keys.{recs_of, place_of, IsKeys}
use Rattle.token_keys.specs.declared.world_keys.keys.WorldKeys.{WorldKeys}

-- of the first n assemblies
pub record AreFirstNumbers (recs : List AsmRec) (n : ℕ) (all : List NewTokens) : Type 0 where
  pub long : length all ≡ n
  pub each : (a : ℕ) (rec : AsmRec) (t : NewTokens) → slice_get recs a ≡ Some rec → slice_get all a ≡ Some t → AreNumbers recs a rec t

abbrev pub AreAllNumbers : List AsmRec → List NewTokens → Type 0
AreAllNumbers recs all = AreFirstNumbers recs (length recs) all

pub record IsWorldKeys (w : WorldKeys) : Type 0 where
  pub marker : IsMarker w.marker.now
  pub numbers : AreAllNumbers (all_of w.marker.now) w.numbers.now

-- the keys of an assembly of the world
pub record AreKeysAt (w : WorldKeys) (a : ℕ) (k : Keys) : Type 0 where
  pub are : IsKeys k
  pub recs : recs_of k ≡ all_of w.marker.now
  pub place : place_of k ≡ a
