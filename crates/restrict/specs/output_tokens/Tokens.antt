-- The new tokens of assemblies, for every output whose parts are given.
use Rattle.std.specs.Prelude.{◌≡◌, ℕ, List, length, Some, slice_get}
use Rattle.std.specs.List.{flat_map}
use Rattle.il_base.specs.declared.world_model.record.AsmRec.{AsmRec}
use Rattle.rules.specs.file_layout.Interning.{each_once}
use Rattle.rules.specs.merge_rules.Numbers.{kept_methods}
use Rattle.rules.specs.merge_rules.Refs.{Output}
use Rattle.rules.specs.merge_rules.Moved.{texts_of_method}
use Rattle.merge_plan.specs.declared.moved_parts.tokens.NewTokens.{NewTokens}
use Rattle.merge_plan.specs.moved_parts.Laws.{AreNewTokens}
use Rattle.reference_rows.specs.number_tokens.Numbers.{AreNumberTokensBy}
use Rattle.restrict.specs.declared.member_rows.parts.RowParts.{RowParts}
use Rattle.restrict.specs.member_rows.Rows.{AreRowParts, recs_of}
use Rattle.restrict.specs.member_rows.Laws.{ArePartsOf}

-- the tokens by numbers are those of the tokens of types
pub record AreTokenParts (p : RowParts) : Type 0 where
  pub rows : AreRowParts p
  pub numbers : AreNumberTokensBy p.keys.types p.numbers.now

-- the texts of the kept methods
abbrev pub AreTextsMet : Output → List (List ℕ) → Type 0
AreTextsMet o texts = texts ≡ each_once (flat_map (texts_of_method o.recs) (kept_methods o.recs o.kept))

-- the new tokens of an assembly in a place
abbrev pub TellTokens : RowParts → List (List ℕ) → ℕ → AsmRec → NewTokens → Type 0
TellTokens p texts a rec t = (o : Output) → ArePartsOf o p → AreTextsMet o texts → AreNewTokens o a rec t

-- those of the first n assemblies
pub record AreFirstTokens (p : RowParts) (texts : List (List ℕ)) (n : ℕ) (all : List NewTokens) : Type 0 where
  pub long : length all ≡ n
  pub each : (a : ℕ) (rec : AsmRec) (t : NewTokens) → slice_get (recs_of p) a ≡ Some rec → slice_get all a ≡ Some t → TellTokens p texts a rec t
