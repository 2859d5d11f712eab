-- Tokens by numbers, and those of an output.
use Rattle.std.proofs.Common.{◌≡◌, ℕ, zero, suc, refl, ◌∙◌}
use Rattle.rules.specs.merge_rules.Refs.{Output, number_token}
use Rattle.merge_plan.specs.declared.moved_parts.tokens.NewTokens.{NewTokens}
use Rattle.token_keys.specs.signature_rows.Laws.{AreNumberTokens}
use Rattle.reference_rows.specs.declared.tokens.TypeTokens.{TypeTokens}
use Rattle.reference_rows.specs.Laws.{AreOf, AreTypesOf, TypesTell}
use Rattle.reference_rows.specs.number_tokens.Numbers.{number_token_by, AreNumberTokensBy}

numbers_are : (o : Output) (t : TypeTokens) → AreTypesOf o t → (n : ℕ) → number_token_by t n ≡ number_token o n
numbers_are o t are zero = refl
numbers_are o t are (suc k) = are.tokens (record { 0 = k })

pub all_tell : TypesTell → (o : Output) (t : TypeTokens) (n : NewTokens) → AreOf o t → AreNumberTokensBy t n → AreNumberTokens o n
all_tell tell o t n of by = record {
  classes = λ q. by.classes q ∙ numbers_are o t (tell o t of) q;
  modifiers = λ q. by.modifiers q ∙ numbers_are o t (tell o t of) q;
}
