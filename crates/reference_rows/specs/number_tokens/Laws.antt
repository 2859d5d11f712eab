-- With what the output refers to, the tokens by numbers are its own.
use Rattle.rules.specs.merge_rules.Refs.{Output}
use Rattle.merge_plan.specs.declared.moved_parts.tokens.NewTokens.{NewTokens}
use Rattle.token_keys.specs.signature_rows.Laws.{AreNumberTokens}
use Rattle.reference_rows.specs.declared.tokens.TypeTokens.{TypeTokens}
use Rattle.reference_rows.specs.Laws.{AreOf}
use Rattle.reference_rows.specs.number_tokens.Numbers.{AreNumberTokensBy}

abbrev pub NumbersTell : Type 0
NumbersTell = (o : Output) (t : TypeTokens) (n : NewTokens) → AreOf o t → AreNumberTokensBy t n → AreNumberTokens o n
