-- With what the output refers to, the new tokens of an assembly are its own.
use Rattle.std.specs.Prelude.{◌≡◌, ℕ}
use Rattle.rules.specs.merge_rules.Refs.{Output}
use Rattle.rules.specs.merge_rules.Moved.{moved_text}
use Rattle.merge_plan.specs.declared.moved_parts.tokens.NewTokens.{NewTokens}
use Rattle.merge_plan.specs.moved_parts.Moves.{new_token}
use Rattle.merge_plan.specs.moved_parts.Laws.{AreNewTokens}
use Rattle.token_keys.specs.signature_rows.Laws.{AreNumberTokens}
use Rattle.reference_rows.specs.key_tokens.Laws.{AreKeysOf}
use Rattle.restrict.specs.declared.assembly_tokens.moving.Moving.{Moving}
use Rattle.restrict.specs.assembly_tokens.Tokens.{recs_of, place_of, rec_of, AreMovedTokens}

-- the tokens by keys and the tokens of types of an output
pub record AreMovingOf (o : Output) (m : Moving) : Type 0 where
  pub recs : recs_of m ≡ o.recs
  pub tokens : AreKeysOf o m.tokens
  pub numbers : AreNumberTokens o m.numbers.now

abbrev pub AssemblyTokensTell : Type 0
AssemblyTokensTell = (o : Output) (m : Moving) (t : NewTokens) → AreMovingOf o m → AreMovedTokens m t → ((token : ℕ) → new_token t.texts token ≡ moved_text o (rec_of m) token)
    → AreNewTokens o (place_of m) (rec_of m) t
