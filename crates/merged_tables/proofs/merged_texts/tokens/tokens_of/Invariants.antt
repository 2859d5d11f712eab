use Rattle.std.proofs.Common.{◌≡◌, ℕ, drop}
use Rattle.merge_plan.specs.moved_parts.Moves.{new_token}
use Rattle.merged_tables.specs.merged_texts.Texts.{texts_in, text_number, first_token}
use Rattle.merged_tables.proofs.merged_texts.tokens.tokens_of.Given as goal

abbrev pub invariant-loop-n : goal.invariant-loop-n
invariant-loop-n l = (q : ℕ) → new_token l.map q ≡ first_token (text_number (texts_in l.places)) q (drop l.n l.texts)
