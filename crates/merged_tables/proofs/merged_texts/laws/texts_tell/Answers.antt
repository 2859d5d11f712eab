use Rattle.std.proofs.Common.{ℕ, List, map, ap}
use Rattle.rules.specs.merge_rules.Moved.{kept_texts}
use Rattle.merged_tables.specs.merged_texts.Texts.{numbered, text_by}
use Rattle.merged_tables.proofs.merged_texts.laws.texts_tell.Goals as goal

pub returns : goal.returns
unfolding kept_texts
returns c = λ o texts are. record {
  user = ap (λ (ts : List (List ℕ)). map (numbered ts) ts) are;
  tokens = λ rec token. ap (λ (ts : List (List ℕ)). text_by ts rec token) are;
}
