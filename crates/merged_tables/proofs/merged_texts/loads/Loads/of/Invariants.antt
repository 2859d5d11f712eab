use Rattle.std.proofs.Common.{◌≡◌, ℕ, drop}
use Rattle.std.specs.Prelude.{nat_eq}
use Rattle.std.specs.HashMap.{get}
use Rattle.std.specs.Option.{option_copied, option_or}
use Rattle.merged_tables.proofs.lemmas.merged_texts.TextLemmas.{text_in}
use Rattle.merged_tables.proofs.merged_texts.loads.Loads.of.Given as goal

abbrev pub invariant-loop-text : goal.invariant-loop-text
invariant-loop-text l = (q : ℕ) → option_or (option_copied (get nat_eq l.units q)) (text_in q (drop l.text-index l.text-items)) ≡ text_in q l.text-items
