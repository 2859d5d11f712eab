use Rattle.std.proofs.Common.{◌≡◌, map, drop}
use Rattle.rules.specs.mark_rules.Dependencies.{doc_text, all_texts}
use Rattle.descriptor_texts.proofs.lemmas.doc_texts.Collecting.{with_rest}
use Rattle.descriptor_texts.proofs.doc_texts.types.doc_texts.Given as goal

abbrev pub invariant-loop-param : goal.invariant-loop-param
invariant-loop-param l = with_rest l.texts (all_texts (map (doc_text l.names) (drop l.param-index l.params))) ≡ all_texts (map (doc_text l.names) l.params)
