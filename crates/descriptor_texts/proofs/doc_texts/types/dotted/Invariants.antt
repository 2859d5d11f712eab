use Rattle.std.proofs.Common.{◌≡◌, ◌++◌, drop}
use Rattle.rules.specs.mark_rules.Dependencies.{dotted}
use Rattle.descriptor_texts.proofs.doc_texts.types.dotted.Given as goal

abbrev pub invariant-loop-c : goal.invariant-loop-c
invariant-loop-c l = l.out ++ dotted (drop l.c-index l.text) ≡ dotted l.text
