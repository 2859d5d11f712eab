use Rattle.std.proofs.Common.{◌≡◌, ◌++◌, map, drop}
use Rattle.type_names.proofs.Joining.{joined_behind}
use Rattle.descriptor_texts.proofs.doc_texts.names.put_joined.Given as goal

abbrev pub invariant-loop-i : goal.invariant-loop-i
invariant-loop-i l = l.out ++ joined_behind l.i (map (λ t. t) (drop l.i l.texts)) ≡ l.initial.out ++ joined_behind 0 (map (λ t. t) l.texts)
