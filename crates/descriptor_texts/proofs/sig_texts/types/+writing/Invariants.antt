use Rattle.std.proofs.Common.{◌≡◌, ◌++◌, map, drop}
use Rattle.type_names.proofs.Joining.{joined_behind}
use Rattle.descriptor_texts.specs.sig_texts.Spelled.{text_of}
use Rattle.descriptor_texts.proofs.sig_texts.types.+writing.Given as goal

abbrev pub invariant-put_arguments-loop-i : goal.invariant-put_arguments-loop-i
invariant-put_arguments-loop-i l = l.out ++ joined_behind l.i (map (text_of l.s) (drop l.i l.args)) ≡ l.initial.out ++ joined_behind 0 (map (text_of l.s) l.args)
