use Rattle.std.proofs.Common.{◌≡◌, drop}
use Rattle.attr_blobs.proofs.Names.{behind_text}
use Rattle.attr_blobs.specs.TypeNames.{text_of}
use Rattle.attr_blobs.proofs.mark.text_of.Given as goal

abbrev pub invariant-loop-mark : goal.invariant-loop-mark
invariant-loop-mark l = behind_text l.text (text_of (drop l.mark-index l.marks)) ≡ text_of l.marks
