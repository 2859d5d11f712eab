use Rattle.std.proofs.Common.{◌≡◌, length}
use Rattle.attr_blobs.specs.TypeNames.{parts, texts_of}
use Rattle.attr_blobs.proofs.Names.{behind_path}
use Rattle.attr_blobs.proofs.name.path_of.Given as goal

abbrev pub invariant-loop-path : goal.invariant-loop-path
invariant-loop-path l = behind_path l.path (texts_of (parts l.rest)) ≡ texts_of (parts l.marks)

abbrev pub decreases-loop-path : goal.decreases-loop-path
decreases-loop-path l = length l.rest
