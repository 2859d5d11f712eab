-- The rest is still to be marked.
use Rattle.std.proofs.Common.{◌≡◌, drop}
use Rattle.world_reader.specs.user_strings.Marks.{marked_in}
use Rattle.world_reader.proofs.user_strings.texts.mark_code.Given as goal

abbrev pub invariant-loop-i : goal.invariant-loop-i
invariant-loop-i l = marked_in l.marks.items (drop l.i-index l.code) ≡ marked_in l.initial.marks.items l.code
