-- The rest is still to be marked.
use Rattle.std.proofs.Common.{◌≡◌, drop}
use Rattle.world_reader.specs.user_strings.Marks.{marked}
use Rattle.world_reader.proofs.user_strings.texts.mark_all.Given as goal

abbrev pub invariant-loop-m : goal.invariant-loop-m
invariant-loop-m l = marked l.marks.items (drop l.m-index l.methods) ≡ marked l.initial.marks.items l.methods
