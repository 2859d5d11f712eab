use Rattle.std.proofs.Common.{◌≡◌, ◌++◌, drop}
use Rattle.attr_blobs.specs.Answers.{Extends}
use Rattle.attr_blobs.specs.Writing.{fixed_bytes}
use Rattle.attr_blobs.proofs.write.put_fixed.Given as goal

abbrev pub invariant-loop-i : goal.invariant-loop-i
invariant-loop-i l = record {
  extends : Extends l.initial.out.items l.out.items;
  so_far : l.out.items ++ fixed_bytes (drop l.i l.params) (drop l.i l.args) ≡ l.initial.out.items ++ fixed_bytes l.params l.args;
}
