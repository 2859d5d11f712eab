use Rattle.std.proofs.Common.{◌≡◌, ◌≤◌, ◌-◌, length, drop}
use Rattle.attr_blobs.specs.Texts.{behind_text, expect}
use Rattle.attr_blobs.proofs.text.behind_text.Given as goal

abbrev pub invariant-loop-i : goal.invariant-loop-i
invariant-loop-i l = record {
  so_far : behind_text (l.size - l.i) l.now l.rest ≡ behind_text l.size (expect 0 128 191) l.bytes;
  rest : l.rest ≡ drop l.i l.bytes;
  within : l.i ≤ length l.bytes;
}
