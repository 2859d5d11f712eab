use Rattle.std.proofs.Common.{◌≡◌, take}
use Rattle.token_keys.proofs.key_copies.sigs.+copying.Given as goal

abbrev pub invariant-copy_sigs-loop-one : goal.invariant-copy_sigs-loop-one
invariant-copy_sigs-loop-one l = l.copies ≡ take l.one-index l.sigs
