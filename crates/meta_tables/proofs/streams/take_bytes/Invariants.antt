-- The bytes so far are taken, and no others.
use Rattle.std.proofs.Common.{◌≡◌, ℕ, ◌<◌, ◌≤◌, length, get_or, true, false}
use Rattle.meta_tables.proofs.streams.take_bytes.Given as goal

abbrev pub invariant-loop-k : goal.invariant-loop-k
invariant-loop-k l = record {
  size : length l.taken.items ≡ length l.fn.taken.items;
  inside : (j : ℕ) → l.from ≤ j → j < l.k → get_or l.taken.items j false ≡ true;
  before : (j : ℕ) → j < l.from → get_or l.taken.items j false ≡ get_or l.fn.taken.items j false;
  behind : (j : ℕ) → l.k ≤ j → get_or l.taken.items j false ≡ get_or l.fn.taken.items j false;
}
