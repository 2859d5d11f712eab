use Rattle.std.proofs.Common.{ℕ, ◌<◌}
use Rattle.std.specs.List.{Contains}
use Rattle.std.specs.BinaryHeap.{heap_items, heap_len}
use Rattle.il_code.proofs.tops.Tops.greatest.Given as goal

abbrev pub invariant-loop-number : goal.invariant-loop-number
invariant-loop-number l = record {
  kept : (x : ℕ × ℕ) → Contains (heap_items l.fn.self.heap) x → l.place < x.1 → Contains (heap_items l.self.heap) x;
  old : (x : ℕ × ℕ) → Contains (heap_items l.self.heap) x → Contains (heap_items l.fn.self.heap) x;
}

abbrev pub decreases-loop-number : goal.decreases-loop-number
decreases-loop-number l = heap_len l.self.heap
