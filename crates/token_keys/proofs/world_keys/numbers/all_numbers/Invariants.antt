use Rattle.mark_parts.specs.mark_tables.Assemblies.{all_of}
use Rattle.token_keys.specs.world_keys.Keys.{AreFirstNumbers}
use Rattle.token_keys.proofs.world_keys.numbers.all_numbers.Given as goal

abbrev pub invariant-loop-k : goal.invariant-loop-k
invariant-loop-k l = AreFirstNumbers (all_of l.marker) l.k l.all.items
