use Rattle.std.proofs.Common.{◌≡◌, length, map}
use Rattle.resolver.specs.type_links.References.{come_down}
use Rattle.resolver.proofs.type_links.index.TypeIndex.come_down.Given as goal

abbrev pub invariant-loop-row : goal.invariant-loop-row
invariant-loop-row l =
    come_down l.self.all.now (map (λ row. row.now) l.rows.items) l.around ≡ come_down l.self.all.now (map (λ row. row.now) l.fn.nested.items) l.fn.end

abbrev pub decreases-loop-row : goal.decreases-loop-row
decreases-loop-row l = length l.rows.items
