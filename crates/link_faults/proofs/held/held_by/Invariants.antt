use Rattle.std.proofs.Common.{◌≡◌, ◌++◌, drop}
use Rattle.std.specs.List.{flat_map}
use Rattle.link_faults.specs.Values.{held_in_field}
use Rattle.link_faults.proofs.held.held_by.Given as goal

abbrev pub invariant-loop-field : goal.invariant-loop-field
invariant-loop-field l =
    l.held ++ flat_map (held_in_field l.scope.all.now l.scope.links.now l.values l.asm.0) (drop l.field-index l.field-items)
    ≡ flat_map (held_in_field l.scope.all.now l.scope.links.now l.values l.asm.0) l.field-items
