use Rattle.std.proofs.Common.{◌≡◌, drop}
use Rattle.std.specs.List.{list_any}
use Rattle.rules.specs.view_rules.Layouts.{is_exception}
use Rattle.cil_world.proofs.world_layouts.cells.has_exception.Given as goal

abbrev pub invariant-loop-ty : goal.invariant-loop-ty
invariant-loop-ty l = list_any (is_exception l.all) (drop l.ty-index l.types) ≡ list_any (is_exception l.all) l.types
