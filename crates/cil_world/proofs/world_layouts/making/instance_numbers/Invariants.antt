use Rattle.std.proofs.Common.{◌≡◌, ◌++◌, drop, map}
use Rattle.std.specs.Prelude.{filter}
use Rattle.rules.specs.type_rules.Rows.{is_instance_field}
use Rattle.rules.specs.view_rules.Layouts.{field_number}
use Rattle.cil_world.proofs.world_layouts.making.instance_numbers.Given as goal

abbrev pub invariant-loop-at : goal.invariant-loop-at
invariant-loop-at l =
    l.numbers ++ map (field_number l.all) (filter (is_instance_field l.all) (drop l.at-index l.fields)) ≡ map (field_number l.all) (filter (is_instance_field l.all) l.fields)
