use Rattle.std.proofs.Common.{◌≡◌, ◌++◌, drop}
use Rattle.rules.specs.link_rules.Members.{fields_in}
use Rattle.mark_parts.specs.mark_tables.Assemblies.{all_of}
use Rattle.rules.specs.view_rules.Methods.{field_at}
use Rattle.cil_world.specs.world_methods.Rows.{rows_from}
use Rattle.cil_world.proofs.world_definitions.fields.fields_of.Given as goal

abbrev pub invariant-loop-a : goal.invariant-loop-a
invariant-loop-a l = l.rows.items ++ rows_from fields_in (field_at (all_of l.marker)) l.a (drop l.a l.all) ≡ rows_from fields_in (field_at (all_of l.marker)) 0 l.all
