-- Arrays as the code borrows them.
use Rattle.rules.specs.step_rules.Arrays.{Vector}
use Rattle.machine_objects.specs.declared.cil_arrays.vectors.Elements.{Elements}

abbrev pub vector_by : Elements → Vector
vector_by e = record { place = e.place; of = e.of.now; cells = e.cells.now }
