use Rattle.std.proofs.Common.{refl}
use Rattle.std.specs.Int.{w32}
use Rattle.std.proofs.lemmas.Int.{to_z-of_z}
use Rattle.cil_core.proofs.cil_text_members.units.index_of.Goals as goal

pub returns-in-None : goal.returns-in-None
returns-in-None c =
    let h = rw (to_z-of_z w32 c.args.c c.ranges.c) at c.in-None.ensures in
    rw (← h) refl

pub returns-in-Some : goal.returns-in-Some
returns-in-Some c =
    let h = rw (to_z-of_z w32 c.args.c c.ranges.c) at c.in-Some.ensures in
    rw (← h) c.int_of.ensures
