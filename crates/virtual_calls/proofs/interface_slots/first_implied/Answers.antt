use Rattle.rules.specs.type_rules.Dispatch.{implied, is_closed_to}
use Rattle.virtual_calls.proofs.Finding.{found_here, found_next}
use Rattle.virtual_calls.proofs.interface_slots.first_implied.Goals as goal

pub returns-in-Ok-Some : goal.returns-in-Ok-Some
returns-in-Ok-Some c =
    found_here (is_closed_to c.args.args.now c.args.wanted.now) (implied c.args.tables.now.world.now.recs) c.args.interfaces.now c.loop-e.e-index c.e-item.result c.loop-e-test.true c.e-item.is
    c.loop-e.invariant c.in_ok-types.types.items c.in_ok-types.ensures c.in-Ok-Some.field-0 (rw c.as_slice.ensures.value at c.in-Ok-Some.ensures) c.in-Ok-Some.found c.in-Ok-Some.field-0-is

pub loop-e-preserved : goal.loop-e-preserved
loop-e-preserved c =
    found_next (is_closed_to c.args.args.now c.args.wanted.now) (implied c.args.tables.now.world.now.recs) c.args.interfaces.now c.loop-e.e-index c.e-item.result c.loop-e-test.true c.e-item.is
    c.loop-e.invariant c.in_ok-types.types.items c.in_ok-types.ensures c.in-Ok-None.field-0 (rw c.as_slice.ensures.value at c.in-Ok-None.ensures) c.in-Ok-None.field-0-is
