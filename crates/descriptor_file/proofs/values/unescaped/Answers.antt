use Rattle.descriptor_file.proofs.Escapes.{stops_at_tag, stops_at_entity, goes_on, goes_past, all_read, some_left, none_left}
use Rattle.descriptor_file.proofs.values.unescaped.Goals as goal

pub returns-then-byte-eq60 : goal.returns-then-byte-eq60
returns-then-byte-eq60 c =
    stops_at_tag c.loop-rest.text c.loop-rest.rest.now c.args.raw.now (some_left c.loop-rest.rest.now c.loop-rest-test.ensures) c.loop-rest.invariant c.if-byte-eq60.true

pub loop-rest-preserved-then-byte-ne38 : goal.loop-rest-preserved-then-byte-ne38
loop-rest-preserved-then-byte-ne38 c =
    rw (c.in_ok-push.ensures.ok, c.after-tail.ensures)
    (goes_on c.loop-rest.text c.loop-rest.rest.now c.args.raw.now (some_left c.loop-rest.rest.now c.loop-rest-test.ensures) c.loop-rest.invariant c.if-byte-eq60.false c.if-byte-ne38.true)

pub returns-in-None : goal.returns-in-None
returns-in-None c =
    stops_at_entity c.loop-rest.text c.loop-rest.rest.now c.args.raw.now (some_left c.loop-rest.rest.now c.loop-rest-test.ensures) c.loop-rest.invariant c.if-byte-ne38.false
    (rw c.after-tail.ensures at c.in-None.ensures.value)

pub loop-rest-preserved : goal.loop-rest-preserved
loop-rest-preserved c =
    rw (c.in_ok-push-in-Some.ensures.ok, c.after-rest.ensures, c.after-tail.ensures)
    (goes_past c.loop-rest.text c.loop-rest.rest.now c.args.raw.now (some_left c.loop-rest.rest.now c.loop-rest-test.ensures) c.loop-rest.invariant (c.in-Some.character, c.in-Some.size)
    c.if-byte-ne38.false (rw c.after-tail.ensures at c.in-Some.ensures.value))

pub returns : goal.returns
returns c = all_read c.loop-rest.text c.loop-rest.rest.now c.args.raw.now (none_left c.loop-rest.rest.now c.loop-rest-test.ensures) c.loop-rest.invariant
