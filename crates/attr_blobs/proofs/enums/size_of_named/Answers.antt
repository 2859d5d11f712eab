use Rattle.std.proofs.Common.{sym, ◌∙◌}
use Rattle.attr_blobs.proofs.Sizes.{named_here, named_on, named_end}
use Rattle.attr_blobs.proofs.enums.size_of_named.Goals as goal

pub returns-then-names : goal.returns-then-names
returns-then-names c = named_here c.args.enums.now c.loop-one.one-index c.one-item.result c.args.name.now _ c.loop-one-test.true c.one-item.is (sym c.names.ensures ∙ c.if-names.true) c.loop-one.invariant

pub loop-one-preserved : goal.loop-one-preserved
loop-one-preserved c = named_on c.args.enums.now c.loop-one.one-index c.one-item.result c.args.name.now _ c.loop-one-test.true c.one-item.is (sym c.names.ensures ∙ c.if-names.false) c.loop-one.invariant

pub returns : goal.returns
returns c = named_end c.args.enums.now c.loop-one.one-index c.args.name.now _ c.loop-one-test.false c.loop-one.invariant
