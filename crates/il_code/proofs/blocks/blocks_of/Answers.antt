use Rattle.il_code.specs.Blocks.{blocks_from}
use Rattle.il_code.proofs.Misfits.{blocks_more, bounded_more}
use Rattle.il_code.proofs.RuleLoops.{no_handler}
use Rattle.il_code.proofs.blocks.blocks_of.Goals as goal

pub loop-i-preserved : goal.loop-i-preserved
loop-i-preserved c =
    let old = c.loop-i.invariant in
    let one = c.in_ok-push.ensures.items in
    let two = c.in_ok-push-2.ensures.items in
    record {
      items = blocks_more c.args.all.now c.loop-i.i no_handler c.loop-i.blocks.items c.push.new.self.items c.push-in-loop-i.new.self.items (blocks_from 0 c.args.all.now) c.try_block.result c.handler_block.result c.loop-i-test.true
          c.try_block.ensures.is c.handler_block.ensures.is one two old.items;
      bounded = bounded_more c.push.new.self.items c.push-in-loop-i.new.self.items c.handler_block.result
          (bounded_more c.loop-i.blocks.items c.push.new.self.items c.try_block.result old.bounded c.try_block.ensures.bounded one) c.handler_block.ensures.bounded two;
    }
