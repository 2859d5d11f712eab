use Rattle.attr_blobs.proofs.Whole.{writes}
use Rattle.attr_blobs.proofs.write.write_attribute.Goals as goal

pub returns-clause-spelled : goal.returns-clause-spelled
returns-clause-spelled c = writes c.args.params.now c.args.value.now c.args.out.now.items c.put_attribute.new.out.items c.put_attribute.result c.put_attribute.ensures.ok
