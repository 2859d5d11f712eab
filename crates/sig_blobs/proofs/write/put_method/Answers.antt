use Rattle.sig_blobs.proofs.Spelled.{method_inside}
use Rattle.sig_blobs.proofs.write.put_method.Goals as goal

pub put_parts-requires-clause-ret : goal.put_parts-requires-clause-ret
put_parts-requires-clause-ret c = (method_inside c.args.s.now c.requires.0 c.requires.1).1.0

pub put_parts-requires-clause-params : goal.put_parts-requires-clause-params
put_parts-requires-clause-params c = (method_inside c.args.s.now c.requires.0 c.requires.1).1.1
