use Rattle.sig_blobs.proofs.Spelled.{property_inside}
use Rattle.sig_blobs.proofs.write.put_property.Goals as goal

pub put_parts-requires-clause-ret : goal.put_parts-requires-clause-ret
put_parts-requires-clause-ret c = (property_inside c.args.s.now c.requires.0 c.requires.1).0

pub put_parts-requires-clause-params : goal.put_parts-requires-clause-params
put_parts-requires-clause-params c = (property_inside c.args.s.now c.requires.0 c.requires.1).1
