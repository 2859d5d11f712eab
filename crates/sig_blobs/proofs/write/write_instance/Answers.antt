use Rattle.sig_blobs.proofs.Spelled.{counted_inside}
use Rattle.sig_blobs.proofs.write.write_instance.Goals as goal

pub put_led-put-requires : goal.put_led-put-requires
put_led-put-requires c = rw c.as_slice.ensures (counted_inside 10 c.args.s.now c.requires.0 c.requires.1)
