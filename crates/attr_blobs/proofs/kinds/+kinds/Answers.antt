use Rattle.attr_blobs.proofs.Opened.{kind_opened}
use Rattle.std.proofs.Common.{arith}
use Rattle.attr_blobs.proofs.kinds.+kinds.Goals as goal

pub kind_of-returns : goal.kind_of-returns
kind_of-returns t c = rw (kind_opened c.args.enums.now c.args.room c.args.bytes.now (omega arith) c.in-len1-up.len_at_least) c.kind_behind.ensures
