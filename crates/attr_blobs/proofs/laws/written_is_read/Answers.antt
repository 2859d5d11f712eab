use Rattle.attr_blobs.proofs.Whole.{read_again}
use Rattle.attr_blobs.proofs.laws.written_is_read.Goals as goal

pub returns : goal.returns
returns c = read_again
