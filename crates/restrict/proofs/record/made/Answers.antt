use Rattle.restrict.specs.Made.{made}
use Rattle.restrict.proofs.record.made.Goals as goal

pub returns : goal.returns
unfolding made
returns c = cc
