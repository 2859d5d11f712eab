use Rattle.closure.specs.Facts.{root}
use Rattle.closure.proofs.Steps.{follows}
use Rattle.closure.proofs.laws.order_is_free.Goals as goal

pub returns : goal.returns
returns g c = λ fact. (follows (λ n r. root ((c.requires n).0 r)), follows (λ n r. root ((c.requires n).1 r)))
