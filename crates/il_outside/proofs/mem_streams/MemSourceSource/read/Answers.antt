use Rattle.std.proofs.Common.{rules}
use Rattle.il_outside.proofs.Taken.{given}
use Rattle.il_outside.proofs.mem_streams.MemSourceSource.read.Goals as goal

pub returns-clause-left : goal.returns-clause-left
returns-clause-left c = given c.args.self.now.bytes c.copy_front-n.new.buf c.args.self.now.at c.copy_front-n.result (search rules)
