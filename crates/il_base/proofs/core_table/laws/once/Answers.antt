use Rattle.std.proofs.Common.{refl}
use Rattle.il_base.specs.core_table.Names.{text_of}
use Rattle.il_base.specs.core_table.Members.{methods_of}
use Rattle.il_base.proofs.core_table.laws.once.Goals as goal

pub returns-clause-types : goal.returns-clause-types
unfolding text_of
returns-clause-types c = refl

pub returns-clause-members : goal.returns-clause-members
unfolding text_of methods_of
returns-clause-members c = refl
