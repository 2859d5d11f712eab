use Rattle.std.proofs.Common.{refl}
use Rattle.il_base.specs.core_table.Names.{text_of}
use Rattle.il_base.specs.core_table.Members.{methods_of}
use Rattle.il_base.proofs.core_table.laws.flags.Goals as goal

pub returns-clause-special : goal.returns-clause-special
unfolding text_of methods_of
returns-clause-special c = refl

pub returns-clause-slots : goal.returns-clause-slots
unfolding text_of methods_of
returns-clause-slots c = refl
