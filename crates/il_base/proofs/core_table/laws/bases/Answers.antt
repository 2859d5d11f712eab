use Rattle.std.proofs.Common.{refl}
use Rattle.il_base.specs.core_table.Names.{text_of}
use Rattle.il_base.proofs.core_table.laws.bases.Goals as goal

pub returns-clause-object : goal.returns-clause-object
unfolding text_of
returns-clause-object c = refl

pub returns-clause-exceptions : goal.returns-clause-exceptions
unfolding text_of
returns-clause-exceptions c = refl

pub returns-clause-values : goal.returns-clause-values
unfolding text_of
returns-clause-values c = refl

pub returns-clause-tokens : goal.returns-clause-tokens
unfolding text_of
returns-clause-tokens c = refl
