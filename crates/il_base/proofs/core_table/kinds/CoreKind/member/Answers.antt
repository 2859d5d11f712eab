use Rattle.std.proofs.lemmas.Bool.{ne_eqb}
use Rattle.il_base.specs.core_table.Kinds.{member_of}
use Rattle.il_base.proofs.core_table.kinds.CoreKind.member.Goals as goal

pub returns-else-row-eq0 : goal.returns-else-row-eq0
unfolding member_of
returns-else-row-eq0 c = rw (ne_eqb c.args.self.0 0 c.if-row-eq0.false) c.member_in.ensures
