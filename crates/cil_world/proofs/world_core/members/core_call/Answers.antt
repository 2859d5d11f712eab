use Rattle.std.proofs.Common.{sym, ◌∙◌}
use Rattle.cil_world.proofs.lemmas.world_core.TableRows.{no_kind, by_kind}
use Rattle.cil_world.proofs.world_core.members.core_call.Goals as goal

pub returns-in-None : goal.returns-in-None
returns-in-None c = no_kind c.args.world.now c.args.method (sym c.in-None.is ∙ c.core_kind.ensures)

pub returns-in-None-member : goal.returns-in-None-member
returns-in-None-member c = by_kind c.args.world.now c.args.method c.in-Some.kind _ (sym c.in-Some.is ∙ c.core_kind.ensures) (sym c.in-None-member.is ∙ c.member.ensures)

pub returns-in-Some-member : goal.returns-in-Some-member
returns-in-Some-member c = c.call_of.ensures ∙ by_kind c.args.world.now c.args.method c.in-Some.kind _ (sym c.in-Some.is ∙ c.core_kind.ensures) (sym c.in-Some-member.is ∙ c.member.ensures)
