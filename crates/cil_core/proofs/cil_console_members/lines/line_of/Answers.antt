use Rattle.cil_core.proofs.lemmas.cil_console_members.LineLemmas.{taken_line}
use Rattle.cil_core.proofs.cil_console_members.lines.line_of.Goals as goal

pub returns-then-unit-eq-LINE_FEED : goal.returns-then-unit-eq-LINE_FEED
returns-then-unit-eq-LINE_FEED c =
    taken_line c.args.input.now c.loop-unit.input c.loop-unit.units c.pop.new.self c.in-Some.unit c.loop-unit.invariant c.in-Some.ensures c.if-unit-eq-LINE_FEED.true
