-- The test says of which list the next stretch is, and that this list isn't passed, or that both are.
use Rattle.std.proofs.Common.{sym, ◌∙◌}
use Rattle.pe_image.proofs.Layers.{upper_given, lower_given, upper_there, none_next}
use Rattle.pe_image.proofs.stretches.Layers.next.Goals as goal

pub returns-in-None-clause-next : goal.returns-in-None-clause-next
returns-in-None-clause-next c =
    absurd (upper_there c.args.self.now.upper.now c.args.self.now.lower.now c.in-None.ensures.cases (sym c.is_upper_next.ensures ∙ c.if-is_upper_next.true))

pub returns-in-Some-clause-next : goal.returns-in-Some-clause-next
returns-in-Some-clause-next c =
    upper_given c.args.self.now.above c.args.self.now.below c.in-Some.x.now c.args.self.now.upper.now c.in-Some.rest.now c.args.self.now.lower.now c.or.result
    (sym c.is_upper_next.ensures ∙ c.if-is_upper_next.true) c.in-Some.ensures.cases.0 c.or.ensures

pub returns-in-None-split_first-clause-next : goal.returns-in-None-split_first-clause-next
returns-in-None-split_first-clause-next c =
    none_next c.args.self.now.above c.args.self.now.below c.args.self.now.upper.now c.args.self.now.lower.now c.in-None-split_first.ensures.cases
    (sym c.is_upper_next.ensures ∙ c.if-is_upper_next.false)

pub returns-in-Some-split_first-clause-next : goal.returns-in-Some-split_first-clause-next
returns-in-Some-split_first-clause-next c =
    lower_given c.args.self.now.above c.args.self.now.below c.in-Some-split_first.y.now c.args.self.now.upper.now c.args.self.now.lower.now c.in-Some-split_first.rest.now
    c.or-in-Some-split_first.result (sym c.is_upper_next.ensures ∙ c.if-is_upper_next.false) c.in-Some-split_first.ensures.cases.0 c.or-in-Some-split_first.ensures
