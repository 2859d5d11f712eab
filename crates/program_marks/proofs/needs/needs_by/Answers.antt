use Rattle.program_marks.proofs.needs.needs_by.Goals as goal

pub returns-clause-flaw : goal.returns-clause-flaw
returns-clause-flaw c = λ there. c.in_ok-flaw.ensures there c.args.roots.now c.in_ok-marked.ensures

pub returns-clause-not_yet : goal.returns-clause-not_yet
returns-clause-not_yet c = c.in_ok-not_yet.ensures c.args.entry c.args.roots.now c.in_ok-marked.ensures
