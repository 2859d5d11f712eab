use Rattle.attr_blobs.proofs.Names.{found_front, found_behind, missing_front, missing_behind}
use Rattle.attr_blobs.proofs.mark.cut.Goals as goal

pub returns-in-Some-clause-front : goal.returns-in-Some-clause-front
returns-in-Some-clause-front c = found_front c.args.code c.args.marks.now c.in-Some.at c.in-Some.ensures.place c.in-Some.ensures.within

pub returns-in-Some-clause-behind : goal.returns-in-Some-clause-behind
returns-in-Some-clause-behind c = found_behind c.args.code c.args.marks.now c.in-Some.at c.in-Some.ensures.place c.in-Some.ensures.within

pub returns-in-None-clause-front : goal.returns-in-None-clause-front
returns-in-None-clause-front c = missing_front c.args.code c.args.marks.now c.in-None.ensures.place

pub returns-in-None-clause-behind : goal.returns-in-None-clause-behind
returns-in-None-clause-behind c = missing_behind c.args.code c.args.marks.now c.in-None.ensures.place
