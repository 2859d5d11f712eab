use Rattle.std.proofs.Common.{◌∙◌, ◌+◌, ◌-◌, length, arith}
use Rattle.resolver.proofs.lemmas.type_links.Walks.{top_found, top_lost, top_next, top_end}
use Rattle.resolver.proofs.type_links.index.TypeIndex.top_type.Goals as goal

pub returns-in-Some : goal.returns-in-Some
returns-in-Some c =
    let all = c.args.self.now.all.now in
    top_found all c.args.name (length all - c.loop.counter) (length all - (c.loop.counter + 1)) c.loop.at c.in-Some.row (omega arith) c.in-Some.ensures ∙ c.loop.invariant

pub returns-in-None-forwarded : goal.returns-in-None-forwarded
returns-in-None-forwarded c =
    let all = c.args.self.now.all.now in
    top_lost all c.args.name (length all - c.loop.counter) (length all - (c.loop.counter + 1)) c.loop.at (omega arith) c.in-None.ensures c.in-None-forwarded.ensures ∙ c.loop.invariant

pub loop-preserved : goal.loop-preserved
loop-preserved c =
    let all = c.args.self.now.all.now in
    top_next all c.args.name (length all - c.loop.counter) (length all - (c.loop.counter + 1)) c.loop.at c.in-Some-forwarded.next (omega arith) c.in-None.ensures c.in-Some-forwarded.ensures ∙ c.loop.invariant

pub returns : goal.returns
returns c =
    let all = c.args.self.now.all.now in
    top_end all c.args.name (length all - c.loop.counter) c.loop.at (omega arith) ∙ c.loop.invariant
