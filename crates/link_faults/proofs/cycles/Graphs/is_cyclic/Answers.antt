use Rattle.std.proofs.lemmas.Result.{IfOk-weaker}
use Rattle.link_faults.proofs.OnCycles.{cyclic_first, cyclic_second, cyclic_third}
use Rattle.link_faults.proofs.cycles.Graphs.is_cyclic.Goals as goal

pub returns-then-branch : goal.returns-then-branch
returns-then-branch c =
    cyclic_first c.args.scope.now.all.now c.args.scope.now.links.now c.requires.told c.args.self.now c.requires.graphs c.args.file c.args.at c.requires.there c.args.scope.now.types c.args.scope.now.all_counted c.in-Some.id c.in-Some.ensures
    c.deref.result.now c.deref.ensures.value c.in_ok-is_on_cycle.field-0 c.in_ok-is_on_cycle.ensures c.if-branch.true

pub returns-then-branch-2 : goal.returns-then-branch-2
returns-then-branch-2 c =
    cyclic_second c.args.scope.now.all.now c.args.scope.now.links.now c.requires.told c.args.self.now c.requires.graphs c.args.file c.args.at c.requires.there c.args.scope.now.types c.args.scope.now.all_counted c.in-Some.id c.in-Some.ensures
    c.deref.result.now c.deref-2.result.now c.deref.ensures.value c.deref-2.ensures.value c.in_ok-is_on_cycle.field-0 c.in_ok-is_on_cycle-2.field-0 c.in_ok-is_on_cycle.ensures c.if-branch.false
    c.in_ok-is_on_cycle-2.ensures c.if-branch-2.true

pub returns : goal.returns
returns c =
    IfOk-weaker c.is_on_cycle-3.result _ _
    (λ x p. cyclic_third c.args.scope.now.all.now c.args.scope.now.links.now c.requires.told c.args.self.now c.requires.graphs c.args.file c.args.at c.requires.there c.args.scope.now.types c.args.scope.now.all_counted c.in-Some.id c.in-Some.ensures
    c.deref.result.now c.deref-2.result.now c.deref-3.result.now c.deref.ensures.value c.deref-2.ensures.value c.deref-3.ensures.value c.in_ok-is_on_cycle.field-0 c.in_ok-is_on_cycle-2.field-0 x
    c.in_ok-is_on_cycle.ensures c.if-branch.false c.in_ok-is_on_cycle-2.ensures c.if-branch-2.false p)
    c.is_on_cycle-3.ensures
