use Rattle.std.proofs.Common.{◌≡◌, ◌∙◌, sym}
use Rattle.std.specs.Prelude.{Some, slice_get}
use Rattle.value_flow.specs.stack_depths.Search.{depth_in}
use Rattle.value_flow.proofs.lemmas.stack_depths.Searching.{visits_wrong, visits_either}
use Rattle.value_flow.proofs.stack_depths.search.Search.visit.Goals as goal

pub returns-then-is_wrong_by : goal.returns-then-is_wrong_by
returns-then-is_wrong_by c =
    let here : depth_in c.args.self.now c.args.at ≡ Some c.in-Some.d = cc (c.in-Some.ensures) in
    let there : slice_get c.args.exits.now c.args.at ≡ Some c.in-Some-exit_at.e.now = cc (c.in-Some-exit_at.ensures) in
    visits_wrong c.args.exits.now c.args.most c.args.at c.args.self.now c.requires c.in-Some.d here (rw there (sym c.is_wrong_by.ensures ∙ c.if-is_wrong_by.true))

pub returns : goal.returns
returns c =
    let here : depth_in c.args.self.now c.args.at ≡ Some c.in-Some.d = cc (c.in-Some.ensures) in
    let there : slice_get c.args.exits.now c.args.at ≡ Some c.in-Some-exit_at.e.now = cc (c.in-Some-exit_at.ensures) in
    visits_either c.args.exits.now c.args.most c.args.at c.args.self.now c.requires c.in-Some.d here c.in-Some-exit_at.e.now there c.take.new.self c.in_ok-ok.ok
    (sym c.is_wrong_by.ensures ∙ c.if-is_wrong_by.false) c.in_ok-ok.ensures
