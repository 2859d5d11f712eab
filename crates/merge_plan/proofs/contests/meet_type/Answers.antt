use Rattle.std.proofs.Common.{◌≡◌, List, ◌++◌, Some, None, true, sym, ap, ◌∙◌}
use Rattle.std.proofs.lemmas.List.{append-nil}
use Rattle.rules.specs.merge_rules.Names.{is_top_level}
use Rattle.merge_plan.specs.declared.contests.Contest.{Contest}
use Rattle.merge_plan.proofs.Named.{contested_by}
use Rattle.merge_plan.proofs.contests.meet_type.Goals as goal

pub returns-in_ok-put_type-in-None-clause-found : goal.returns-in_ok-put_type-in-None-clause-found
returns-in_ok-put_type-in-None-clause-found c = λ before are.
    let recs = c.args.index.now.all.now in
    let top : is_top_level recs c.args.at ≡ true = sym c.is_top_level.ensures ∙ c.if-not-is_top_level.false in
    sym (ap (λ (cs : List Contest). c.args.found.now.items ++ cs) (contested_by recs c.args.earlier.now before c.args.at c.args.name.now c.requires.name top are None c.in-None.ensures) ∙ append-nil c.args.found.now.items)

pub returns-in_ok-put_type-in-Some-clause-found : goal.returns-in_ok-put_type-in-Some-clause-found
returns-in_ok-put_type-in-Some-clause-found c = λ before are.
    let recs = c.args.index.now.all.now in
    let top : is_top_level recs c.args.at ≡ true = sym c.is_top_level.ensures ∙ c.if-not-is_top_level.false in
    c.in_ok-push-in-Some.ensures.items
    ∙ sym (ap (λ (cs : List Contest). c.args.found.now.items ++ cs) (contested_by recs c.args.earlier.now before c.args.at c.args.name.now c.requires.name top are (Some c.in-Some.first) c.in-Some.ensures))
