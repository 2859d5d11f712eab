use Rattle.std.proofs.Common.{◌≡◌, ℕ, Some, None, sym, ap, ◌∙◌}
use Rattle.rules.specs.link_rules.Members.{base_of}
use Rattle.type_tables.specs.member_search.Wanted.{look_for}
use Rattle.type_tables.proofs.lemmas.member_search.Searching.{found_from, found_here, found_next, found_last, found_none}
use Rattle.type_tables.proofs.member_search.found.search.Goals as goal

pub returns-in-Ok-Some : goal.returns-in-Ok-Some
returns-in-Ok-Some c =
    let recs = c.args.linked.now.all.now in
    let look = look_for recs c.args.name.now c.args.wanted.now in
    sym (found_here recs look c.in_ok-count.count c.loop.counter c.loop.ty c.in-Ok-Some.at c.loop-test.true (sym c.in-Ok-Some.ensures ∙ c.in-Ok-Some.field-0-is))
    ∙ c.loop.invariant ∙ ap (λ (n : ℕ). found_from recs look n c.args.start) c.in_ok-count.ensures

pub returns-in-Ok-None-base_of : goal.returns-in-Ok-None-base_of
returns-in-Ok-None-base_of c =
    let recs = c.args.linked.now.all.now in
    let look = look_for recs c.args.name.now c.args.wanted.now in
    let none : look c.loop.ty ≡ None = sym c.in-Ok-None.ensures ∙ c.in-Ok-None.field-0-is in
    let last : base_of recs c.loop.ty ≡ None = sym c.in-Ok-None-base_of.ensures ∙ c.in-Ok-None-base_of.field-0-is in
    sym (found_last recs look c.in_ok-count.count c.loop.counter c.loop.ty c.loop-test.true none last)
    ∙ c.loop.invariant ∙ ap (λ (n : ℕ). found_from recs look n c.args.start) c.in_ok-count.ensures

pub loop-preserved : goal.loop-preserved
loop-preserved c =
    let recs = c.args.linked.now.all.now in
    let look = look_for recs c.args.name.now c.args.wanted.now in
    let none : look c.loop.ty ≡ None = sym c.in-Ok-None.ensures ∙ c.in-Ok-None.field-0-is in
    let next : base_of recs c.loop.ty ≡ Some c.in-Ok-Some-base_of.base = sym c.in-Ok-Some-base_of.ensures ∙ c.in-Ok-Some-base_of.field-0-is in
    sym (found_next recs look c.in_ok-count.count c.loop.counter c.loop.ty c.in-Ok-Some-base_of.base c.loop-test.true none next)
    ∙ c.loop.invariant

pub returns : goal.returns
returns c =
    let recs = c.args.linked.now.all.now in
    let look = look_for recs c.args.name.now c.args.wanted.now in
    sym (found_none recs look c.in_ok-count.count c.loop.counter c.loop.ty c.loop-test.false)
    ∙ c.loop.invariant ∙ ap (λ (n : ℕ). found_from recs look n c.args.start) c.in_ok-count.ensures
