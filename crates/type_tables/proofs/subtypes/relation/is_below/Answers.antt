use Rattle.std.proofs.Common.{sym, ◌∙◌, arith}
use Rattle.type_tables.proofs.lemmas.subtypes.Elements.{deeper, led_up, no_element, no_other, no_reference, one_down}
use Rattle.type_tables.proofs.subtypes.relation.is_below.Goals as goal

pub returns-then-found : goal.returns-then-found
returns-then-found c =
    sym (led_up c.args.tables.now.world.now.recs c.levels.below.now c.levels.wanted.now (sym c.in_ok-found.ensures ∙ c.if-found.true)) ∙ c.levels.invariant

pub returns-in-None : goal.returns-in-None
returns-in-None c =
    sym (no_element c.args.tables.now.world.now.recs c.levels.below.now c.levels.wanted.now (sym c.in_ok-found.ensures ∙ c.if-found.false) (sym c.in-None.ensures))
    ∙ c.levels.invariant

pub returns-in-None-element_of : goal.returns-in-None-element_of
returns-in-None-element_of c =
    sym (no_other c.args.tables.now.world.now.recs c.levels.below.now c.levels.wanted.now (sym c.in_ok-found.ensures ∙ c.if-found.false) c.in-Some.element.now
    (sym c.in-Some.ensures) (sym c.in-None-element_of.ensures))
    ∙ c.levels.invariant

pub returns-then-not-by_reference : goal.returns-then-not-by_reference
returns-then-not-by_reference c =
    sym (no_reference c.args.tables.now.world.now.recs c.levels.below.now c.levels.wanted.now (sym c.in_ok-found.ensures ∙ c.if-found.false) c.in-Some.element.now
    c.in-Some-element_of.other.now (sym c.in-Some.ensures) (sym c.in-Some-element_of.ensures) (sym c.in_ok-by_reference.ensures ∙ c.if-not-by_reference.true))
    ∙ c.levels.invariant

pub levels-smaller : goal.levels-smaller
levels-smaller c = let e = deeper c.levels.below.now c.in-Some.element.now (sym c.in-Some.ensures) in omega (arith, e)

pub levels-preserved : goal.levels-preserved
levels-preserved c =
    sym (one_down c.args.tables.now.world.now.recs c.levels.below.now c.levels.wanted.now (sym c.in_ok-found.ensures ∙ c.if-found.false) c.in-Some.element.now
    c.in-Some-element_of.other.now (sym c.in-Some.ensures) (sym c.in-Some-element_of.ensures) (sym c.in_ok-by_reference.ensures ∙ c.if-not-by_reference.false))
    ∙ c.levels.invariant
