use Rattle.std.proofs.Common.{ℕ, List, [], ◌∷◌, ◌++◌, reverse, sym, ap, ◌∙◌}
use Rattle.rules.specs.mark_rules.Attributes.{path_within}
use Rattle.mark_parts.specs.mark_tables.Assemblies.{rec_of}
use Rattle.attribute_values.proofs.lemmas.enum_names.Climbing.{start, no_type, outermost, nested, steps_done}
use Rattle.attribute_values.proofs.enum_names.paths.chain_of.Goals as goal

pub loop-init : goal.loop-init
loop-init c = start (rec_of c.args.asm.now) c.args.steps 0 c.args.row c.new-inner.result [] c.new-inner.ensures

pub returns-in_default : goal.returns-in_default
returns-in_default c =
    let rec = rec_of c.args.asm.now in
    c.chain_without-nowhere.ensures
    ∙ no_type rec c.args.steps c.loop.counter c.loop.at c.loop.inner (path_within rec c.args.steps c.args.row) c.loop-test.true (sym c.in_default.ensures.value) c.loop.invariant

pub returns-in-Ok-None : goal.returns-in-Ok-None
returns-in-Ok-None c =
    let rec = rec_of c.args.asm.now in
    ap (λ (p : List (List ℕ)). p ++ reverse c.loop.inner) c.in_ok-outermost-in-Ok-None.ensures
    ∙ outermost rec c.args.steps c.loop.counter c.loop.at c.loop.inner (path_within rec c.args.steps c.args.row) c.in-Some.t.now c.loop-test.true (sym c.in-Some.ensures.value) (sym c.in-Ok-None.ensures ∙ c.in-Ok-None.field-0-is) c.loop.invariant

pub loop-preserved : goal.loop-preserved
loop-preserved c =
    let rec = rec_of c.args.asm.now in
    nested rec c.args.steps c.loop.counter c.loop.at c.loop.inner (path_within rec c.args.steps c.args.row) c.in-Some.t.now c.in-Ok-Some.around _ c.loop-test.true (sym c.in-Some.ensures.value) (sym c.in-Ok-Some.ensures ∙ c.in-Ok-Some.field-0-is)
    (c.in_ok-push-in-Ok-Some.ensures.ok ∙ ap (λ (n : List ℕ). c.loop.inner ++ n ∷ []) c.in_ok-name-in-Ok-Some.ensures) c.loop.invariant

pub returns : goal.returns
returns c =
    let rec = rec_of c.args.asm.now in
    c.chain_without-endless.ensures
    ∙ steps_done rec c.args.steps c.loop.counter c.loop.at c.loop.inner (path_within rec c.args.steps c.args.row) c.loop-test.false c.loop.invariant
