use Rattle.std.proofs.Common.{◌≡◌, Option, sym, ap, ◌∙◌}
use Rattle.std.specs.Option.{option_map}
use Rattle.il_base.specs.declared.world_model.expr.TypeExpr.{TypeExpr}
use Rattle.rules.specs.type_rules.Dispatch.{Choice, choice_in}
use Rattle.virtual_calls.proofs.Walking.{walk_here, walk_next, walk_last, walk_none}
use Rattle.virtual_calls.proofs.interface_slots.nearest_choice.Goals as goal

abbrev chosen_by : TypeExpr → TypeExpr → Choice
chosen_by e i = record { of = e; instance = i }

choose : {x y : Option TypeExpr} (e : TypeExpr) → x ≡ y → option_map (chosen_by e) x ≡ option_map (chosen_by e) y
choose e p = ap (option_map (chosen_by e)) p

pub returns-in-Ok-Some : goal.returns-in-Ok-Some
returns-in-Ok-Some c =
    let recs = c.args.tables.now.world.now.recs in
    walk_here recs (choice_in recs c.args.wanted.now) c.in_ok-count.count c.loop.counter c.loop.ty c.args.t.now c.in_ok-count.ensures c.loop.invariant
    (record { of = c.loop.ty; instance = c.in-Ok-Some.instance }) c.loop-test.true (choose c.loop.ty (sym c.in-Ok-Some.ensures ∙ c.in-Ok-Some.field-0-is))

pub returns-in-Ok-None-base_of : goal.returns-in-Ok-None-base_of
returns-in-Ok-None-base_of c =
    let recs = c.args.tables.now.world.now.recs in
    walk_last recs (choice_in recs c.args.wanted.now) c.in_ok-count.count c.loop.counter c.loop.ty c.args.t.now c.in_ok-count.ensures c.loop.invariant
    c.loop-test.true (choose c.loop.ty (sym c.in-Ok-None.ensures ∙ c.in-Ok-None.field-0-is)) (sym c.in-Ok-None-base_of.ensures ∙ c.in-Ok-None-base_of.field-0-is)

pub loop-preserved : goal.loop-preserved
loop-preserved c =
    let recs = c.args.tables.now.world.now.recs in
    walk_next recs (choice_in recs c.args.wanted.now) c.in_ok-count.count c.loop.counter c.loop.ty c.in-Ok-Some-base_of.base c.args.t.now c.loop.invariant
    c.loop-test.true (choose c.loop.ty (sym c.in-Ok-None.ensures ∙ c.in-Ok-None.field-0-is)) (sym c.in-Ok-Some-base_of.ensures ∙ c.in-Ok-Some-base_of.field-0-is)

pub returns : goal.returns
returns c =
    let recs = c.args.tables.now.world.now.recs in
    walk_none recs (choice_in recs c.args.wanted.now) c.in_ok-count.count c.loop.counter c.loop.ty c.args.t.now c.in_ok-count.ensures c.loop.invariant
    c.loop-test.false
