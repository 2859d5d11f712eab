use Rattle.std.proofs.Common.{◌≡◌, ℕ, ◌-◌, List, [], ◌∷◌, ◌++◌, length, ap, subst, sym, ◌∙◌, arith}
use Rattle.std.specs.List.{flat_map}
use Rattle.std.proofs.Math.Nat.{sub-zero}
use Rattle.il_base.specs.declared.world_model.expr.TypeExpr.{TypeExpr}
use Rattle.il_base.specs.world_model.Exprs.{same_expr}
use Rattle.il_base.proofs.lemmas.world_model.SameExpr.{same_decides}
use Rattle.rules.specs.link_rules.Cycles.{add_all, led_to}
use Rattle.type_tables.specs.subtypes.Steps.{next_by}
use Rattle.type_tables.proofs.lemmas.subtypes.Looking.{Looked, none_looked, round_is, looked_more, round_more, round_last, round_end}
use Rattle.type_tables.proofs.subtypes.rounds.led_to.Goals as goal

pub returns-then-len-before : goal.returns-then-len-before
returns-then-len-before c =
    let next = next_by c.args.tables.now.world.now.recs c.args.step in
    let found = c.loop-round.found.items in
    let new = c.add_round.new.found.items in
    let round : new ≡ add_all same_expr found (flat_map next found) = c.in_ok-add_round.ensures ∙ round_is same_expr same_decides next c.loop-round.looked_at found c.loop-round.invariant.looked in
    round_last same_expr same_decides next (c.args.rounds - c.loop-round.round) found new (led_to same_expr next c.args.rounds (c.args.ty.now ∷ [])) round
    (omega (arith, c.add_round.new.found.ok.0, c.loop-round.found.ok.0)) c.loop-round.invariant.led

pub loop-round-init : goal.loop-round-init
loop-round-init c =
    let next = next_by c.args.tables.now.world.now.recs c.args.step in
    let one : c.push.new.self.items ≡ c.args.ty.now ∷ [] =
    c.in_ok-push.ensures.items ∙ ap (λ (xs : List TypeExpr). xs ++ c.in_ok-first.first ∷ []) c.new-found.ensures.items ∙ ap (λ (x : TypeExpr). x ∷ []) c.in_ok-first.ensures in
    record {
      led = ap (λ (n : ℕ). led_to same_expr next n c.push.new.self.items) (sub-zero c.args.rounds) ∙ ap (led_to same_expr next c.args.rounds) one;
      looked = subst (λ (xs : List TypeExpr). Looked same_expr same_decides next 0 xs) (sym one) (none_looked same_expr same_decides next c.args.ty.now);
    }

pub loop-round-preserved : goal.loop-round-preserved
loop-round-preserved c =
    let next = next_by c.args.tables.now.world.now.recs c.args.step in
    let found = c.loop-round.found.items in
    let new = c.add_round.new.found.items in
    let round : new ≡ add_all same_expr found (flat_map next found) = c.in_ok-add_round.ensures ∙ round_is same_expr same_decides next c.loop-round.looked_at found c.loop-round.invariant.looked in
    let before : length found ≡ c.len-before.result = omega (arith, c.loop-round.found.ok.0) in
    record {
      led = round_more same_expr same_decides next c.args.rounds c.loop-round.round found new (led_to same_expr next c.args.rounds (c.args.ty.now ∷ [])) c.loop-round-test.true round c.loop-round.invariant.led;
      looked = subst (λ (n : ℕ). Looked same_expr same_decides next n new) before (looked_more same_expr same_decides next found new round);
    }

pub returns : goal.returns
returns c =
    let next = next_by c.args.tables.now.world.now.recs c.args.step in
    round_end same_expr same_decides next c.args.rounds c.loop-round.round c.loop-round.found.items (led_to same_expr next c.args.rounds (c.args.ty.now ∷ [])) c.loop-round-test.false c.loop-round.invariant.led
