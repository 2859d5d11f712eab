use Rattle.std.proofs.Common.{◌≡◌, ℕ, ◌-◌, List, [], ◌∷◌, ◌++◌, length, ap, subst, sym, ◌∙◌, arith}
use Rattle.std.specs.List.{flat_map}
use Rattle.std.proofs.Math.Nat.{sub-zero}
use Rattle.rules.specs.declared.link_rules.row_at.RowAt.{RowAt}
use Rattle.rules.specs.link_rules.Cycles.{add_all, led_to, same_row, interface_rows}
use Rattle.type_tables.proofs.lemmas.subtypes.Looking.{Looked, none_looked, round_is, looked_more, round_more, round_last, round_end}
use Rattle.mark_parts.specs.mark_tables.Assemblies.{all_of}
use Rattle.base_laws.proofs.lemmas.type_laws.Places.{rows_decide}
use Rattle.mark_items.proofs.mark_calls.implied.led_to.Goals as goal

pub returns-then-len-before : goal.returns-then-len-before
returns-then-len-before c =
    let next = interface_rows (all_of c.args.marker.now) in
    let found = c.loop-round.found.items in
    let new = c.add_round.new.found.items in
    let round : new ≡ add_all same_row found (flat_map next found) = c.in_ok-add_round.ensures ∙ round_is same_row rows_decide next c.loop-round.looked_at found c.loop-round.invariant.looked in
    round_last same_row rows_decide next (c.args.rounds - c.loop-round.round) found new (led_to same_row next c.args.rounds (c.args.at ∷ [])) round
    (omega (arith, c.add_round.new.found.ok.0, c.loop-round.found.ok.0)) c.loop-round.invariant.led

pub loop-round-init : goal.loop-round-init
loop-round-init c =
    let next = interface_rows (all_of c.args.marker.now) in
    let one : c.push.new.self.items ≡ c.args.at ∷ [] = c.in_ok-push.ensures.items ∙ ap (λ (xs : List RowAt). xs ++ c.args.at ∷ []) c.new-found.ensures.items in
    record {
      led = ap (λ (n : ℕ). led_to same_row next n c.push.new.self.items) (sub-zero c.args.rounds) ∙ ap (led_to same_row next c.args.rounds) one;
      looked = subst (λ (xs : List RowAt). Looked same_row rows_decide next 0 xs) (sym one) (none_looked same_row rows_decide next c.args.at);
    }

pub loop-round-preserved : goal.loop-round-preserved
loop-round-preserved c =
    let next = interface_rows (all_of c.args.marker.now) in
    let found = c.loop-round.found.items in
    let new = c.add_round.new.found.items in
    let round : new ≡ add_all same_row found (flat_map next found) = c.in_ok-add_round.ensures ∙ round_is same_row rows_decide next c.loop-round.looked_at found c.loop-round.invariant.looked in
    let before : length found ≡ c.len-before.result = omega (arith, c.loop-round.found.ok.0) in
    record {
      led = round_more same_row rows_decide next c.args.rounds c.loop-round.round found new (led_to same_row next c.args.rounds (c.args.at ∷ [])) c.loop-round-test.true round c.loop-round.invariant.led;
      looked = subst (λ (n : ℕ). Looked same_row rows_decide next n new) before (looked_more same_row rows_decide next found new round);
    }

pub returns : goal.returns
returns c =
    let next = interface_rows (all_of c.args.marker.now) in
    round_end same_row rows_decide next c.args.rounds c.loop-round.round c.loop-round.found.items (led_to same_row next c.args.rounds (c.args.at ∷ [])) c.loop-round-test.false c.loop-round.invariant.led
