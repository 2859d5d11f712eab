use Rattle.std.proofs.Common.{ℕ, ◌+◌, ◌<◌, ◌≤◌, ◌++◌, drop, length, List, sym, ap, ◌∙◌, arith}
use Rattle.std.specs.Prelude.{slice_get}
use Rattle.std.specs.List.{flat_map}
use Rattle.rules.specs.link_rules.Cycles.{listed}
use Rattle.rules.specs.type_rules.Rows.{each_from}
use Rattle.mark_items.proofs.lemmas.mark_calls.Finding.{each_end}
use Rattle.rules.specs.mark_rules.KeepList.{input_lines}
use Rattle.mark_parts.specs.mark_tables.Assemblies.{all_of}
use Rattle.merge_plan.specs.Kept.{kept_by}
use Rattle.keep_lists.proofs.Inputs.{place_next}
use Rattle.keep_lists.proofs.lists.put_inputs.Goals as goal

pub loop-a-preserved : goal.loop-a-preserved
loop-a-preserved c =
    let recs = all_of c.args.marker.now in
    let f = input_lines recs (kept_by c.args.kept.now) in
    let within : c.loop-a.a < length recs = omega (arith, c.requires.count) in
    ap (λ (text : List ℕ). text ++ each_from f (c.loop-a.a + 1) (drop (c.loop-a.a + 1) recs))
    (c.in_ok-put_input.ensures ∙ ap (λ (a : ℕ). c.loop-a.out ++ flat_map (f a) (listed (slice_get recs a))) c.in_ok-place.ensures)
    ∙ place_next f recs c.loop-a.a c.loop-a.out within ∙ c.loop-a.invariant

pub returns : goal.returns
returns c =
    let recs = all_of c.args.marker.now in
    let f = input_lines recs (kept_by c.args.kept.now) in
    let past : length recs ≤ c.loop-a.a = omega (arith, c.requires.count) in
    sym (each_end f recs c.loop-a.a c.loop-a.out past) ∙ c.loop-a.invariant
