use Rattle.std.proofs.Common.{◌≡◌, [], map, sym, ap, ◌∙◌}
use Rattle.merge_plan.specs.OldNames.{types_of}
use Rattle.merge_plan.specs.Contests.{shown_by, names_by}
use Rattle.merge_plan.specs.Plans.{named}
use Rattle.merge_plan.specs.Renamed.{new_name}
use Rattle.merge_plan.proofs.Planned.{planned_some, planned_none}
use Rattle.merge_plan.proofs.planning.try_plan.Goals as goal

pub returns-in-Some : goal.returns-in-Some
returns-in-Some c =
    let recs = c.args.index.now.all.now in
    let types = types_of c.as_slice.result.now in
    let same : types ≡ c.args.kept.now = ap types_of c.as_slice.ensures.value ∙ c.in_ok-old.ensures.types in
    c.in_ok-collision-in-Some.ensures
    ∙ planned_some c.args.internal recs (shown_by c.args.shown.now) c.args.kept.now types same c.as_slice-2.result.now (c.as_slice-2.ensures.value ∙ c.in_ok-contests.ensures)
    c.in_ok-found.found c.in-Some.contest c.in-Some.is c.in_ok-found.ensures

pub returns : goal.returns
returns c =
    let recs = c.args.index.now.all.now in
    let types = types_of c.as_slice.result.now in
    let same : types ≡ c.args.kept.now = ap types_of c.as_slice.ensures.value ∙ c.in_ok-old.ensures.types in
    let old : c.as_slice-in-None.result.now ≡ c.as_slice.result.now = c.as_slice-in-None.ensures.value ∙ sym c.as_slice.ensures.value in
    let contests : c.as_slice-in-None-2.result.now ≡ c.as_slice-2.result.now = c.as_slice-in-None-2.ensures.value ∙ sym c.as_slice-2.ensures.value in
    planned_none c.args.internal recs (shown_by c.args.shown.now) c.args.kept.now types same c.as_slice-2.result.now (c.as_slice-2.ensures.value ∙ c.in_ok-contests.ensures) c.in_ok-found.found
    c.in-None.is c.in_ok-found.ensures (map new_name c.in_ok-renamed-in-None.renamed.items)
    (c.in_ok-renamed-in-None.ensures ∙ (λ i. names_by recs (types_of (old i)) [] (contests i))) c.in_ok-names-in-None.names
    (c.in_ok-names-in-None.ensures ∙ (λ i. map (named recs) (map new_name (c.as_slice-in-None-3.ensures.value i))))
