use Rattle.std.proofs.Common.{ℕ, ◌++◌, List, refl, sym, ap, ◌∙◌}
use Rattle.mark_parts.specs.mark_tables.Assemblies.{all_of, recs_of, place_of, rec_of}
use Rattle.merge_plan.specs.Kept.{kept_by}
use Rattle.keep_lists.proofs.Inputs.{lines_here, no_lines}
use Rattle.keep_lists.proofs.lists.put_input.Goals as goal

pub returns : goal.returns
returns c =
    let asm = c.in-Some.asm in
    c.in_ok-put_input_lines.ensures
    ∙ ap (λ (text : List ℕ). c.args.out.now ++ text)
    (lines_here (all_of c.args.marker.now) (recs_of asm) (kept_by c.args.kept.now) c.args.a (place_of asm) (rec_of asm) (rec_of asm) c.in-Some.ensures.is.recs c.in-Some.ensures.is.place refl
    (sym c.in-Some.ensures.there))

pub returns-in_default : goal.returns-in_default
returns-in_default c = no_lines (all_of c.args.marker.now) (kept_by c.args.kept.now) c.args.a c.args.out.now (sym c.in_default.ensures.there)
