use Rattle.std.proofs.Common.{◌≡◌, None, List, subst}
use Rattle.il_base.specs.declared.world_model.record.AsmRec.{AsmRec}
use Rattle.rules.specs.merge_rules.Names.{collision}
use Rattle.rules.specs.merge_rules.Numbers.{kept_types}
use Rattle.merge_plan.specs.Kept.{kept_by}
use Rattle.merge_plan.specs.Contests.{shown_by}
use Rattle.trim_core.specs.program_trim.Programs.{recs_of}
use Rattle.trim_core.proofs.lemmas.program_trim.Joined.{shown_set}
use Rattle.trim_core.proofs.program_trim.trimming.trim_marked.Goals as goal

pub trim_kept-requires-clause-unique : goal.trim_kept-requires-clause-unique
trim_kept-requires-clause-unique c =
    let p = c.args.program.now in
    let kept = kept_by c.in_ok-kept.kept in
    let seen = shown_by c.in_ok-shown.shown in
    record {
      seen = seen;
      exact = shown_set (recs_of p) p.entry p.roots.now c.args.marked.now c.in_ok-shown.shown c.requires.marked c.in_ok-shown.ensures;
      first = subst (λ (rs : List AsmRec). collision rs seen (kept_types rs kept) ≡ None) c.as_slice-recs.ensures c.in-Ok.ensures.planned.unique;
    }
