use Rattle.marking.specs.Holding.{holds}
use Rattle.merge_plan.specs.Kept.{kept_by}
use Rattle.trim_core.specs.program_trim.Programs.{recs_of}
use Rattle.trim_core.proofs.lemmas.program_trim.Joined.{trimmed}
use Rattle.trim_core.proofs.program_trim.trimming.write_left.Goals as goal

pub returns : goal.returns
returns c =
    let p = c.args.program.now in
    let kept = kept_by c.args.kept.now in
    trimmed (recs_of p) p.entry p.roots.now kept c.requires.kept c.requires.good c.requires.followed c.requires.unique p.internal c.args.left.now c.requires.left
    (record { bytes = c.in-Ok.bytes; kept = c.in_ok-kept.kept }) (holds c.args.marked.now) c.requires.marked c.in-Ok.ensures.is c.in-Ok.ensures.can c.in-Ok.ensures.within c.in_ok-kept.ensures

pub file_of-requires : goal.file_of-requires
file_of-requires c = λ e. c.requires.spelled (kept_by c.args.kept.now) c.args.left.now c.requires.kept c.requires.good c.requires.left e
