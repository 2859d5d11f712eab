use Rattle.std.proofs.Common.{ℕ, ap, subst, ◌∙◌}
use Rattle.std.specs.Io.KnownBytes.{Appends}
use Rattle.rules.specs.step_rules.Run.{run_from}
use Rattle.rules.specs.view_rules.Answers.{queries_of}
use Rattle.run_rules.specs.Runs.{entry_of}
use Rattle.file_runs.proofs.Turns.{whole_is_prefix}
use Rattle.file_runs.proofs.worlds.run_world.Goals as goal

-- memory ran out while the end was told, after all was printed
pub returns-in-Err : goal.returns-in-Err
returns-in-Err g c =
    let recs = c.args.world.now.recs in
    let old = g.O.Sink.state c.args.out.now in
    let new = g.O.Sink.state c.run_entry.new.out in
    let grown = subst (λ (e : ℕ). Appends old.held new.held (run_from (queries_of recs) e c.args.input.now c.args.n).output) (c.entry_of.ensures ∙ ap entry_of c.as_slice-recs.ensures) c.in-Ok.ensures.1 in
    (whole_is_prefix (run_from (queries_of recs) (entry_of recs) c.args.input.now c.args.n) old new grown, c.in-Ok.ensures.2)
