-- A trim runs as its inputs do, from what is proved of each part.
use Rattle.std.proofs.Common.{List, sym, subst}
use Rattle.il_base.specs.declared.world_model.record.AsmRec.{AsmRec}
use Rattle.rules.specs.link_rules.Linked.{assemblies}
use Rattle.base_laws.proofs.lemmas.world_laws.Inputs.{nesting_kept, slots_whole}
use Rattle.rules.specs.change_rules.Change.{Keep}
use Rattle.run_laws.specs.agree_laws.Closed.{Closed}
use Rattle.run_laws.specs.agree_laws.Laws.{IsTrimmed}
use Rattle.rules.specs.view_rules.Answers.{queries_of}
use Rattle.run_laws.proofs.lemmas.lock_steps.Beginning.{run_from_moved}
use Rattle.run_laws.proofs.lemmas.agree_laws.Joined.{all_agree}
use Rattle.run_laws.specs.marked_laws.Flags.{kept_of}
use Rattle.run_laws.specs.closed_laws.Laws.{AreSound, MarkedTrimsRun}
use Rattle.run_laws.proofs.lemmas.closed_laws.Readings.{all_read}
use Rattle.run_laws.proofs.lemmas.closed_laws.Follows.{all_followed}
use Rattle.run_laws.proofs.lemmas.closed_laws.Runs.{runs_end, methods_apart, fields_apart}
use Rattle.run_laws.proofs.lemmas.closed_laws.Joined.{all_closed}

pub trims_run : MarkedTrimsRun
trims_run k p outputs inputs entry roots has linked sound are_outputs are_inputs few marks only none followed keeps moves apart m h bytes n =
    let recs : List AsmRec = assemblies inputs in
    let good : AreSound inputs has = record {
      few = few;
      ends = runs_end inputs are_inputs;
      nests = nesting_kept inputs are_inputs;
      methods = methods_apart inputs are_inputs;
      fields = fields_apart inputs are_inputs;
      reads = all_read inputs entry roots has only none;
      follows = all_followed inputs entry roots has only followed;
    } in
    let closed : Closed k.keep (kept_of recs has) recs = subst (λ (x : Keep). Closed x (kept_of recs has) recs) (sym keeps) (all_closed inputs entry roots has sound marks good) in
    let trimmed : IsTrimmed k (kept_of recs has) p outputs inputs = record {
      linked = linked;
      sound = sound;
      slots_after = slots_whole outputs linked are_outputs;
      slots_before = slots_whole inputs sound are_inputs;
      moves = moves;
      apart = apart;
      closed = closed;
    } in
    run_from_moved k (queries_of (assemblies outputs)) (queries_of recs) (all_agree k (kept_of recs has) p outputs inputs trimmed) m h bytes n
