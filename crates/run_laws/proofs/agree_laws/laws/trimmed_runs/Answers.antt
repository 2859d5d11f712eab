use Rattle.rules.specs.link_rules.Linked.{assemblies}
use Rattle.rules.specs.view_rules.Answers.{queries_of}
use Rattle.run_laws.proofs.lemmas.lock_steps.Beginning.{run_from_moved}
use Rattle.run_laws.proofs.lemmas.agree_laws.Joined.{all_agree}
use Rattle.run_laws.proofs.agree_laws.laws.trimmed_runs.Goals as goal

pub returns : goal.returns
returns c k kept p outputs inputs t m h bytes n =
    run_from_moved k (queries_of (assemblies outputs)) (queries_of (assemblies inputs)) (all_agree k kept p outputs inputs t) m h bytes n
