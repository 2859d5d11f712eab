use Rattle.run_laws.proofs.lemmas.lock_steps.Running as running
use Rattle.run_laws.proofs.lemmas.lock_steps.Beginning as beginning
use Rattle.run_laws.proofs.lock_steps.laws.runs_lock.Goals as goal

pub returns-clause-steps : goal.returns-clause-steps
returns-clause-steps c k q' q a n s cs = running.run_moved k q' q a n s cs

pub returns-clause-entry : goal.returns-clause-entry
returns-clause-entry c k q' q a m h bytes n = beginning.run_from_moved k q' q a m h bytes n
