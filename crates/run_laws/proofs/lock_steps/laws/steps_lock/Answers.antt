use Rattle.run_laws.proofs.lemmas.lock_steps.Stepping as stepping
use Rattle.run_laws.proofs.lock_steps.laws.steps_lock.Goals as goal

pub returns : goal.returns
returns c k q' q a s cs = stepping.step_lock k q' q a s cs
