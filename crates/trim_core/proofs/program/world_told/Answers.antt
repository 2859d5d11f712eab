use Rattle.trim_core.proofs.FileLemmas.{is_world, rows_there}
use Rattle.trim_core.proofs.program.world_told.Goals as goal

pub returns-clause-linked : goal.returns-clause-linked
returns-clause-linked c = is_world c.args.files.now c.args.world.now c.requires

pub returns-clause-there : goal.returns-clause-there
returns-clause-there c = rows_there c.args.files.now c.args.world.now c.requires c.files_told.ensures.rows
