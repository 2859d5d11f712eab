use Rattle.attr_blobs.proofs.Whole.{reads_values, refuses_values, writes_values}
use Rattle.attr_blobs.proofs.laws.values.Goals as goal

pub returns-clause-read : goal.returns-clause-read
returns-clause-read c = reads_values

pub returns-clause-refused : goal.returns-clause-refused
returns-clause-refused c = refuses_values

pub returns-clause-written : goal.returns-clause-written
returns-clause-written c = writes_values
