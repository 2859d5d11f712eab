use Rattle.file_laws.proofs.lemmas.written_tables.Items.{strings_law, blobs_law, guids_law, users_law}
use Rattle.file_laws.proofs.written_tables.laws.heaps.Goals as goal

pub returns-clause-strings : goal.returns-clause-strings
returns-clause-strings c = strings_law

pub returns-clause-blobs : goal.returns-clause-blobs
returns-clause-blobs c = blobs_law

pub returns-clause-guids : goal.returns-clause-guids
returns-clause-guids c = guids_law

pub returns-clause-users : goal.returns-clause-users
returns-clause-users c = users_law
