use Rattle.trim_command.proofs.GivenRead.{descriptors_unread, given_read}
use Rattle.trim_command.proofs.reading.read_given.Goals as goal

pub returns-in-Err-read_files-clause-read : goal.returns-in-Err-read_files-clause-read
returns-in-Err-read_files-clause-read g c =
    descriptors_unread _ _ c.in-Ok.files (g.F.Folder.state c.args.folder.now) (g.F.Folder.state c.read_files.new.folder) (g.F.Folder.state c.read_files-in-Ok.new.folder) c.in-Err-read_files.error c.in-Ok.ensures.read c.read_files.ensures.kept c.in-Err-read_files.ensures.read

pub returns-in-Ok-read_files-clause-read : goal.returns-in-Ok-read_files-clause-read
returns-in-Ok-read_files-clause-read g c =
    given_read _ _ c.in-Ok.files c.in-Ok-read_files.texts (g.F.Folder.state c.args.folder.now) (g.F.Folder.state c.read_files.new.folder) (g.F.Folder.state c.read_files-in-Ok.new.folder) c.in-Ok.ensures.read c.read_files.ensures.kept c.in-Ok-read_files.ensures.read
