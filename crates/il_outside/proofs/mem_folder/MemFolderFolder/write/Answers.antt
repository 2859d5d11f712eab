use Rattle.std.proofs.Common.{rules}
use Rattle.il_outside.proofs.Put.{wrote, wrote_prefix}
use Rattle.il_outside.proofs.mem_folder.MemFolderFolder.write.Goals as goal

pub returns-in_ok-put-in-None-clause-files : goal.returns-in_ok-put-in-None-clause-files
returns-in_ok-put-in-None-clause-files c = wrote c.args.self.now.files.items c.put.new.files.items c.args.name.now c.args.bytes.now (search rules)

pub returns-in_ok-put-in-Some-clause-files : goal.returns-in_ok-put-in-Some-clause-files
returns-in_ok-put-in-Some-clause-files c =
    wrote_prefix c.args.self.now.files.items c.fail_write.new.self.files.items c.args.name.now c.args.bytes.now c.in-Some.kept (search rules)
