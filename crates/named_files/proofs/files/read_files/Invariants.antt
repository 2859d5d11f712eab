use Rattle.std.proofs.Common.{map, take}
use Rattle.std.specs.String.{string_bytes}
use Rattle.named_files.proofs.NamesRead.{Read}
use Rattle.named_files.proofs.files.read_files.Given as goal

abbrev pub invariant-loop-name : goal.invariant-loop-name
invariant-loop-name g l = Read (map string_bytes (take l.name-index l.names)) l.files (g.F.Folder.state l.initial.folder) (g.F.Folder.state l.folder)
