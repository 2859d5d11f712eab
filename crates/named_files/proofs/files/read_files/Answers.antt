use Rattle.std.proofs.Common.{map, take, drop, suc}
use Rattle.std.specs.String.{string_bytes}
use Rattle.named_files.proofs.NamesRead.{next_names, split_names, one_more, read_failed}
use Rattle.named_files.proofs.files.read_files.Goals as goal

pub returns-in-Err-clause-read : goal.returns-in-Err-clause-read
returns-in-Err-clause-read g c =
    let names = c.args.names.now in
    let i = c.loop-name.name-index in
    let parts = split_names string_bytes names i c.name-item.result c.as_str.result.now c.loop-name-test.true c.name-item.is c.as_str.ensures.value in
    read_failed _ (map string_bytes (take i names)) (map string_bytes (drop (suc i) names)) c.loop-name.files c.as_str.result.now (g.F.Folder.state c.args.folder.now) (g.F.Folder.state c.loop-name.folder) (g.F.Folder.state c.read.new.self) c.in-Err.error c.loop-name.invariant parts c.in-Err.ensures.faults

pub loop-name-preserved : goal.loop-name-preserved
loop-name-preserved g c =
    let names = c.args.names.now in
    let i = c.loop-name.name-index in
    let was = g.F.Folder.state c.args.folder.now in
    let now = g.F.Folder.state c.read.new.self in
    let more = next_names string_bytes names i c.name-item.result c.as_str.result.now c.loop-name-test.true c.name-item.is c.as_str.ensures.value in
    rw more (one_more (map string_bytes (take i names)) c.loop-name.files c.push.new.self c.as_str.result.now c.in-Ok.file was (g.F.Folder.state c.loop-name.folder) now c.loop-name.invariant c.read.ensures.files c.in-Ok.ensures.bytes c.in-Ok.ensures.faults c.in-Ok-push.ensures.ok)
