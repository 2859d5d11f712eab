use Rattle.std.proofs.Common.{◌≡◌, ◌<◌, Some, None, length, position, rules}
use Rattle.il_outside.specs.Memory.{is_named}
use Rattle.il_outside.proofs.Put.{placed, added}
use Rattle.il_outside.proofs.mem_folder.put.Goals as goal

pub returns-in-Some-clause-ok : goal.returns-in-Some-clause-ok
returns-in-Some-clause-ok c =
    let e : Some c.in-Some.i ≡ position (is_named c.args.name.now) c.args.files.now.items = search rules in
    let h : c.in-Some.i < length c.args.files.now.items = search rules in
    let a : c.in_ok-from_slice.field-0 ≡ c.args.name.now = search rules in
    let b : c.in_ok-from_slice-2.field-0 ≡ c.args.bytes.now = search rules in
    rw (a, b) (placed c.args.name.now c.args.bytes.now c.args.files.now.items c.in-Some.i e h)

pub returns-in_ok-push-in-None-clause-ok : goal.returns-in_ok-push-in-None-clause-ok
returns-in_ok-push-in-None-clause-ok c =
    let e : None ≡ position (is_named c.args.name.now) c.args.files.now.items = search rules in
    let a : c.in_ok-from_slice.field-0 ≡ c.args.name.now = search rules in
    let b : c.in_ok-from_slice-2.field-0 ≡ c.args.bytes.now = search rules in
    let k = added c.args.name.now c.args.bytes.now c.args.files.now.items e in
    cc c.in_ok-push-in-None.ensures.items
