-- Where fewer than 33 bytes are left, all of them are looked at.
use Rattle.std.proofs.Common.{◌+◌, ◌-◌, length, drop, arith, length-drop}
use Rattle.meta_tables.proofs.Lists.{take_both}
use Rattle.meta_tables.proofs.streams.window.Goals as goal

pub returns-then-rest-lt33-clause-value : goal.returns-then-rest-lt33-clause-value
returns-then-rest-lt33-clause-value c =
    let len = length-drop (c.args.at + 8) c.args.bytes.now in
    take_both (drop (c.args.at + 8) c.args.bytes.now) (length c.args.bytes.now - (c.args.at + 8)) 33 (omega (arith, len)) (omega (arith, len, c.if-rest-lt33.true))
