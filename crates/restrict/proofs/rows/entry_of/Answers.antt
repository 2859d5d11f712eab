use Rattle.std.proofs.Common.{◌∙◌}
use Rattle.restrict.proofs.rows.entry_of.Goals as goal

pub returns : goal.returns
returns c = λ o have here.
    let has = have 0 c.args.first.now here in
    c.in_ok-entry.ensures has.new has.there ∙ has.are.callees c.args.first.now.entry
