use Rattle.std.proofs.Common.{ℕ, ap, ◌∙◌, arith}
use Rattle.rules.specs.link_rules.Types.{encloser}
use Rattle.rules.specs.link_rules.Cycles.{listed}
use Rattle.link_faults.proofs.nesting.encloser.Goals as goal

pub returns-then-node-lt-LAST_ROW : goal.returns-then-node-lt-LAST_ROW
unfolding encloser
returns-then-node-lt-LAST_ROW c =
    c.next_in.ensures ∙ c.requires c.in-Ok.node (omega arith) ∙ ap (λ (k : ℕ). listed (encloser c.args.rec.now k)) c.in-Ok.ensures.1
