use Rattle.std.proofs.Common.{ℕ, nat_eq, sym, ap, ◌∙◌}
use Rattle.std.proofs.lemmas.Result.{IfOk-weaker}
use Rattle.rules.specs.link_rules.Cycles.{is_on_cycle}
use Rattle.link_faults.specs.Graphs.{next_in}
use Rattle.link_faults.proofs.Around.{cyclic_same}
use Rattle.link_faults.proofs.nesting.is_cyclic_around.Goals as goal

pub returns-in-Some : goal.returns-in-Some
returns-in-Some c =
    IfOk-weaker c.is_on_cycle.result _ _
    (λ x p. p ∙ ap (λ (n : ℕ). is_on_cycle nat_eq (next_in c.args.graph.now) n c.in-Some.nested) c.len.ensures
    ∙ cyclic_same c.args.rec.now c.args.graph.now c.args.row.now.nested_class c.in-Some.nested c.requires.around (sym c.in-Some.ensures))
    c.is_on_cycle.ensures
