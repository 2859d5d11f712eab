use Rattle.std.proofs.Common.{sym, ◌∙◌}
use Rattle.std.proofs.lemmas.Bool.{OnTrue_from}
use Rattle.link_faults.proofs.Ranked.{ranked}
use Rattle.link_faults.proofs.ranks.is_acyclic.Goals as goal

pub returns : goal.returns
returns c = OnTrue_from _ _ (λ e. ranked c.deref.result.now c.args.graph.now (sym c.goes_down.ensures ∙ e))
