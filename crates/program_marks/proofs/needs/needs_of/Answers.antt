use Rattle.std.proofs.Common.{subst}
use Rattle.std.specs.Option.{option_map}
use Rattle.il_base.specs.declared.world_model.world.World.{World}
use Rattle.rules.specs.mark_rules.Marking.{Marks}
use Rattle.rules.specs.mark_rules.BadItems.{IsFirstFlaw}
use Rattle.rules.specs.mark_rules.NotYet.{IsFirstNotYet}
use Rattle.bad_items.specs.mark_flaws.Told.{flaw_told}
use Rattle.marking.specs.Holding.{IsMarked}
use Rattle.base_laws.specs.flaw_laws.There.{RowsThere}
use Rattle.program_marks.proofs.needs.needs_of.Goals as goal

pub returns-clause-marked : goal.returns-clause-marked
returns-clause-marked c = subst (λ (w : World). IsMarked w.recs c.args.entry c.args.roots.now c.in_ok-needs.needs.marked) c.in_ok-marker.ensures.world c.in_ok-needs.ensures.marked

pub returns-clause-flaw : goal.returns-clause-flaw
returns-clause-flaw c =
    subst (λ (w : World). RowsThere w.recs → IsFirstFlaw w.recs c.args.entry (Marks w.recs c.args.entry c.args.roots.now) (option_map flaw_told c.in_ok-needs.needs.flaw)) c.in_ok-marker.ensures.world
    c.in_ok-needs.ensures.flaw

pub returns-clause-not_yet : goal.returns-clause-not_yet
returns-clause-not_yet c =
    subst (λ (w : World). IsFirstNotYet w.recs (Marks w.recs c.args.entry c.args.roots.now) c.in_ok-needs.needs.not_yet) c.in_ok-marker.ensures.world c.in_ok-needs.ensures.not_yet
