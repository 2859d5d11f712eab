use Rattle.std.proofs.Common.{ℕ, sym, ap, ◌∙◌}
use Rattle.rules.specs.link_rules.Members.{bases_from}
use Rattle.virtual_calls.proofs.lemmas.named_members.Upward.{base_next, base_last, base_none}
use Rattle.cil_world.proofs.world_types.bases.with_bases.Goals as goal

pub loop-preserved : goal.loop-preserved
loop-preserved c =
    rw c.in_ok-push.ensures.items
    (base_next c.args.tables.now.world.now.recs c.loop.types.items c.in_ok-count.count c.loop.counter c.loop.ty c.in-Some.base c.loop-test.true (sym c.in_ok-base.ensures ∙ c.in-Some.is)
    ∙ c.loop.invariant)

pub returns-in-None : goal.returns-in-None
returns-in-None c =
    c.in_ok-push.ensures.items
    ∙ base_last c.args.tables.now.world.now.recs c.loop.types.items c.in_ok-count.count c.loop.counter c.loop.ty c.loop-test.true (sym c.in_ok-base.ensures ∙ c.in-None.is)
    ∙ c.loop.invariant ∙ ap (λ (n : ℕ). bases_from c.args.tables.now.world.now.recs n c.args.start.now) c.in_ok-count.ensures

pub returns : goal.returns
returns c =
    base_none c.args.tables.now.world.now.recs c.loop.types.items c.in_ok-count.count c.loop.counter c.loop.ty c.loop-test.false
    ∙ c.loop.invariant ∙ ap (λ (n : ℕ). bases_from c.args.tables.now.world.now.recs n c.args.start.now) c.in_ok-count.ensures
