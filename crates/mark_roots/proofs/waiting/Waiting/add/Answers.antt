use Rattle.std.proofs.Common.{refl}
use Rattle.il_base.specs.declared.ids.Item.TheVariants as item
use Rattle.mark_roots.specs.Lookups.{recs_in}
use Rattle.mark_roots.proofs.Grouping.{group_put, nothing_waits}
use Rattle.mark_roots.proofs.waiting.Waiting.add.Goals as goal

pub returns-in_ok-add_group-in-Typ : goal.returns-in_ok-add_group-in-Typ
returns-in_ok-add_group-in-Typ c =
    rw c.in-Typ.is
    (group_put (recs_in c.args.lookup.now) c.args.roots.now c.in-Typ.id c.args.self.now.groups c.rows_with-places.result.now _ c.args.facts.now c.requires.waiting.groups c.rows_with-places.ensures c.in_ok-add_group-in-Typ.ensures)

pub returns-in-Asm : goal.returns-in-Asm
returns-in-Asm c = rw c.in-Asm.is (nothing_waits (recs_in c.args.lookup.now) (item.Asm _) c.args.roots.now c.args.facts.now (λ r. refl))

pub returns-in-Method : goal.returns-in-Method
returns-in-Method c = rw c.in-Method.is (nothing_waits (recs_in c.args.lookup.now) (item.Method _) c.args.roots.now c.args.facts.now (λ r. refl))

pub returns-in-Field : goal.returns-in-Field
returns-in-Field c = rw c.in-Field.is (nothing_waits (recs_in c.args.lookup.now) (item.Field _) c.args.roots.now c.args.facts.now (λ r. refl))

pub returns-in-Prop : goal.returns-in-Prop
returns-in-Prop c = rw c.in-Prop.is (nothing_waits (recs_in c.args.lookup.now) (item.Prop _) c.args.roots.now c.args.facts.now (λ r. refl))

pub returns-in-Event : goal.returns-in-Event
returns-in-Event c = rw c.in-Event.is (nothing_waits (recs_in c.args.lookup.now) (item.Event _) c.args.roots.now c.args.facts.now (λ r. refl))

pub returns-in-Impl : goal.returns-in-Impl
returns-in-Impl c = rw c.in-Impl.is (nothing_waits (recs_in c.args.lookup.now) (item.Impl _) c.args.roots.now c.args.facts.now (λ r. refl))
