use Rattle.std.proofs.Common.{[], map, refl}
use Rattle.il_base.specs.declared.world_model.known.Known.TheVariants.{Good, Bad}
use Rattle.il_base.specs.world_model.Worlds.{all_known, expr_by}
use Rattle.type_tables.proofs.lemmas.member_search.MethodTypes.{method_type_at}
use Rattle.type_tables.proofs.member_search.method_types.method_type.Goals as goal

pub returns-in-Ok-Bad : goal.returns-in-Ok-Bad
returns-in-Ok-Bad c =
    let scope = c.args.scope.now in
    method_type_at scope.linked.all.now scope.linked.links.now scope.asm c.args.targs.now scope.rec.now c.args.sig.now (Bad c.in-Ok-Bad.why)
    (all_known (map (expr_by scope.linked.all.now scope.linked.links.now scope.asm c.args.targs.now []) c.args.sig.now.params))
    (c.requires.linked.methods scope.asm scope.rec.now c.requires.here c.args.sig.now)
    (rw c.in-Ok-Bad.field-0-is at c.in-Ok-Bad.ensures) refl

pub returns-in-Ok-Good-types_by : goal.returns-in-Ok-Good-types_by
returns-in-Ok-Good-types_by c =
    let scope = c.args.scope.now in
    method_type_at scope.linked.all.now scope.linked.links.now scope.asm c.args.targs.now scope.rec.now c.args.sig.now (Good c.in-Ok-Good.ret) (Good c.in-Ok-Good-types_by.params)
    (c.requires.linked.methods scope.asm scope.rec.now c.requires.here c.args.sig.now)
    (rw c.in-Ok-Good.field-0-is at c.in-Ok-Good.ensures)
    (rw (c.in-Ok-Good-types_by.field-0-is, c.as_slice.ensures) at c.in-Ok-Good-types_by.ensures)

pub returns-in-Ok-Bad-types_by : goal.returns-in-Ok-Bad-types_by
returns-in-Ok-Bad-types_by c =
    let scope = c.args.scope.now in
    method_type_at scope.linked.all.now scope.linked.links.now scope.asm c.args.targs.now scope.rec.now c.args.sig.now (Good c.in-Ok-Good.ret) (Bad c.in-Ok-Bad-types_by.why)
    (c.requires.linked.methods scope.asm scope.rec.now c.requires.here c.args.sig.now)
    (rw c.in-Ok-Good.field-0-is at c.in-Ok-Good.ensures)
    (rw (c.in-Ok-Bad-types_by.field-0-is, c.as_slice.ensures) at c.in-Ok-Bad-types_by.ensures)
