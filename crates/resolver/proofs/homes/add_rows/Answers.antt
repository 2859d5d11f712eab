use Rattle.std.proofs.Common.{◌≡◌, ◌+◌, refl, arith}
use Rattle.il_base.specs.declared.world_model.world.Home.{Home}
use Rattle.rules.specs.link_rules.Linked.{home}
use Rattle.resolver.specs.Kinds.{item_of, table_of}
use Rattle.resolver.proofs.Rows.{one_more}
use Rattle.resolver.proofs.homes.add_rows.Goals as goal

pub loop-row-preserved : goal.loop-row-preserved
loop-row-preserved c =
    let id : c.in-Some.id ≡ c.args.before + c.loop-row.row = omega (arith, c.in-Some.ensures) in
    let h : Home = record { item = c.item_of.result; asm = record { 0 = c.args.asm }; token = c.in_ok-token_of.field-0 } in
    let is : h ≡ home (item_of c.args.kind) c.args.asm (table_of c.args.kind) c.args.before c.loop-row.row =
    rw (c.item_of.ensures, id, c.in_ok-token_of.ensures, c.table_of.ensures) refl in
    one_more (home (item_of c.args.kind) c.args.asm (table_of c.args.kind) c.args.before) c.args.homes.now c.loop-row.homes c.push.new.self c.loop-row.row h is
    c.in_ok-push.ensures.ok c.loop-row.invariant
