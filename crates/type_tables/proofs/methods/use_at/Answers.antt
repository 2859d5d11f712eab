use Rattle.std.proofs.Common.{sym, ◌∙◌}
use Rattle.std.specs.Prelude.{slice_get}
use Rattle.type_tables.proofs.Uses.{other_token}
use Rattle.type_tables.proofs.methods.use_at.Goals as goal

pub returns-then-table-ne-MEMBER_REF : goal.returns-then-table-ne-MEMBER_REF
returns-then-table-ne-MEMBER_REF c =
    sym (other_token c.args.tables.now.world.now.recs c.args.asm c.args.token (λ e. c.if-table-ne-METHOD_DEF.true (c.table_of-table.ensures ∙ e)) (λ e. c.if-table-ne-MEMBER_REF.true (c.table_of-table.ensures ∙ e)) (slice_get c.args.tables.now.world.now.recs c.args.asm))
