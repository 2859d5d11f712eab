use Rattle.std.proofs.Common.{sym, ◌∙◌}
use Rattle.mark_parts.specs.mark_tables.Assemblies.{recs_of, place_of, rec_of}
use Rattle.bad_items.proofs.Generic.{of_spec, of_others}
use Rattle.bad_items.proofs.impls.generic_link.Goals as goal

pub returns-then-table_of-eq-METHOD_SPEC : goal.returns-then-table_of-eq-METHOD_SPEC
returns-then-table_of-eq-METHOD_SPEC c =
    let asm = c.args.asm.now in
    of_spec (recs_of asm) (place_of asm) (rec_of asm) c.args.token (sym c.table_of.ensures ∙ c.if-table_of-eq-METHOD_SPEC.true)

pub returns : goal.returns
returns c =
    let asm = c.args.asm.now in
    c.method_link.ensures ∙ of_others (recs_of asm) (place_of asm) (rec_of asm) c.args.token (λ e. c.if-table_of-eq-METHOD_SPEC.false (c.table_of.ensures ∙ e))
