use Rattle.std.proofs.Common.{sym, ◌∙◌}
use Rattle.il_base.specs.declared.world_model.known.Known.TheVariants.{Good, Bad}
use Rattle.mark_parts.specs.mark_tables.Assemblies.{recs_of, place_of, rec_of}
use Rattle.token_keys.proofs.lemmas.type_numbers.Unnamed.{spec_unnamed, named_is}
use Rattle.token_keys.proofs.type_numbers.numbers.named_number.Goals as goal

pub returns-then-of-eq-TYPE_SPEC : goal.returns-then-of-eq-TYPE_SPEC
returns-then-of-eq-TYPE_SPEC c =
    let asm = c.args.asm.now in
    sym (spec_unnamed (recs_of asm) (place_of asm) (rec_of asm) c.args.token (sym c.table_of-of.ensures ∙ c.if-of-eq-TYPE_SPEC.true))

pub returns-in_ok-number-in-Ok : goal.returns-in_ok-number-in-Ok
returns-in_ok-number-in-Ok c =
    let asm = c.args.asm.now in
    c.in_ok-number-in-Ok.ensures
    ∙ sym (named_is (recs_of asm) (place_of asm) (rec_of asm) c.args.token (Good c.in-Ok.named.now) (λ e. c.if-of-eq-TYPE_SPEC.false (c.table_of-of.ensures ∙ e)) c.in-Ok.ensures)

pub returns-in-Err : goal.returns-in-Err
returns-in-Err c =
    let asm = c.args.asm.now in
    sym (named_is (recs_of asm) (place_of asm) (rec_of asm) c.args.token (Bad c.in-Err.field-0) (λ e. c.if-of-eq-TYPE_SPEC.false (c.table_of-of.ensures ∙ e)) c.in-Err.ensures)
