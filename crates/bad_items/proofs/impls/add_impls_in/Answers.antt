use Rattle.std.proofs.Common.{ℕ, ◌+◌, ◌++◌, drop, List, get_or, sym, ap, ◌∙◌}
use Rattle.il_base.specs.declared.world_model.members.MethodImplRow.{MethodImplRow}
use Rattle.rules.specs.type_rules.Rows.{each_from}
use Rattle.rules.specs.mark_rules.BadItems.{Flaw}
use Rattle.mark_parts.specs.mark_tables.Assemblies.{rec_of}
use Rattle.attribute_values.proofs.lemmas.enum_names.Finding.{each_end}
use Rattle.base_laws.specs.flaw_laws.Listed.{impl_flaws_by}
use Rattle.bad_items.specs.Programs.{recs_in, has}
use Rattle.bad_items.proofs.Placing.{next_row}
use Rattle.bad_items.proofs.impls.add_impls_in.Goals as goal

pub loop-k-preserved : goal.loop-k-preserved
loop-k-preserved c =
    let f = impl_flaws_by (recs_in c.args.program.now) (has c.args.program.now) c.args.place (rec_of c.args.asm.now) in
    let rows = c.args.rows.now in
    let k = c.loop-k.k in
    let none : MethodImplRow = record { class = 0; body = 0; declaration = 0 } in
    ap (λ (fs : List Flaw). fs ++ each_from f (k + 1) (drop (k + 1) rows)) (c.in_ok-add_impl.ensures ∙ ap (λ (n : ℕ). c.loop-k.flaws ++ f n (get_or rows k none)) c.in_ok-k.ensures)
    ∙ next_row f rows k none c.loop-k.flaws c.loop-k-test.true ∙ c.loop-k.invariant

pub returns : goal.returns
returns c =
    let f = impl_flaws_by (recs_in c.args.program.now) (has c.args.program.now) c.args.place (rec_of c.args.asm.now) in
    sym (each_end f c.args.rows.now c.loop-k.k c.loop-k.flaws c.loop-k-test.false) ∙ c.loop-k.invariant
