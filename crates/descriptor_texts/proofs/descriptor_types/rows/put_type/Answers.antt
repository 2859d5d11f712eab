use Rattle.std.proofs.Common.{◌≡◌, sym, ap, ◌∙◌}
use Rattle.il_base.specs.world_model.Core.{same_name}
use Rattle.rules.specs.declared.link_rules.row_at.RowAt.{RowAt}
use Rattle.rules.specs.type_rules.Rows.{is_module_type}
use Rattle.rules.specs.mark_rules.Roots.{slashed_name}
use Rattle.mark_parts.specs.mark_tables.Assemblies.{recs_of, rec_of}
use Rattle.descriptor_texts.specs.descriptor_types.Rows.{row_in}
use Rattle.descriptor_texts.proofs.lemmas.descriptor_types.First.{name_here, module_kept, type_put}
use Rattle.descriptor_texts.proofs.descriptor_types.rows.put_type.Goals as goal

pub returns-then-is_module : goal.returns-then-is_module
returns-then-is_module c q = module_kept (row_in c.args.rows.now q) (is_module_type c.args.k c.args.t.now) (same_name (slashed_name (rec_of c.args.asm.now) c.args.k) q) c.args.k (sym c.if-is_module.ensures)

pub returns : goal.returns
returns c q =
    let at : RowAt = record { asm = c.args.asm.now.scope.asm; row = c.in_ok-row.row } in
    let name : c.name_at.result.now ≡ slashed_name (rec_of c.args.asm.now) c.args.k = c.name_at.ensures ∙ name_here (recs_of c.args.asm.now) c.args.names.now at (rec_of c.args.asm.now) c.requires.names c.requires.asm.scope.here ∙ ap (slashed_name (rec_of c.args.asm.now)) c.in_ok-row.ensures in
    type_put (row_in c.args.rows.now q) (row_in c.put_first.new.rows q) (is_module_type c.args.k c.args.t.now) c.name_at.result.now (slashed_name (rec_of c.args.asm.now) c.args.k) q c.in_ok-row.row c.args.k
    (sym c.if-is_module.ensures) name c.in_ok-row.ensures (c.in_ok-put_first.ensures q)
