use Rattle.std.proofs.Common.{sym, ◌∙◌}
use Rattle.mark_parts.specs.mark_tables.Assemblies.{rec_of}
use Rattle.descriptor_texts.specs.descriptor_types.Rows.{row_in}
use Rattle.descriptor_texts.proofs.lemmas.descriptor_types.First.{type_next, type_end}
use Rattle.descriptor_texts.proofs.descriptor_types.rows.type_rows.Goals as goal

pub loop-k-preserved : goal.loop-k-preserved
loop-k-preserved c q =
    type_next (rec_of c.args.asm.now) q c.args.types.now c.loop-k.k c.index-types-k.result (row_in c.loop-k.rows q) (row_in c.put_type.new.rows q) c.loop-k-test.true c.index-types-k.is (c.in_ok-put_type.ensures q)
    ∙ c.loop-k.invariant q

pub returns : goal.returns
returns c q = sym (type_end (rec_of c.args.asm.now) q c.args.types.now c.loop-k.k (row_in c.loop-k.rows q) c.loop-k-test.false) ∙ c.loop-k.invariant q
