use Rattle.std.proofs.Common.{ℕ, List, [], ◌∷◌, ◌++◌, ◌+◌, ◌-◌, map, sym, ap, ◌∙◌}
use Rattle.std.specs.List.{range_with_len}
use Rattle.mark_parts.specs.mark_tables.Assemblies.{rec_of}
use Rattle.descriptor_texts.proofs.lemmas.slashed_names.Ranging.{range_next, range_end}
use Rattle.descriptor_texts.specs.nested_types.Nested.{key_of}
use Rattle.descriptor_texts.proofs.nested_types.nested.keys_of.Goals as goal

pub loop-row-preserved : goal.loop-row-preserved
loop-row-preserved c =
    ap (λ (ks : List ℕ). ks ++ map (key_of (rec_of c.args.asm.now)) (range_with_len (c.loop-row.row + 1) (c.in_ok-count.count - (c.loop-row.row + 1))))
    (c.in_ok-push.ensures.items ∙ ap (λ (k : ℕ). c.loop-row.keys.items ++ k ∷ []) c.in_ok-key.ensures)
    ∙ range_next (key_of (rec_of c.args.asm.now)) c.loop-row.keys.items c.loop-row.row c.in_ok-count.count c.loop-row-test.true ∙ c.loop-row.invariant

pub returns : goal.returns
returns c =
    sym (range_end (key_of (rec_of c.args.asm.now)) c.loop-row.keys.items c.loop-row.row c.in_ok-count.count c.loop-row-test.false) ∙ c.loop-row.invariant
    ∙ ap (λ (n : ℕ). map (key_of (rec_of c.args.asm.now)) (range_with_len 0 n)) (c.in_ok-count.ensures ∙ c.len.ensures)
