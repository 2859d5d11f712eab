use Rattle.std.proofs.Common.{ℕ, List, [], ◌∷◌, ◌++◌, ◌+◌, ◌-◌, map, sym, ap, ◌∙◌}
use Rattle.std.specs.List.{range_with_len}
use Rattle.rules.specs.mark_rules.Roots.{slashed_name}
use Rattle.mark_parts.specs.mark_tables.Assemblies.{rec_of}
use Rattle.descriptor_texts.proofs.lemmas.slashed_names.Ranging.{range_next, range_end}
use Rattle.descriptor_texts.proofs.slashed_names.names.names_in.Goals as goal

pub loop-row-preserved : goal.loop-row-preserved
loop-row-preserved c =
    ap (λ (ns : List (List ℕ)). ns ++ map (slashed_name (rec_of c.args.asm.now)) (range_with_len (c.loop-row.row + 1) (c.in_ok-count.count - (c.loop-row.row + 1))))
    (c.in_ok-push.ensures.ok ∙ ap (λ (n : List ℕ). c.loop-row.names ++ n ∷ []) c.in_ok-name.ensures)
    ∙ range_next (slashed_name (rec_of c.args.asm.now)) c.loop-row.names c.loop-row.row c.in_ok-count.count c.loop-row-test.true ∙ c.loop-row.invariant

pub returns : goal.returns
returns c =
    sym (range_end (slashed_name (rec_of c.args.asm.now)) c.loop-row.names c.loop-row.row c.in_ok-count.count c.loop-row-test.false) ∙ c.loop-row.invariant
    ∙ ap (λ (n : ℕ). map (slashed_name (rec_of c.args.asm.now)) (range_with_len 0 n)) (c.in_ok-count.ensures ∙ c.len.ensures)
