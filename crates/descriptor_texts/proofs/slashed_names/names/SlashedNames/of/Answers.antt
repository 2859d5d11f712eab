use Rattle.std.proofs.Common.{ℕ, List, [], ◌∷◌, ◌++◌, ◌+◌, ◌-◌, map, sym, ap, ◌∙◌}
use Rattle.std.specs.List.{range_with_len}
use Rattle.mark_parts.specs.mark_tables.Assemblies.{all_of}
use Rattle.descriptor_texts.specs.slashed_names.Names.{names_at}
use Rattle.descriptor_texts.proofs.lemmas.slashed_names.Ranging.{range_next, range_end}
use Rattle.descriptor_texts.proofs.slashed_names.names.SlashedNames.of.Goals as goal

pub loop-asm-preserved : goal.loop-asm-preserved
loop-asm-preserved c =
    ap (λ (ns : List (List (List ℕ))). ns ++ map (names_at (all_of c.args.marker.now)) (range_with_len (c.loop-asm.asm + 1) (c.in_ok-count.count - (c.loop-asm.asm + 1))))
    (c.in_ok-push.ensures.ok ∙ ap (λ (n : List (List ℕ)). c.loop-asm.names ++ n ∷ []) c.in_ok-own.ensures)
    ∙ range_next (names_at (all_of c.args.marker.now)) c.loop-asm.names c.loop-asm.asm c.in_ok-count.count c.loop-asm-test.true ∙ c.loop-asm.invariant

pub returns : goal.returns
returns c =
    sym (range_end (names_at (all_of c.args.marker.now)) c.loop-asm.names c.loop-asm.asm c.in_ok-count.count c.loop-asm-test.false) ∙ c.loop-asm.invariant
    ∙ ap (λ (n : ℕ). map (names_at (all_of c.args.marker.now)) (range_with_len 0 n)) (c.in_ok-count.ensures ∙ c.len.ensures)
