use Rattle.std.proofs.Common.{ℕ, List, subst, ◌∙◌}
use Rattle.std.specs.List.Sorted.{IsPermutation}
use Rattle.std.proofs.lemmas.List.Filters.{dedup_is}
use Rattle.mark_parts.specs.mark_tables.Owners.{attribute_parents}
use Rattle.mark_parts.specs.mark_tables.Assemblies.{rec_of}
use Rattle.attribute_values.proofs.lemmas.attribute_rows.Joined.{sorted_once}
use Rattle.attribute_values.proofs.attribute_rows.rows.rows_of_tokens.Goals as goal

pub returns : goal.returns
returns c =
    let sorted = c.sort_unstable.new.self.items in
    dedup_is _ _ _ c.dedup.ensures.filtered
    ∙ sorted_once (attribute_parents (rec_of c.args.asm.now)) c.args.tokens.now sorted (subst (λ (xs : List ℕ). IsPermutation xs sorted) c.in_ok-rows.ensures c.sort_unstable.ensures.permutation) c.sort_unstable.ensures.sorted
