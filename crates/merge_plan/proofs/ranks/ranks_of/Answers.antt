use Rattle.std.proofs.Common.{ℕ, List, subst}
use Rattle.std.specs.List.Sorted.{IsPermutation}
use Rattle.std.proofs.lemmas.List.Sorted.{IsNonDecreasingBy-from_sort}
use Rattle.merge_plan.proofs.ranks.ranks_of.Goals as goal

pub returns : goal.returns
returns c = record {
  fit = c.in_ok-ranks.ensures.fit;
  rising = IsNonDecreasingBy-from_sort (λ x. x) c.sort_unstable.new.self.items c.sort_unstable.ensures.sorted;
  same = subst (λ (xs : List ℕ). IsPermutation xs c.sort_unstable.new.self.items) c.in_ok-ranks.ensures.are c.sort_unstable.ensures.permutation;
}
