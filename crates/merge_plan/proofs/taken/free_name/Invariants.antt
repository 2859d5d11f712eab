use Rattle.std.proofs.Common.{◌≡◌, ◌-◌, ℕ, List}
use Rattle.rules.specs.type_rules.Texts.{full_name_of}
use Rattle.rules.specs.merge_rules.Names.{free_from}
use Rattle.merge_plan.specs.Taken.{has_in}
use Rattle.merge_plan.proofs.taken.free_name.Given as goal

abbrev pub invariant-loop-k : goal.invariant-loop-k
invariant-loop-k l =
    free_from (λ (n : List ℕ). has_in l.taken (full_name_of l.namespace n)) l.name l.k (l.most - l.k)
    ≡ free_from (λ (n : List ℕ). has_in l.taken (full_name_of l.namespace n)) l.name 0 l.most
