use Rattle.std.proofs.Common.{ap, ◌∙◌, map, refl, rules}
use Rattle.std.proofs.lemmas.List.Sorted.{answers_always, IsNonDecreasingBy-from_sort_by_key}
use Rattle.merge_plan.specs.declared.kept_tables.order.SortedRow.{SortedRow}
use Rattle.rules.specs.merge_rules.Rows as rows
use Rattle.merge_plan.specs.kept_tables.Order.{key_of, sorted_of}
use Rattle.merge_plan.proofs.lemmas.kept_tables.Sorting.{sorted_is, map_by_key}
use Rattle.merge_plan.proofs.kept_tables.order.in_order.Goals as goal

pub returns : goal.returns
returns c =
    ap (map sorted_of)
    (sorted_is key_of c.args.rows.items c.sort_by_key.new.self.items (IsNonDecreasingBy-from_sort_by_key key_of _ c.in_ok-sort_by_key.ensures.sorted (λ a r q k. search rules))
    (c.in_ok-sort_by_key.ensures.stable key_of (answers_always _ _ _ (λ f a r g h. search rules))))
    ∙ map_by_key sorted_of key_of (λ (x : rows.SortedRow). x.key) (λ x. refl) c.args.rows.items
