use Rattle.std.proofs.Common.{ℕ, rules}
use Rattle.std.proofs.lemmas.List.Sorted.{answers_always, IsNonDecreasingBy-from_sort_by_key}
use Rattle.il_base.specs.declared.world_model.extras.FieldRvaRow.{FieldRvaRow}
use Rattle.merge_plan.proofs.lemmas.kept_tables.Sorting.{sorted_is}
use Rattle.merged_tables.proofs.merged_field_rvas.field_rvas.in_order.Goals as goal

pub returns : goal.returns
returns c =
    let key : FieldRvaRow → ℕ = λ row. row.field in
    sorted_is key c.args.rows.items c.sort_by_key.new.self.items (IsNonDecreasingBy-from_sort_by_key key _ c.in_ok-sort_by_key.ensures.sorted (λ a r q k. search rules))
    (c.in_ok-sort_by_key.ensures.stable key (answers_always _ _ _ (λ f a r g h. search rules)))
