use Rattle.std.proofs.Common.{ℕ, map, rules, refl, ap, ◌∙◌}
use Rattle.std.proofs.lemmas.List.Sorted.{answers_always, IsNonDecreasingBy-from_sort_by_key}
use Rattle.il_base.specs.declared.cli_format.column.CodedIndex.TheVariants.{HasCustomAttribute}
use Rattle.il_base.specs.cli_format.Tokens.{coded_of}
use Rattle.rules.specs.merge_rules.Attributes as rules
use Rattle.merge_plan.proofs.lemmas.kept_tables.Sorting.{sorted_is, map_by_key}
use Rattle.restrict.specs.declared.merged_attributes.attributes.Attribute.{Attribute}
use Rattle.restrict.specs.merged_attributes.Attributes.{told}
use Rattle.restrict.proofs.merged_attributes.attributes.in_order.Goals as goal

pub returns : goal.returns
returns c =
    let key : Attribute → ℕ = λ x. coded_of HasCustomAttribute x.parent in
    let other : rules.Attribute → ℕ = λ x. coded_of HasCustomAttribute x.parent in
    ap (map told)
    (sorted_is key c.args.all.items c.sort_by_key.new.self.items (IsNonDecreasingBy-from_sort_by_key key _ c.in_ok-sort_by_key.ensures.sorted (λ a r q k. search rules))
    (c.in_ok-sort_by_key.ensures.stable key (answers_always _ _ _ (λ f a r g h. search rules))))
    ∙ map_by_key told key other (λ x. refl) c.args.all.items
