use Rattle.std.proofs.Common.{◌≡◌, ℕ, ◌+◌, List, length, sym, ap, subst, ◌∙◌}
use Rattle.std.proofs.lemmas.List.{length_push}
use Rattle.attr_blobs.specs.declared.value.EnumSize.{EnumSize}
use Rattle.rules.specs.mark_rules.Attributes.{enums_from}
use Rattle.mark_parts.specs.mark_tables.Assemblies.{all_of}
use Rattle.attribute_values.specs.Tables.{AreEnums}
use Rattle.attribute_values.proofs.Pushing.{pushed, none_are}
use Rattle.attribute_values.proofs.tables.enums_of_each.Goals as goal

pub loop-from-init : goal.loop-from-init
loop-from-init c = (ap (λ (xs : List (List EnumSize)). length xs) c.new-lists.ensures.items, none_are (all_of c.args.marker.now) c.new-lists.result.items c.new-lists.ensures.items)

pub loop-from-preserved : goal.loop-from-preserved
loop-from-preserved c =
    let recs = all_of c.args.marker.now in
    let lists = c.loop-from.lists.items in
    let enums = c.in_ok-enums.enums in
    let is : enums ≡ enums_from recs (length lists) = c.in_ok-enums.ensures ∙ ap (λ (n : ℕ). enums_from recs n) (c.in_ok-place.ensures ∙ sym c.loop-from.invariant.0) in (
      ap (λ (xs : List (List EnumSize)). length xs) c.in_ok-push.ensures.items ∙ length_push lists enums ∙ ap (λ (n : ℕ). n + 1) c.loop-from.invariant.0,
      subst (λ (xs : List (List EnumSize)). AreEnums recs xs) (sym c.in_ok-push.ensures.items) (pushed (λ a es. es ≡ enums_from recs a) lists enums c.loop-from.invariant.1 is),
    )

pub returns : goal.returns
returns c = c.loop-from.invariant.1
