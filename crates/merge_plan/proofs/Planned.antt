-- The plan, by the types that need a new name.
use Rattle.std.proofs.Common.{◌≡◌, List, [], map, Bool, Option, Some, None, sym, ap, ◌∙◌}
use Rattle.std.specs.Option.{option_map}
use Rattle.il_base.specs.declared.ids.TypeId.{TypeId}
use Rattle.il_base.specs.declared.world_model.record.AsmRec.{AsmRec}
use Rattle.rules.specs.declared.link_rules.row_at.RowAt.{RowAt}
use Rattle.rules.specs.merge_rules.Names as names
use Rattle.rules.specs.merge_rules.Names.{Collision, collision, new_names}
use Rattle.merge_plan.specs.declared.contests.Contest.{Contest}
use Rattle.merge_plan.specs.declared.outcome.NewName.{NewName}
use Rattle.merge_plan.specs.declared.outcome.Planned.{Planned}
use Rattle.merge_plan.specs.declared.outcome.Planned.TheVariants as planned
use Rattle.merge_plan.specs.Contests.{contests_from, names_by, collision_of, collision_by}
use Rattle.merge_plan.specs.Plans.{named, collided, planned_by}
use Rattle.merge_plan.proofs.Contested.{all_names, first_collision}

module _ (internal : Bool) (recs : List AsmRec) (shown : TypeId → Bool) (kept types : List RowAt) (same : types ≡ kept) (contests : List Contest) (are : contests ≡ contests_from recs [] types) where
  found : (o : Option Contest) → option_map collision_of o ≡ collision_by recs shown contests → option_map collision_of o ≡ collision recs shown kept
  found o e = e ∙ (λ i. collision_by recs shown (are i)) ∙ (λ i. collision_by recs shown (contests_from recs [] (same i))) ∙ first_collision recs shown kept

  abbrev by : Option Collision → Planned
  by o = elim o [ Some c ↦ collided recs c | None ↦ planned.Plan (record { names = map (named recs) (new_names recs kept); internal = internal }) ]

  pub planned_some : (o : Option Contest) (c : Contest) → o ≡ Some c → option_map collision_of o ≡ collision_by recs shown contests → collided recs (collision_of c) ≡ planned_by internal recs shown kept
  planned_some o c is e =
      let there : collision recs shown kept ≡ Some (collision_of c) = sym (found o e) ∙ ap (option_map collision_of) is in sym (ap by there)

  pub planned_none : (o : Option Contest) → o ≡ None → option_map collision_of o ≡ collision_by recs shown contests → (renamed : List names.NewName) → renamed ≡ names_by recs types [] contests
      → (all : List NewName) → all ≡ map (named recs) renamed → planned.Plan (record { names = all; internal = internal }) ≡ planned_by internal recs shown kept
  planned_none o is e renamed new_are all are_named =
      let none : collision recs shown kept ≡ None = sym (found o e) ∙ ap (option_map collision_of) is in
      let new : renamed ≡ new_names recs kept =
      new_are ∙ (λ i. names_by recs types [] (are i)) ∙ (λ i. names_by recs (same i) [] (contests_from recs [] (same i))) ∙ all_names recs kept in
      (λ i. planned.Plan (record { names = (are_named ∙ ap (map (named recs)) new) i; internal = internal })) ∙ sym (ap by none)
