use Rattle.std.proofs.Common.{◌≡◌, Some, sym, ap, subst, ◌∙◌}
use Rattle.std.specs.Prelude.{slice_get}
use Rattle.std.specs.Option.{option_copied}
use Rattle.type_tables.proofs.lemmas.member_search.Zips.{zip_as_long, zip_at}
use Rattle.il_base.specs.declared.first_places.places.Places.{Places}
use Rattle.cil_world.specs.world_methods.Places.{HasPlaces, HavePlaces}
use Rattle.cil_world.proofs.lemmas.world_methods.Asking.{nothing_asked, one_asked}
use Rattle.cil_world.proofs.world_methods.methods.Methods.instruction.Goals as goal

pub bounds-places-method : goal.bounds-places-method
bounds-places-method c =
    rw c.as_slice-places.ensures.value
    (zip_as_long HasPlaces c.self.inside.rows.items c.self.inside.places.items c.self.invariant.1 c.args.method c.in-Some.m.now
    (ap (λ rows. slice_get rows c.args.method) (sym c.as_slice-rows.ensures.value) ∙ sym c.in-Some.ensures))

pub begins_at-requires : goal.begins_at-requires
begins_at-requires c =
    let there : slice_get c.self.inside.rows.items c.args.method ≡ Some c.in-Some.m.now =
    ap (λ rows. slice_get rows c.args.method) (sym c.as_slice-rows.ensures.value) ∙ sym c.in-Some.ensures in
    let all : HavePlaces c.self.inside.rows.items c.as_slice-places.result.now = rw c.as_slice-places.ensures.value c.self.invariant.1 in
    subst (λ (p : Places). HasPlaces c.in-Some.m.now p) (sym c.index-places-method.is)
    (zip_at HasPlaces c.self.inside.rows.items c.as_slice-places.result.now all c.args.method c.in-Some.m.now c.index-places-method.result there)

pub returns-in-None : goal.returns-in-None
returns-in-None c =
    nothing_asked c.self.inside.world.now c.args.self.now c.self.view_is c.self.inside.rows.items c.self.invariant.0 c.args.method c.args.at
    (c.in-None.ensures ∙ ap (λ rows. slice_get rows c.args.method) c.as_slice-rows.ensures.value)

pub returns-in-Some : goal.returns-in-Some
returns-in-Some c =
    one_asked c.self.inside.world.now c.args.self.now c.self.view_is c.self.inside.rows.items c.self.invariant.0 c.args.method c.args.at c.in-Some.m.now
    (c.in-Some.ensures ∙ ap (λ rows. slice_get rows c.args.method) c.as_slice-rows.ensures.value) (option_copied c.begins_at.result) c.begins_at.ensures
