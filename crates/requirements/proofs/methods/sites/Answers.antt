use Rattle.std.proofs.Common.{◌≡◌, ℕ, List, Some, sym, ap, ◌∙◌}
use Rattle.std.specs.Prelude.{IfSome, slice_get}
use Rattle.std.specs.Option.{option_map}
use Rattle.il_base.specs.declared.world_model.record.AsmRec.{AsmRec}
use Rattle.il_base.specs.declared.world_model.world.World.{World}
use Rattle.rules.specs.type_rules.Slots.{method_home}
use Rattle.mark_parts.specs.mark_tables.Assemblies.{all_of}
use Rattle.rules.specs.flow_rules.Methods.{setting_of}
use Rattle.rules.specs.flow_rules.Moves.{sources_of}
use Rattle.value_flow.specs.body_graph.Methods.{setting_in, IsHere}
use Rattle.rules.specs.site_rules.Bodies.{sites_of_body}
use Rattle.requirements.proofs.Homes.{same_assembly}
use Rattle.requirements.proofs.Same.{owned_by, is_flowed, same_flow}
use Rattle.requirements.proofs.methods.sites.Goals as goal

pub sites_of_body-requires : goal.sites_of_body-requires
sites_of_body-requires c =
    let recs : List AsmRec = all_of c.args.annotated.now.marker.now in
    let method = c.in-Ok-Some.method in
    let at = c.in-Ok-Some-method_home.at in
    let is_here : IfSome c.in-Ok-Some.field-0 IsHere = c.in-Ok-Some.ensures.here in
    let here : IsHere method = rw (c.in-Ok-Some.field-0-is) at is_here in
    let is_same : IfSome c.in-Ok-Some.field-0 (λ m. m.world.now ≡ c.args.annotated.now.marker.now.tables.world.now) = c.in-Ok-Some.ensures.same in
    let same : method.world.now ≡ c.args.annotated.now.marker.now.tables.world.now = rw (c.in-Ok-Some.field-0-is) at is_same in
    let there : slice_get recs method.asm ≡ Some method.rec.now = ap (λ (w : World). slice_get w.recs method.asm) (sym same) ∙ here.here in
    let found : setting_of recs c.args.m ≡ Some (setting_in method) = sym c.in-Ok-Some.ensures.is ∙ ap (option_map setting_in) c.in-Ok-Some.field-0-is in
    let home : method_home recs c.args.m ≡ Some at = ap (λ (xs : List AsmRec). method_home xs c.args.m) (sym c.as_slice.ensures) ∙ sym c.in-Ok-Some-method_home.ensures ∙ c.in-Ok-Some-method_home.field-0-is in
    let asm : method.asm ≡ at.asm = same_assembly recs c.args.m at (setting_in method) home found in
    record {
      annotated = c.requires.annotated;
      here = there;
      at_here = ap (λ (a : ℕ). slice_get recs a) (sym asm) ∙ there;
      sources = (c.requires.flow (setting_in method) found).flow.sources ∙ ap (sources_of recs (setting_in method)) (owned_by recs c.args.m at c.in_ok-owner.owner home c.in_ok-owner.ensures);
    }

pub returns : goal.returns
returns c =
    let recs : List AsmRec = all_of c.args.annotated.now.marker.now in
    let method = c.in-Ok-Some.method in
    let at = c.in-Ok-Some-method_home.at in
    let found : setting_of recs c.args.m ≡ Some (setting_in method) = sym c.in-Ok-Some.ensures.is ∙ ap (option_map setting_in) c.in-Ok-Some.field-0-is in
    let home : method_home recs c.args.m ≡ Some at = ap (λ (xs : List AsmRec). method_home xs c.args.m) (sym c.as_slice.ensures) ∙ sym c.in-Ok-Some-method_home.ensures ∙ c.in-Ok-Some-method_home.field-0-is in
    λ f is.
    c.in_ok-sites.ensures
    ∙ ap sites_of_body
    (same_flow recs c.args.m c.args.flow.now.graph.now.depths _ f
    (is_flowed recs c.args.m at c.in_ok-owner.owner (setting_in method) c.args.flow.now home found (owned_by recs c.args.m at c.in_ok-owner.owner home c.in_ok-owner.ensures)
    (c.requires.flow (setting_in method) found))
    is)
