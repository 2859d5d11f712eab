use Rattle.std.proofs.Common.{List, ap, sym, subst, ◌∙◌}
use Rattle.std.specs.Prelude.{◌≡◌, Option, Some, slice_get}
use Rattle.std.specs.Option.{option_and_then}
use Rattle.il_base.specs.declared.world_model.record.AsmRec.{AsmRec}
use Rattle.rules.specs.link_rules.Types as types
use Rattle.resolver.specs.type_links.References.{definition_at}
use Rattle.attribute_values.specs.attribute_kinds.Sites.{recs_in, place_in, rec_in}
use Rattle.attribute_values.proofs.attribute_kinds.site.definition_at.Goals as goal

pub returns : goal.returns
returns c =
    let site = c.args.site.now in
    let here : slice_get (recs_in site) (place_in site) ≡ Some (rec_in site) = subst (λ (recs : List AsmRec). slice_get recs (place_in site) ≡ Some (rec_in site)) c.requires.recs c.requires.asm.scope.here in
    c.in_ok-at.ensures
    ∙ ap (λ (recs : List AsmRec). definition_at recs (place_in site) c.args.token) c.requires.all
    ∙ ap (λ (o : Option AsmRec). option_and_then (λ (rec : AsmRec). types.definition_at (recs_in site) (place_in site) rec c.args.token) o) here
