use Rattle.std.proofs.Common.{◌≡◌, List, subst, ◌∙◌}
use Rattle.std.specs.Prelude.{Some, slice_get}
use Rattle.il_base.specs.declared.world_model.record.AsmRec.{AsmRec}
use Rattle.attribute_values.specs.attribute_kinds.Sites.{recs_in, place_in, rec_in}
use Rattle.attribute_values.proofs.lemmas.trimming_attributes.Owning.{owner_row}
use Rattle.attribute_values.proofs.trimming_attributes.texts.owner_of.Goals as goal

pub returns : goal.returns
returns c =
    let site = c.args.site.now in
    let here : slice_get (recs_in site) (place_in site) ≡ Some (rec_in site) = subst (λ (recs : List AsmRec). slice_get recs (place_in site) ≡ Some (rec_in site)) c.requires.recs c.requires.asm.scope.here in
    c.row_of-row.ensures ∙ owner_row (recs_in site) (place_in site) c.args.k (rec_in site) here c.in_ok-found.found c.in_ok-found.ensures
