use Rattle.std.proofs.Common.{ap, ◌∙◌}
use Rattle.mark_parts.specs.mark_tables.Assemblies.{all_of, place_of, rec_of}
use Rattle.attribute_values.specs.attribute_kinds.Sites.{recs_in, place_in, rec_in}
use Rattle.site_kinds.proofs.lemmas.annotation_flags.Grouping.{generics_there}
use Rattle.site_kinds.proofs.annotation_flags.generic.generic_kinds.Goals as goal

pub returns : goal.returns
returns c =
    let site = c.in_ok-reader.reader.site in
    let e = c.in_ok-reader.ensures in
    c.in_ok-kinds.ensures
    ∙ generics_there (all_of c.args.marker.now) c.args.at c.args.table c.args.n (recs_in site) (place_in site) (rec_in site) (rec_of c.in-Some.asm) (ap all_of e.marker) (ap place_of e.asm ∙ c.in-Some.ensures.is.place) (ap rec_of e.asm)
    c.in-Some.ensures.there site.asm.owners.now.params e.is.site.asm.owners.params c.in_ok-owner.owner c.in_ok-owner.ensures c.rows_with-rows.result.now c.rows_with-rows.ensures
