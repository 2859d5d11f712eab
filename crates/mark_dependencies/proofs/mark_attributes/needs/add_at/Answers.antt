use Rattle.std.proofs.Common.{◌++◌, List, sym, ap, ◌∙◌}
use Rattle.rules.specs.mark_rules.Facts.{Fact}
use Rattle.mark_parts.specs.declared.mark_tables.assembly.Assembly.{Assembly}
use Rattle.mark_parts.specs.declared.mark_tables.marker.Marker.{Marker}
use Rattle.mark_parts.specs.mark_tables.Assemblies.{all_of, place_of, rec_of}
use Rattle.attribute_values.specs.attribute_kinds.Sites.{recs_in, place_in, rec_in}
use Rattle.mark_dependencies.proofs.lemmas.mark_attributes.Belonging.{facts_here}
use Rattle.mark_dependencies.proofs.mark_attributes.needs.add_at.Goals as goal

pub returns : goal.returns
returns c =
    let asm = c.in-Some.asm in
    let site = c.in_ok-reader.reader.site in
    c.in_ok-add_attributes.ensures
    ∙ ap (λ (fs : List Fact). c.args.facts.now ++ fs)
    (facts_here (all_of c.args.marker.now) c.args.item c.args.at (recs_in site) (place_in site) (rec_in site) (rec_of asm)
    (ap (λ (m : Marker). all_of m) c.in_ok-reader.ensures.marker)
    (ap (λ (x : Assembly). place_of x) c.in_ok-reader.ensures.asm ∙ c.in-Some.ensures.is.place)
    (ap (λ (x : Assembly). rec_of x) c.in_ok-reader.ensures.asm)
    (sym c.in-Some.ensures.there))
