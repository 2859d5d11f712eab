use Rattle.std.proofs.Common.{sym, ◌∙◌, subst}
use Rattle.std.specs.List.{AllZip}
use Rattle.type_tables.proofs.lemmas.member_search.Zips.{zip_as_long, zip_at}
use Rattle.type_tables.specs.declared.groups.Groups.{Groups}
use Rattle.mark_parts.specs.mark_tables.Assemblies.{all_of, rec_of}
use Rattle.descriptor_texts.specs.nested_types.Nested.{AreNestedIn}
use Rattle.descriptor_texts.proofs.lemmas.nested_types.Nesting.{nested_grouped}
use Rattle.descriptor_texts.proofs.nested_types.nested.NestedTypes.nested_in.Goals as goal

pub bounds-made-asm : goal.bounds-made-asm
bounds-made-asm c =
    rw c.as_slice-made.ensures.value
    (zip_as_long AreNestedIn (all_of c.args.marker.now) c.args.self.now.groups.items c.requires.nested c.args.at.asm (rec_of c.in-Some.here) (sym c.in-Some.ensures.there))

pub returns : goal.returns
returns c =
    let all : AllZip AreNestedIn (all_of c.args.marker.now) c.as_slice-made.result.now = rw c.as_slice-made.ensures.value c.requires.nested in
    let own = subst (λ (g : Groups). AreNestedIn (rec_of c.in-Some.here) g) (sym c.index-made-asm.is)
    (zip_at AreNestedIn (all_of c.args.marker.now) c.as_slice-made.result.now all c.args.at.asm (rec_of c.in-Some.here) c.index-made-asm.result (sym c.in-Some.ensures.there)) in
    c.in_ok-rows.ensures ∙ nested_grouped (all_of c.args.marker.now) c.args.at (rec_of c.in-Some.here) (sym c.in-Some.ensures.there) c.index-made-asm.result own c.rows_with-types.result.now c.rows_with-types.ensures
