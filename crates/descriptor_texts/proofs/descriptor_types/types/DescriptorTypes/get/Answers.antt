use Rattle.std.proofs.Common.{sym, ap, ◌∙◌, subst}
use Rattle.std.specs.List.{AllZip}
use Rattle.std.specs.Option.{option_map}
use Rattle.rules.specs.link_rules.Types.{at_row}
use Rattle.type_tables.proofs.lemmas.member_search.Zips.{zip_as_long, zip_at}
use Rattle.descriptor_texts.specs.declared.descriptor_types.rows.TypeRows.{TypeRows}
use Rattle.descriptor_texts.specs.descriptor_types.Rows.{AreTypeRows}
use Rattle.descriptor_texts.proofs.lemmas.descriptor_types.First.{type_is, no_type}
use Rattle.descriptor_texts.proofs.descriptor_types.types.DescriptorTypes.get.Goals as goal

pub bounds-made-asm : goal.bounds-made-asm
bounds-made-asm c =
    rw c.as_slice-made.ensures.value (zip_as_long AreTypeRows c.args.all.now c.args.self.now.rows.items c.requires c.args.asm c.in-Some._rec.now (sym c.in-Some.ensures))

pub returns-in_default : goal.returns-in_default
returns-in_default c = sym (no_type c.args.all.now c.args.asm c.args.name.now (sym c.in_default.ensures))

pub returns : goal.returns
returns c =
    let all : AllZip AreTypeRows c.args.all.now c.as_slice-made.result.now = rw c.as_slice-made.ensures.value c.requires in
    let own = subst (λ (r : TypeRows). AreTypeRows c.in-Some._rec.now r) (sym c.index-made-asm.is)
    (zip_at AreTypeRows c.args.all.now c.as_slice-made.result.now all c.args.asm c.in-Some._rec.now c.index-made-asm.result (sym c.in-Some.ensures)) in
    c.placed.ensures ∙ ap (option_map (at_row c.args.asm)) (c.get-row.ensures ∙ own c.args.name.now) ∙ sym (type_is c.args.all.now c.args.asm c.args.name.now c.in-Some._rec.now (sym c.in-Some.ensures))
