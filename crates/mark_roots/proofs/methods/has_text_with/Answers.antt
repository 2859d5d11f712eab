use Rattle.std.proofs.Common.{ℕ, List, sym, ap, ◌∙◌}
use Rattle.il_base.specs.declared.world_model.record.AsmRec.{AsmRec}
use Rattle.rules.specs.mark_rules.Roots as roots
use Rattle.rules.specs.mark_rules.Roots.{method_text, has_method_text}
use Rattle.rules.specs.type_rules.Rows.{rec_at}
use Rattle.rules.specs.link_rules.Cycles.{listed}
use Rattle.mark_parts.specs.mark_tables.Assemblies.{recs_of, rec_of}
use Rattle.descriptor_texts.specs.sig_texts.Spelled.{owners_told}
use Rattle.mark_roots.specs.Lookups.{recs_in}
use Rattle.mark_roots.proofs.Fitting.{compared, any_none, listed_none, text_is, names_there}
use Rattle.mark_roots.proofs.methods.has_text_with.Goals as goal

pub returns-in_default : goal.returns-in_default
returns-in_default c =
    any_none (has_method_text (recs_in c.args.lookup.now) c.args.r.now c.args.t c.args.at c.args.m.now) (listed (rec_at (recs_in c.args.lookup.now) c.args.at))
    (listed_none (rec_at (recs_in c.args.lookup.now) c.args.at) (sym c.in_default.ensures.there))

pub method_text-requires : goal.method_text-requires
method_text-requires c =
    record { asm = c.in-Some.ensures.is.is; names = names_there c.args.lookup.now.names.now (recs_of c.in-Some.asm) (recs_in c.args.lookup.now) c.in-Some.ensures.is.recs c.requires.lookup.names }

pub returns : goal.returns
returns c =
    let recs = recs_in c.args.lookup.now in
    let rec = rec_of c.in-Some.asm in
    let ty = c.args.ty.now in
    let name = c.args.m.now.name in
    compared c.eq.result _ _ c.in_ok-text.text c.args.r.now.text c.eq.ensures c.as_slice-2.ensures c.as_slice-3.ensures
    ∙ text_is recs c.args.r.now c.args.t c.args.at c.args.m.now rec ty c.in_ok-text.text (sym c.in-Some.ensures.there) c.requires.ty
    (c.in_ok-text.ensures
    ∙ ap (λ (n : List ℕ). method_text (recs_of c.in-Some.asm) rec (owners_told c.in_ok-owners.owners) n ty) c.as_slice.ensures
    ∙ ap (λ (rs : List AsmRec). method_text rs rec (owners_told c.in_ok-owners.owners) name ty) c.in-Some.ensures.is.recs
    ∙ ap (λ (o : roots.Owners). method_text recs rec o name ty) c.in_ok-owners.ensures)
