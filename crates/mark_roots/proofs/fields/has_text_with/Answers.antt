use Rattle.std.proofs.Common.{ℕ, List, ◌++◌, codes, ap, ◌∙◌}
use Rattle.rules.specs.mark_rules.Roots.{sig_text}
use Rattle.mark_parts.specs.mark_tables.Assemblies.{recs_of, place_of, rec_of}
use Rattle.mark_roots.proofs.Fitting.{compared, field_is}
use Rattle.mark_roots.proofs.fields.has_text_with.Goals as goal

pub field_text-requires : goal.field_text-requires
field_text-requires c = record { asm = c.requires.asm; names = c.requires.names }

pub returns : goal.returns
returns c =
    let asm = c.args.asm.now in
    compared c.eq.result _ _ c.in_ok-text.text c.args.r.now.text c.eq.ensures c.as_slice-2.ensures c.as_slice-3.ensures
    ∙ field_is (recs_of asm) (place_of asm) (rec_of asm) c.args.r.now c.args.t c.args.f.now c.args.ty.now c.in_ok-typ.typ c.in_ok-text.text c.in_ok-typ.ensures c.requires.ty
    (c.in_ok-text.ensures ∙ ap (λ (name : List ℕ). sig_text (recs_of asm) (rec_of asm) (record { type = c.in_ok-typ.typ; method = 0 }) c.args.ty.now ++ codes " " ++ name) c.as_slice.ensures)
