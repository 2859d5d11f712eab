use Rattle.std.proofs.Common.{◌≡◌, ℕ, ◌++◌, List, sym, ap, ◌∙◌}
use Rattle.std.specs.Prelude.{Option, Some, slice_get}
use Rattle.il_base.specs.declared.world_model.record.AsmRec.{AsmRec}
use Rattle.mark_parts.specs.mark_tables.Assemblies.{all_of, place_of, rec_of}
use Rattle.attribute_values.specs.enum_names.Enums.{enums_in}
use Rattle.attribute_values.proofs.enum_names.enums.add_assembly_at.Goals as goal

pub returns-in_default : goal.returns-in_default
returns-in_default c = λ rec h.
    let there = c.in_default.ensures.there in
    let place = c.in_ok-place.ensures in
    cc

pub returns : goal.returns
returns c = λ rec h.
    let recs = all_of c.args.marker.now in
    let asm = c.in-Some.asm in
    let place : place_of asm ≡ c.args.a = c.in-Some.ensures.is.place ∙ c.in_ok-place.ensures in
    let there : Some (rec_of asm) ≡ Some rec = c.in-Some.ensures.there ∙ ap (λ (n : ℕ). slice_get recs n) c.in_ok-place.ensures ∙ h in
    let own : rec_of asm ≡ rec = cc in
    c.in_ok-add_assembly.ensures
    ∙ ap (λ (n : ℕ). c.args.enums.now ++ enums_in recs c.args.from n (rec_of asm)) place
    ∙ ap (λ (r : AsmRec). c.args.enums.now ++ enums_in recs c.args.from c.args.a r) own
