use Rattle.std.proofs.Common.{sym, ap, ◌∙◌}
use Rattle.rules.specs.link_rules.Cycles.{listed}
use Rattle.mark_parts.specs.mark_tables.Assemblies.{recs_of, place_of, rec_of}
use Rattle.mark_roots.proofs.Fitting.{no_field_text}
use Rattle.mark_roots.proofs.fields.has_text.Goals as goal

pub has_text_with-requires-clause-ty : goal.has_text_with-requires-clause-ty
has_text_with-requires-clause-ty c = ap listed (sym c.in-Some.is) ∙ c.in_ok-found.ensures

pub returns-in-None : goal.returns-in-None
returns-in-None c =
    no_field_text (recs_of c.args.asm.now) (place_of c.args.asm.now) (rec_of c.args.asm.now) c.args.r.now c.args.t c.args.f.now (ap listed (sym c.in-None.is) ∙ c.in_ok-found.ensures)
