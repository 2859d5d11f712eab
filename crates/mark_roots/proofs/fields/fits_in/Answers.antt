use Rattle.mark_parts.specs.mark_tables.Assemblies.{recs_of, rec_of}
use Rattle.mark_roots.proofs.Fitting.{field_fits_one, field_fits_none}
use Rattle.mark_roots.proofs.fields.fits_in.Goals as goal

pub returns-in_ok-fits-in-Some : goal.returns-in_ok-fits-in-Some
returns-in_ok-fits-in-Some c =
    field_fits_one (recs_of c.args.asm.now) c.args.r.now c.args.t c.args.at (rec_of c.args.asm.now) c.in-Some.f.now c.in_ok-fits-in-Some.fits c.in-Some.ensures.value c.in_ok-fits-in-Some.ensures

pub returns-in-None : goal.returns-in-None
returns-in-None c = field_fits_none (recs_of c.args.asm.now) c.args.r.now c.args.t c.args.at (rec_of c.args.asm.now) c.in-None.ensures.value
