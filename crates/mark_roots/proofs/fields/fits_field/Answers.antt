use Rattle.mark_parts.specs.mark_tables.Assemblies.{recs_of, rec_of}
use Rattle.mark_roots.specs.Lookups.{recs_in}
use Rattle.mark_roots.proofs.Fitting.{fits_is, no_rec_fits, names_there}
use Rattle.mark_roots.proofs.fields.fits_field.Goals as goal

pub returns-in_default : goal.returns-in_default
returns-in_default c = no_rec_fits (recs_in c.args.lookup.now) c.args.r.now c.args.t c.args.at c.in_default.ensures.there

pub fits_in-requires-clause-names : goal.fits_in-requires-clause-names
fits_in-requires-clause-names c = names_there c.args.lookup.now.names.now (recs_of c.in-Some.asm) (recs_in c.args.lookup.now) c.in-Some.ensures.is.recs c.requires.names

pub returns : goal.returns
returns c =
    fits_is (recs_in c.args.lookup.now) (recs_of c.in-Some.asm) c.args.r.now c.args.t c.args.at (rec_of c.in-Some.asm) c.in_ok-fits.fits c.in-Some.ensures.there c.in-Some.ensures.is.recs c.in_ok-fits.ensures
