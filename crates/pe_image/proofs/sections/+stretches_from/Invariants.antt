use Rattle.pe_image.proofs.sections.+stretches_from.Given as goal

abbrev pub decreases-stretches_from : goal.decreases-stretches_from
decreases-stretches_from l = l.count
