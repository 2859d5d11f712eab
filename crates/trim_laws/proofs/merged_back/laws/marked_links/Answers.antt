use Rattle.trim_laws.proofs.merged_back.laws.marked_links.Goals as goal

pub returns : goal.returns
returns c = λ m entry roots k kept is flags reads. c.left_links.ensures m k kept is.merge flags reads (c.enclosers_stay.ensures m entry roots is)
