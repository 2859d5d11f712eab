use Rattle.std.proofs.Common.{List, subst}
use Rattle.descriptor_file.specs.declared.root.Root.{Root}
use Rattle.mark_roots.specs.Lookups.{recs_in}
use Rattle.marking.specs.Holding.{IsMarked}
use Rattle.program_marks.proofs.needs.marked_by.Goals as goal

pub returns : goal.returns
returns c = subst (λ (roots : List Root). IsMarked (recs_in c.args.lookup) c.args.entry roots c.in_ok-marked.marked) c.in_ok-named.ensures.roots c.in_ok-marked.ensures
