use Rattle.std.proofs.Common.{Option, sym, subst}
use Rattle.rules.specs.mark_rules.Facts.Fact.{marked}
use Rattle.rules.specs.mark_rules.Marking.{Marks}
use Rattle.rules.specs.mark_rules.BadItems.{Flaw, IsFirstFlaw}
use Rattle.mark_numbers.specs.Numbers.{is_there}
use Rattle.bad_items.specs.Programs.{world_in, has}
use Rattle.bad_items.proofs.first.first_bad.Goals as goal

pub returns : goal.returns
unfolding is_there
returns c there roots is =
    let w = world_in c.args.program.now in
    subst (λ (f : Option Flaw). IsFirstFlaw w.recs c.args.entry (Marks w.recs c.args.entry roots) f) (sym c.in_ok-first.ensures)
    (c.flaws_told.ensures.first w c.requires.marker.tables.world there c.args.entry roots (has c.args.program.now) (λ i at. is (marked i) at))
