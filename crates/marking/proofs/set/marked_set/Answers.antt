use Rattle.marking.proofs.Sets.{starts_below, set_is}
use Rattle.marking.proofs.set.marked_set.Goals as goal

pub least-requires-clause-rules : goal.least-requires-clause-rules
least-requires-clause-rules g c = record {
  marker = c.requires.marker;
  slots = c.requires.slots;
  numbers = c.requires.numbers;
  world = c.requires.world;
  named_recs = c.requires.named;
  below = c.marks_told.ensures.below;
  bring = c.lists_bring.ensures.bring;
  more = c.lists_bring.ensures.more;
}

pub least-requires-clause-roots : goal.least-requires-clause-roots
least-requires-clause-roots g c =
    starts_below c.args.marker.now.tables.world.now c.args.entry (g.N.NamedRules.roots_of c.args.named.now) c.numbers_told.ensures.facts c.requires.marker.tables.world
    c.in_ok-starts.starts c.in_ok-starts.ensures

pub returns : goal.returns
returns g c =
    let w = c.args.marker.now.tables.world.now in
    set_is w c.requires.marker.tables.world c.args.entry (g.N.NamedRules.roots_of c.args.named.now) (c.homes_told.ensures.items w c.requires.marker.tables.world)
    c.lists_bring.ensures.bring c.marks_told.ensures.marks c.in_ok-starts.starts c.in_ok-starts.ensures c.in_ok-set.set c.in_ok-set.ensures.derived
