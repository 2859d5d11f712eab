use Rattle.std.proofs.Common.{◌≡◌, drop}
use Rattle.std.specs.List.{flat_map}
use Rattle.rules.specs.mark_rules.Annotations.{or_zero}
use Rattle.attribute_values.specs.attribute_kinds.Sites.{recs_in, place_in, rec_in}
use Rattle.site_kinds.specs.annotation_flags.Slots.{numbered_at}
use Rattle.site_kinds.proofs.annotation_flags.generic.first_numbered.Given as goal

abbrev pub invariant-loop-k : goal.invariant-loop-k
invariant-loop-k l =
    or_zero (flat_map (numbered_at (recs_in l.reader.site) (place_in l.reader.site) (rec_in l.reader.site) l.n) (drop l.k-index l.rows))
    ≡ or_zero (flat_map (numbered_at (recs_in l.reader.site) (place_in l.reader.site) (rec_in l.reader.site) l.n) l.rows)
