use Rattle.std.proofs.Common.{◌≡◌, ◌-◌}
use Rattle.std.specs.List.{flat_map, range_with_len}
use Rattle.rules.specs.mark_rules.Attributes.{head_of}
use Rattle.site_kinds.specs.annotation_flags.Slots.{token_here}
use Rattle.site_kinds.proofs.annotation_flags.slots.token_between.Given as goal

abbrev pub invariant-loop-k : goal.invariant-loop-k
invariant-loop-k l =
    head_of (flat_map (token_here l.rec l.sequence) (range_with_len l.k (l.end - l.k))) ≡ head_of (flat_map (token_here l.rec l.sequence) (range_with_len l.start (l.end - l.start)))
