use Rattle.std.proofs.Common.{◌≡◌, ◌++◌, map, drop}
use Rattle.rules.specs.merge_rules.Keys.{world_sigs}
use Rattle.rules.specs.merge_rules.Order.{met_sig}
use Rattle.token_keys.specs.Keys.{recs_of, place_of, rec_of}
use Rattle.restrict.proofs.met_parts.sigs.meet_all.Given as goal

abbrev pub invariant-loop-sig : goal.invariant-loop-sig
invariant-loop-sig l =
    l.mets ++ map met_sig (world_sigs (recs_of l.keys) (place_of l.keys) (rec_of l.keys) (drop l.sig-index l.sigs))
    ≡ l.initial.mets ++ map met_sig (world_sigs (recs_of l.keys) (place_of l.keys) (rec_of l.keys) l.sigs)
