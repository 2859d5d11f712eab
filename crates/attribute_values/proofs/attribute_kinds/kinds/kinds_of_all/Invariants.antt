use Rattle.std.proofs.Common.{◌≡◌, List, ◌++◌, map, drop}
use Rattle.std.specs.Option.{option_map}
use Rattle.attr_blobs.specs.declared.kind.ParamKind.{ParamKind}
use Rattle.rules.specs.mark_rules.Attributes.{kind_of, all_some}
use Rattle.attribute_values.specs.attribute_kinds.Sites.{recs_in, place_in, rec_in}
use Rattle.attribute_values.proofs.attribute_kinds.kinds.kinds_of_all.Given as goal

abbrev pub invariant-loop-sig : goal.invariant-loop-sig
invariant-loop-sig l =
    option_map (λ (ks : List ParamKind). l.kinds ++ ks) (all_some (map (kind_of (recs_in l.site) (place_in l.site) (rec_in l.site)) (drop l.sig-index l.sigs)))
    ≡ all_some (map (kind_of (recs_in l.site) (place_in l.site) (rec_in l.site)) l.sigs)
