use Rattle.std.proofs.Common.{◌≡◌, drop}
use Rattle.std.specs.List.{flat_map}
use Rattle.rules.specs.mark_rules.Attributes.{head_of}
use Rattle.attribute_values.specs.attribute_kinds.Sites.{rec_in}
use Rattle.attribute_values.specs.trimming_attributes.Kinds.{annotation_at}
use Rattle.attribute_values.proofs.trimming_attributes.kinds.kinds_of_first.Given as goal

abbrev pub invariant-loop-k : goal.invariant-loop-k
invariant-loop-k l = head_of (flat_map (annotation_at (rec_in l.reader.site)) (drop l.k-index l.rows)) ≡ head_of (flat_map (annotation_at (rec_in l.reader.site)) l.rows)
