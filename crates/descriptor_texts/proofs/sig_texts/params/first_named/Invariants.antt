use Rattle.std.proofs.Common.{◌≡◌, drop}
use Rattle.std.specs.List.{flat_map}
use Rattle.rules.specs.mark_rules.Roots.{first_text}
use Rattle.descriptor_texts.specs.sig_texts.Params.{named_at}
use Rattle.descriptor_texts.proofs.sig_texts.params.first_named.Given as goal

abbrev pub invariant-loop-k : goal.invariant-loop-k
invariant-loop-k l = first_text (flat_map (named_at l.rec l.n) (drop l.k-index l.rows)) ≡ first_text (flat_map (named_at l.rec l.n) l.rows)
