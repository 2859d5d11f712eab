use Rattle.std.proofs.Common.{List, ℕ, ◌++◌, ap, ◌∙◌, map-id}
use Rattle.rules.specs.type_rules.Texts.{joined}
use Rattle.type_names.proofs.Joining.{one_more, all_joined}
use Rattle.descriptor_texts.proofs.doc_texts.names.put_joined.Goals as goal

pub loop-i-preserved : goal.loop-i-preserved
loop-i-preserved c =
    one_more (λ (t : List ℕ). t) c.args.texts.now c.loop-i.i _ _ _ _ _ c.loop-i-test.true c.index-texts-i.is c.in_ok-put_separator.ensures (c.in_ok-extend_from_slice.ensures.ok ∙ ap (λ (t : List ℕ). c.put_separator.new.out ++ t) c.as_slice.ensures) c.loop-i.invariant

pub returns : goal.returns
returns c =
    all_joined (λ (t : List ℕ). t) c.args.texts.now c.loop-i.i _ _ c.loop-i-test.false c.loop-i.invariant
    ∙ ap (λ (ts : List (List ℕ)). c.args.out.now ++ joined ts) (map-id c.args.texts.now)
