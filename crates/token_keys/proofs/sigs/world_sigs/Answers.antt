use Rattle.std.proofs.Common.{map, ◌∙◌}
use Rattle.il_base.specs.declared.sig.Sig.{Sig}
use Rattle.token_keys.specs.Keys.{recs_of, place_of, rec_of}
use Rattle.token_keys.proofs.sigs.world_sigs.Goals as goal

pub returns : goal.returns
returns c =
    let k = c.args.keys.now in
    let same = c.signatures_tell.ensures.signatures.worlds (recs_of k) (place_of k) (rec_of k) k.numbers.now c.requires.numbers in
    c.in_ok-moved.ensures ∙ (λ i. map (λ (s : Sig). same.sigs s i) c.args.sigs.now)
