use Rattle.std.proofs.Common.{◌∙◌}
use Rattle.token_keys.specs.Keys.{recs_of, place_of, rec_of}
use Rattle.token_keys.proofs.sigs.world_sig.Goals as goal

pub returns : goal.returns
returns c =
    let k = c.args.keys.now in
    c.in_ok-moved.ensures ∙ (c.signatures_tell.ensures.signatures.worlds (recs_of k) (place_of k) (rec_of k) k.numbers.now c.requires.numbers).sigs c.args.sig.now
