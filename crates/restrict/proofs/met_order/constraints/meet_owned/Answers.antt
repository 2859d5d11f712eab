use Rattle.std.proofs.Common.{◌++◌, List, ap, ◌∙◌}
use Rattle.rules.specs.merge_rules.Order.{Met}
use Rattle.token_keys.specs.Keys.{recs_of, place_of, rec_of}
use Rattle.restrict.proofs.lemmas.met_order.Owning.{params_grouped}
use Rattle.restrict.proofs.met_order.constraints.meet_owned.Goals as goal

pub returns : goal.returns
returns c =
    let k = c.args.keys.now in
    c.in_ok-meet_params.ensures
    ∙ ap (λ (xs : List Met). c.args.mets.now ++ xs)
    (params_grouped (recs_of k) (place_of k) (rec_of k) k.asm.owners.now.params c.requires.asm.owners.params c.args.owner c.rows_with-rows.result.now c.rows_with-rows.ensures)
