use Rattle.std.proofs.Common.{◌++◌, List, ap, ◌∙◌}
use Rattle.rules.specs.merge_rules.Order.{Met}
use Rattle.token_keys.specs.Keys.{recs_of, place_of, rec_of}
use Rattle.restrict.proofs.lemmas.met_order.Owning.{bounds_grouped}
use Rattle.restrict.proofs.met_order.constraints.meet_bounds_of.Goals as goal

pub returns : goal.returns
returns c =
    let k = c.args.keys.now in
    c.in_ok-meet_bounds.ensures
    ∙ ap (λ (xs : List Met). c.args.mets.now ++ xs)
    (bounds_grouped (recs_of k) (place_of k) (rec_of k) k.asm.owners.now.constraints c.requires.asm.owners.constraints c.args.k c.in_ok-token.token c.in_ok-token.ensures c.rows_with-rows.result.now
    c.rows_with-rows.ensures)
