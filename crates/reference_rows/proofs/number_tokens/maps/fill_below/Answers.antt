use Rattle.merge_plan.specs.moved_parts.Moves.{new_token}
use Rattle.reference_rows.specs.number_tokens.Numbers.{number_token_by}
use Rattle.reference_rows.proofs.lemmas.number_tokens.Filling.{below_none, filled_below}
use Rattle.reference_rows.proofs.number_tokens.maps.fill_below.Goals as goal

pub loop-k-init : goal.loop-k-init
loop-k-init c = λ q. below_none (number_token_by c.args.tokens.now) (new_token c.args.map.now) q

pub loop-k-preserved : goal.loop-k-preserved
loop-k-preserved c =
    filled_below (number_token_by c.args.tokens.now) (new_token c.args.map.now) (new_token c.loop-k.map) (new_token c.set_number.new.map) c.loop-k.k c.loop-k.invariant c.in_ok-set_number.ensures
