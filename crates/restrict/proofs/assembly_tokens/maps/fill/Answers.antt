use Rattle.std.proofs.Common.{ℕ, subst}
use Rattle.merge_plan.specs.moved_parts.Moves.{new_token}
use Rattle.token_keys.specs.absent_types.Rows.{NamesRow}
use Rattle.token_keys.proofs.lemmas.type_numbers.Filling.{filled_none, filled_more}
use Rattle.restrict.specs.assembly_tokens.Tokens.{moved_by}
use Rattle.restrict.proofs.assembly_tokens.maps.fill.Goals as goal

pub loop-k-init : goal.loop-k-init
loop-k-init c = λ q. filled_none (moved_by c.args.stand c.args.moving.now) (new_token c.args.map.now) c.args.table q

pub loop-k-preserved : goal.loop-k-preserved
loop-k-preserved c =
    let names : NamesRow c.args.table c.loop-k.k c.in_ok-token.token = subst (λ (k : ℕ). NamesRow c.args.table k c.in_ok-token.token) c.in_ok-row.ensures c.in_ok-token.ensures in
    filled_more c.args.table c.loop-k.k c.in_ok-token.token names (moved_by c.args.stand c.args.moving.now) (new_token c.args.map.now) (new_token c.loop-k.map) (new_token c.set.new.self)
    c.in_ok-new.new c.in_ok-new.ensures c.loop-k.invariant c.in_ok-set.ensures
