use Rattle.std.proofs.Common.{ℕ, subst}
use Rattle.mark_parts.specs.mark_tables.Assemblies.{recs_of, place_of, rec_of}
use Rattle.merge_plan.specs.moved_parts.Moves.{new_token}
use Rattle.token_keys.specs.absent_types.Rows.{NamesRow}
use Rattle.token_keys.specs.type_numbers.Filled.{number_by}
use Rattle.token_keys.proofs.lemmas.type_numbers.Filling.{filled_none, filled_more}
use Rattle.token_keys.proofs.type_numbers.maps.fill.Goals as goal

pub loop-k-init : goal.loop-k-init
loop-k-init c =
    let asm = c.args.asm.now in
    λ q. filled_none (number_by c.args.stand (recs_of asm) (place_of asm) (rec_of asm)) (new_token c.args.map.now) c.args.table q

pub loop-k-preserved : goal.loop-k-preserved
loop-k-preserved c =
    let asm = c.args.asm.now in
    let names : NamesRow c.args.table c.loop-k.k c.in_ok-token.token = subst (λ (k : ℕ). NamesRow c.args.table k c.in_ok-token.token) c.in_ok-row.ensures c.in_ok-token.ensures in
    filled_more c.args.table c.loop-k.k c.in_ok-token.token names (number_by c.args.stand (recs_of asm) (place_of asm) (rec_of asm)) (new_token c.args.map.now) (new_token c.loop-k.map)
    (new_token c.set.new.self) c.in_ok-number.number c.in_ok-number.ensures c.loop-k.invariant c.in_ok-set.ensures
