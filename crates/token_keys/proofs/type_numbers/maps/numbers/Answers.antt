use Rattle.std.proofs.Common.{◌≡◌, ℕ, subst}
use Rattle.std.specs.Prelude.{if◌then◌else◌}
use Rattle.mark_parts.specs.mark_tables.Assemblies.{recs_of, place_of, rec_of}
use Rattle.merge_plan.specs.moved_parts.Moves.{new_token}
use Rattle.token_keys.specs.type_numbers.Filled.{covers, number_by}
use Rattle.token_keys.proofs.lemmas.type_numbers.Whole.{whole, none_else}
use Rattle.token_keys.proofs.type_numbers.maps.numbers.Goals as goal

pub returns : goal.returns
returns c =
    let asm = c.args.asm.now in
    let f : ℕ → ℕ = number_by c.args.stand (recs_of asm) (place_of asm) (rec_of asm) in
    whole f (rec_of asm) (new_token c.new-map.result) (new_token c.fill.new.map) (new_token c.fill-2.new.map) c.new-map.ensures
    (subst (λ (n : ℕ). (q : ℕ) → new_token c.fill.new.map q ≡ (if covers 1 n q then f q else new_token c.new-map.result q)) c.len.ensures c.in_ok-fill.ensures)
    (subst (λ (n : ℕ). (q : ℕ) → new_token c.fill-2.new.map q ≡ (if covers 2 n q then f q else new_token c.fill.new.map q)) c.len-2.ensures c.in_ok-fill-2.ensures)
    (none_else c.args.stand (recs_of asm) (place_of asm) (rec_of asm) c.requires.asm.scope.here)
