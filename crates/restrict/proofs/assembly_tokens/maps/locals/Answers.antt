use Rattle.std.proofs.Common.{◌≡◌, ℕ, length, subst}
use Rattle.std.specs.Prelude.{if◌then◌else◌}
use Rattle.il_base.specs.declared.table.TheConstants.{STAND_ALONE_SIG}
use Rattle.merge_plan.specs.moved_parts.Moves.{new_token}
use Rattle.token_keys.specs.type_numbers.Filled.{covers}
use Rattle.restrict.specs.assembly_tokens.Tokens.{rec_of, locals_by}
use Rattle.restrict.proofs.lemmas.assembly_tokens.Whole.{whole_one}
use Rattle.restrict.proofs.lemmas.assembly_tokens.Unmoved.{no_locals}
use Rattle.restrict.proofs.assembly_tokens.maps.locals.Goals as goal

pub returns : goal.returns
returns c =
    let moving = c.args.moving.now in
    let rec = rec_of moving in
    let f : ℕ → ℕ = locals_by moving in
    whole_one f (new_token c.new-map.result) c.new-map.ensures
    (new_token c.fill.new.map) (covers STAND_ALONE_SIG (length rec.stand_alone_sig))
    (subst (λ (n : ℕ). (q : ℕ) → new_token c.fill.new.map q ≡ (if covers STAND_ALONE_SIG n q then f q else new_token c.new-map.result q)) c.len.ensures c.in_ok-fill.ensures)
    (no_locals moving c.requires)
