use Rattle.std.proofs.Common.{◌≡◌, ℕ, length, subst}
use Rattle.std.specs.Prelude.{if◌then◌else◌}
use Rattle.il_base.specs.declared.table.TheConstants.{TYPE_REF, TYPE_DEF, TYPE_SPEC}
use Rattle.merge_plan.specs.moved_parts.Moves.{new_token}
use Rattle.token_keys.specs.type_numbers.Filled.{covers}
use Rattle.restrict.specs.assembly_tokens.Tokens.{rec_of, type_by}
use Rattle.restrict.proofs.lemmas.assembly_tokens.Whole.{whole_three}
use Rattle.restrict.proofs.lemmas.assembly_tokens.Unmoved.{no_types}
use Rattle.restrict.proofs.assembly_tokens.maps.types.Goals as goal

pub returns : goal.returns
returns c =
    let moving = c.args.moving.now in
    let rec = rec_of moving in
    let f : ℕ → ℕ = type_by moving in
    whole_three f (new_token c.new-map.result) c.new-map.ensures
    (new_token c.fill.new.map) (covers TYPE_REF (length rec.type_ref))
    (subst (λ (n : ℕ). (q : ℕ) → new_token c.fill.new.map q ≡ (if covers TYPE_REF n q then f q else new_token c.new-map.result q)) c.len.ensures c.in_ok-fill.ensures)
    (new_token c.fill-2.new.map) (covers TYPE_DEF (length rec.type_def))
    (subst (λ (n : ℕ). (q : ℕ) → new_token c.fill-2.new.map q ≡ (if covers TYPE_DEF n q then f q else new_token c.fill.new.map q)) c.len-2.ensures c.in_ok-fill-2.ensures)
    (new_token c.fill-3.new.map) (covers TYPE_SPEC (length rec.type_spec))
    (subst (λ (n : ℕ). (q : ℕ) → new_token c.fill-3.new.map q ≡ (if covers TYPE_SPEC n q then f q else new_token c.fill-2.new.map q)) c.len-3.ensures c.in_ok-fill-3.ensures)
    (no_types moving c.requires)
