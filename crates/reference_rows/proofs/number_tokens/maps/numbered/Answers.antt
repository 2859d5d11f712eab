use Rattle.std.proofs.Common.{◌≡◌, ℕ, List, subst}
use Rattle.std.specs.Prelude.{if◌then◌else◌}
use Rattle.il_base.specs.declared.ids.TypeId.{TypeId}
use Rattle.merge_plan.specs.moved_parts.Moves.{new_token}
use Rattle.reference_rows.specs.number_tokens.Numbers.{number_token_by, is_among}
use Rattle.reference_rows.proofs.lemmas.number_tokens.Filling.{whole}
use Rattle.reference_rows.proofs.lemmas.number_tokens.Unset.{others}
use Rattle.reference_rows.proofs.number_tokens.maps.numbered.Goals as goal

pub returns : goal.returns
returns c =
    let t = c.args.tokens.now in
    let f : ℕ → ℕ = number_token_by t in
    whole f (new_token c.new-map.result) (new_token c.fill_below.new.map) (new_token c.fill_with.new.map) t.scopes.now.references.types t.refs.now c.new-map.ensures c.in_ok-fill_below.ensures
    (subst (λ (ids : List TypeId). (q : ℕ) → new_token c.fill_with.new.map q ≡ (if is_among ids q then f q else new_token c.fill_below.new.map q)) c.firsts.ensures c.in_ok-fill_with.ensures)
    (others t t.scopes.now.references.types c.requires.scopes.references.types)
