use Rattle.std.proofs.Common.{◌≡◌, List, [], ◌++◌, append_assoc}
use Rattle.rules.specs.site_rules.Types.{parts_in_type}
use Rattle.requirements.proofs.item_sites.types.parts_in_type.Goals as goal

six_put : {A : Type 0} (a b c d e f n₀ n₁ n₂ n₃ n₄ n₅ n₆ : List A) → n₀ ≡ [] → n₁ ≡ n₀ ++ a → n₂ ≡ n₁ ++ b → n₃ ≡ n₂ ++ c → n₄ ≡ n₃ ++ d → n₅ ≡ n₄ ++ e → n₆ ≡ n₅ ++ f
    → n₆ ≡ a ++ (b ++ (c ++ (d ++ (e ++ f))))
six_put a b c d e f n₀ n₁ n₂ n₃ n₄ n₅ n₆ e₀ e₁ e₂ e₃ e₄ e₅ e₆ = rw (e₆, e₅, e₄, e₃, e₂, e₁, e₀) (simp append_assoc)

pub returns : goal.returns
unfolding parts_in_type
returns c =
    six_put _ _ _ _ _ _ _ _ _ _ _ _ _ c.new-parts.ensures c.in_ok-add_base.ensures c.in_ok-add_fields.ensures c.in_ok-add_impls.ensures c.in_ok-add_properties.ensures c.in_ok-add_events.ensures
    c.in_ok-add_bodiless.ensures
