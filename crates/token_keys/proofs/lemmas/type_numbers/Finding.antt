-- The first of two numbers that isn't 0.
use Rattle.std.proofs.Common.{◌≡◌, ℕ, zero, suc, List, refl, ap, ◌∙◌}
use Rattle.il_base.specs.declared.world_model.record.AsmRec.{AsmRec}
use Rattle.rules.specs.link_rules.Signatures.{named_type}
use Rattle.rules.specs.merge_rules.Keys.{number_of, absent_number, found_or, class_number}

found_there : (n other : ℕ) → (n ≡ 0 → ⊥) → n ≡ found_or n other
found_there zero other ne = absurd (ne refl)
found_there (suc n) other ne = refl

pub class_there : (recs : List AsmRec) (a : ℕ) (rec : AsmRec) (token n : ℕ) → n ≡ number_of recs (named_type recs a rec token) → (n ≡ 0 → ⊥) → n ≡ class_number recs a rec token
unfolding class_number
class_there recs a rec token n is ne = found_there n (absent_number recs a token) ne ∙ ap (λ (m : ℕ). found_or m (absent_number recs a token)) is
