-- Texts of which the first one is longer.
use Rattle.std.proofs.Common.{◌≡◌, refl, ℕ, ◌<◌, List, [], ◌∷◌, length, drop, arith}
use Rattle.std.specs.Prelude.{pos}
use Rattle.std.proofs.lemmas.List.{drop_more}
use Rattle.rules.specs.step_rules.CoreTexts.{units_order}

pub longer : (us : List ℕ) (i : ℕ) (left : List ℕ) → i < length us → length left < 1 → units_order (drop i us) left ≡ pos 1
unfolding units_order
longer us i [] h k = rw (drop_more us i 0 h) refl
longer us i (v ∷ vs) h k = absurd (omega (arith, k))
