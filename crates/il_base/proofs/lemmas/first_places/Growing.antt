-- A table that grows by what the function has for the next number.
use Rattle.std.proofs.Common.{◌≡◌, ℕ, zero, suc, List, [], ◌∷◌, ◌++◌, length, Option, refl}
use Rattle.il_base.specs.first_places.Near.{AgreesWith}

pub near_push : (far : ℕ → Option ℕ) (near : List (Option ℕ)) (x : Option ℕ) → AgreesWith far near → x ≡ far (length near) → AgreesWith far (near ++ x ∷ [])
near_push far [] x agrees e zero = e
near_push far [] x agrees e (suc k) = refl
near_push far (y ∷ ys) x agrees e zero = agrees zero
near_push far (y ∷ ys) x agrees e (suc k) = near_push (λ n. far (suc n)) ys x (λ n. agrees (suc n)) e k
