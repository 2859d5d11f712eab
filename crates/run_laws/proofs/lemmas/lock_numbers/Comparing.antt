-- Comparisons, and what else is read of a value, see nothing of new numbers.
use Rattle.std.proofs.Common.{◌≡◌, Bool, Some, refl, ap, ◌∙◌}
use Rattle.il_base.specs.declared.cil_values.value.Value.{Value, out-Value, roll-Value}
use Rattle.il_base.specs.declared.cil_values.value.Value.TheVariants as value
use Rattle.rules.specs.step_rules.Comparisons.{Test, numbers, pointers, compared, compares_either, test}
use Rattle.rules.specs.change_rules.Change.{Change}
use Rattle.rules.specs.change_rules.Moves.{move_path, move_value}
use Rattle.base_laws.proofs.lemmas.change_laws.Same.{same_places_moved}
use Rattle.run_laws.proofs.lemmas.lock_words.Cases.{moved_cases, alike}

module _ (k : Change) where
  numbers_left : (v w : Value) → numbers (move_value k.rho v) w ≡ numbers v w
  unfolding numbers roll-Value denote.Hole.Carrier.roll out-Value denote.Hole.Carrier.out
  numbers_left v w = alike k.rho (λ x. numbers x w) (λ p. refl) (λ e cells. refl) (λ e. refl) (λ f. refl) v

  numbers_right : (v w : Value) → numbers v (move_value k.rho w) ≡ numbers v w
  unfolding numbers roll-Value denote.Hole.Carrier.roll out-Value denote.Hole.Carrier.out
  numbers_right value.Null w = refl
  numbers_right (value.I4 n) w = alike k.rho (numbers (value.I4 n)) (λ p. refl) (λ e cells. refl) (λ e. refl) (λ f. refl) w
  numbers_right (value.I8 n) w = alike k.rho (numbers (value.I8 n)) (λ p. refl) (λ e cells. refl) (λ e. refl) (λ f. refl) w
  numbers_right (value.Native n) w = alike k.rho (numbers (value.Native n)) (λ p. refl) (λ e cells. refl) (λ e. refl) (λ f. refl) w
  numbers_right (value.Object a) w = refl
  numbers_right (value.Pointer p) w = refl
  numbers_right (value.Handle e) w = refl
  numbers_right (value.FieldHandle f) w = refl
  numbers_right v w = refl

  pub numbers_moved : (v w : Value) → numbers (move_value k.rho v) (move_value k.rho w) ≡ numbers v w
  numbers_moved v w = numbers_left v (move_value k.rho w) ∙ numbers_right v w

  pub compared_moved : (v w : Value) → compared (move_value k.rho v) (move_value k.rho w) ≡ compared v w
  unfolding compared roll-Value denote.Hole.Carrier.roll out-Value denote.Hole.Carrier.out
  compared_moved v w =
      moved_cases k.rho (λ x y. compared x (move_value k.rho w) ≡ compared y w)
      (alike k.rho (compared value.Null) (λ p. refl) (λ e cells. refl) (λ e. refl) (λ f. refl) w)
      (λ n. refl) (λ n. refl) (λ n. refl)
      (λ a. alike k.rho (compared (value.Object a)) (λ p. refl) (λ e cells. refl) (λ e. refl) (λ f. refl) w)
      (λ p. moved_cases k.rho (λ x y. compared (value.Pointer (move_path k.rho p)) x ≡ compared (value.Pointer p) y)
      refl (λ n. refl) (λ n. refl) (λ n. refl) (λ a. refl) (λ o. ap (λ (b : Bool). Some (pointers b)) (same_places_moved k.back k.rho k.undone p o))
      (λ e cells. refl) (λ e. refl) (λ f. refl) w)
      (λ e cells. refl) (λ e. refl) (λ f. refl) v

  pub test_moved : (t : Test) (v w : Value) → test t (move_value k.rho v) (move_value k.rho w) ≡ test t v w
  unfolding test
  test_moved t v w = λ i. compares_either t (numbers_moved v w i) (compared_moved v w i)
