-- What holds of each item of a list, and stays so as the items lead on.
use Rattle.std.proofs.Common.{ℕ, zero, suc, Bool, true, false, List, [], ◌∷◌, ◌++◌}
use Rattle.std.specs.Prelude.{if◌then◌else◌}
use Rattle.std.specs.List.{list_any, flat_map}
use Rattle.rules.specs.link_rules.Cycles.{add_new, add_all, led_to}

abbrev pub Each : {A : Type 0} → (A → Type 0) → List A → Type 0
Each P [] = Unit {0}
Each P (x ∷ xs) = P x × Each P xs

module _ {A : Type 0} (P : A → Type 0) where
  pub each_append : (xs ys : List A) → Each P xs → Each P ys → Each P (xs ++ ys)
  each_append [] ys e f = f
  each_append (x ∷ xs) ys e f = (e.0, each_append xs ys e.1 f)

  pub each_one : (x : A) → P x → Each P (x ∷ [])
  each_one x p = (p, tt)

  pub each_flat : {B : Type 0} (f : B → List A) (xs : List B) → ((x : B) → Each P (f x)) → Each P (flat_map f xs)
  each_flat f [] h = tt
  each_flat f (x ∷ xs) h = each_append (f x) (flat_map f xs) (h x) (each_flat f xs h)

  pub each_next : (next : A → List A) (xs : List A) → ((x : A) → P x → Each P (next x)) → Each P xs → Each P (flat_map next xs)
  each_next next [] h e = tt
  each_next next (x ∷ xs) h e = each_append (next x) (flat_map next xs) (h x e.0) (each_next next xs h e.1)

  module _ (same : A → A → Bool) where
    each_new_by : (xs : List A) (x : A) (b : Bool) → Each P xs → P x → Each P (if b then xs else xs ++ x ∷ [])
    each_new_by xs x true e p = e
    each_new_by xs x false e p = each_append xs (x ∷ []) e (each_one x p)

    pub each_new : (xs : List A) (x : A) → Each P xs → P x → Each P (add_new same xs x)
    each_new xs x = each_new_by xs x (list_any (same x) xs)

    pub each_added : (xs ys : List A) → Each P xs → Each P ys → Each P (add_all same xs ys)
    each_added xs [] e f = e
    each_added xs (y ∷ ys) e f = each_added (add_new same xs y) ys (each_new xs y e f.0) f.1

    pub each_led : (next : A → List A) (n : ℕ) (xs : List A) → ((x : A) → P x → Each P (next x)) → Each P xs → Each P (led_to same next n xs)
    unfolding led_to
    each_led next zero xs h e = e
    each_led next (suc n) xs h e = each_led next n (add_all same xs (flat_map next xs)) h (each_added xs (flat_map next xs) e (each_next next xs h e))
