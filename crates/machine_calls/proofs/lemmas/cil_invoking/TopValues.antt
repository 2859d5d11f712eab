-- Values taken off a stack.
use Rattle.std.proofs.Common.{◌≡◌, ℕ, ◌-◌, ◌<◌, ◌≤◌, List, ◌++◌, length, take, drop, reverse, Some, None, refl, sym, ap, ◌∙◌, length-drop, le-leb}
use Rattle.std.proofs.lemmas.List.{reverse-append, reverse-reverse, length-reverse, take-append-drop}
use Rattle.std.proofs.lemmas.Bool.{lt-leb}
use Rattle.std.proofs.Math.Seq.{drop-append_seam, take-append_seam}
use Rattle.il_base.specs.declared.cil_values.value.Value.{Value}
use Rattle.rules.specs.step_rules.Words.{taken}

module _ {X : Type 0} (n : ℕ) (xs : List X) where
  joined : reverse xs ≡ reverse (drop n xs) ++ reverse (take n xs)
  joined = sym (ap reverse (take-append-drop n xs)) ∙ reverse-append (take n xs) (drop n xs)

  left_of : length xs - n ≡ length (reverse (drop n xs))
  left_of = sym (length-reverse (drop n xs) ∙ length-drop n xs)

  -- the last of the reversed list
  pub top_values : drop (length xs - n) (reverse xs) ≡ reverse (take n xs)
  top_values = ap (λ k. drop k (reverse xs)) left_of ∙ ap (drop (length (reverse (drop n xs)))) joined ∙ drop-append_seam (reverse (drop n xs)) (reverse (take n xs))

  front_values : take (length xs - n) (reverse xs) ≡ reverse (drop n xs)
  front_values = ap (λ k. take k (reverse xs)) left_of ∙ ap (take (length (reverse (drop n xs)))) joined ∙ take-append_seam (reverse (drop n xs)) (reverse (take n xs))

  -- the first of it, turned round
  pub values_below : reverse (take (length xs - n) (reverse xs)) ≡ drop n xs
  values_below = ap reverse front_values ∙ reverse-reverse (drop n xs)

module _ (n : ℕ) (xs : List Value) where
  pub taken_split : n ≤ length xs → taken n xs ≡ Some (drop (length xs - n) (reverse xs), reverse (take (length xs - n) (reverse xs)))
  unfolding taken
  taken_split h = rw (le-leb n (length xs) h, top_values n xs, values_below n xs) refl

  pub taken_none : length xs < n → taken n xs ≡ None
  unfolding taken
  taken_none h = rw (lt-leb n (length xs) h) refl
