-- Where texts stand in `#US` while more of them are met.
use Rattle.std.proofs.Common.{◌≡◌, ℕ, ◌+◌, ◌%◌, Bool, true, false, cond, List, [], ◌∷◌, ◌++◌, length, Option, Some, None, refl, sym, ap, ◌∙◌, inl, inr, ◌⊎◌, arith}
use Rattle.std.specs.Prelude.{nat_eq, bytes_eq, is_some, unwrap_or, ◌||◌}
use Rattle.std.specs.List.{list_any}
use Rattle.std.proofs.lemmas.Bool.{cases_eq, ne_eqb, eq-eqb}
use Rattle.rules.specs.file_layout.Interning.{place_among}
use Rattle.rules.specs.file_layout.Heaps.{user_item, user_place}
use Rattle.merged_tables.specs.merged_texts.Texts.{text_number}

nat_eq_sym : (x y : ℕ) → nat_eq x y ≡ nat_eq y x
nat_eq_sym x y = by_case (cases_eq x y)
  where
    by_case : (x ≡ y) ⊎ (x ≡ y → ⊥) → nat_eq x y ≡ nat_eq y x
    by_case (inl e) = eq-eqb x y e ∙ sym (eq-eqb y x (sym e))
    by_case (inr ne) = ne_eqb x y ne ∙ sym (ne_eqb y x (λ e. ne (sym e)))

pub bytes_eq_sym : (xs ys : List ℕ) → bytes_eq xs ys ≡ bytes_eq ys xs
bytes_eq_sym [] [] = refl
bytes_eq_sym [] (y ∷ ys) = refl
bytes_eq_sym (x ∷ xs) [] = refl
bytes_eq_sym (x ∷ xs) (y ∷ ys) = rw (nat_eq_sym x y, bytes_eq_sym xs ys) refl

-- one text more: the places of those that are there stay
place_push : (at : ℕ) (xs : List (List ℕ)) (y q : List ℕ)
    → place_among user_item at (xs ++ y ∷ []) q ≡ cond (list_any (bytes_eq q) xs) (place_among user_item at xs q) (cond (bytes_eq y q) (place_among user_item at xs q) (place_among user_item at xs q + length (user_item y)))
unfolding place_among
place_push at [] y q = refl
place_push at (x ∷ xs) y q = first (bytes_eq x q) refl (place_push (at + length (user_item x)) xs y q)
  where
    first : (b : Bool) → bytes_eq x q ≡ b
        → place_among user_item (at + length (user_item x)) (xs ++ y ∷ []) q
        ≡ cond (list_any (bytes_eq q) xs) (place_among user_item (at + length (user_item x)) xs q)
        (cond (bytes_eq y q) (place_among user_item (at + length (user_item x)) xs q) (place_among user_item (at + length (user_item x)) xs q + length (user_item y)))
        → place_among user_item at ((x ∷ xs) ++ y ∷ []) q
        ≡ cond (list_any (bytes_eq q) (x ∷ xs)) (place_among user_item at (x ∷ xs) q)
        (cond (bytes_eq y q) (place_among user_item at (x ∷ xs) q) (place_among user_item at (x ∷ xs) q + length (user_item y)))
    first true e h = rw (bytes_eq_sym q x, e) refl
    first false e h = rw (bytes_eq_sym q x, e) h

number_push : (xs : List (List ℕ)) (y q : List ℕ)
    → text_number (xs ++ y ∷ []) q ≡ cond (list_any (bytes_eq q) xs) (text_number xs q) (cond (bytes_eq y q) (text_number xs q) ((text_number xs q + length (user_item y)) % 4294967296))
unfolding user_place
number_push xs y q =
    ap (λ (n : ℕ). (0x70000000 + n) % 4294967296) (place_push 1 xs y q)
    ∙ by_case (list_any (bytes_eq q) xs) (bytes_eq y q) (place_among user_item 1 xs q) (length (user_item y))
  where
    by_case : (a b : Bool) (p n : ℕ) → (0x70000000 + cond a p (cond b p (p + n))) % 4294967296 ≡ cond a ((0x70000000 + p) % 4294967296) (cond b ((0x70000000 + p) % 4294967296) (((0x70000000 + p) % 4294967296 + n) % 4294967296))
    by_case true b p n = refl
    by_case false true p n = refl
    by_case false false p n = omega arith

list_any_push : (xs : List (List ℕ)) (y q : List ℕ) → list_any (bytes_eq q) (xs ++ y ∷ []) ≡ (list_any (bytes_eq q) xs || bytes_eq y q)
list_any_push [] y q = by_case (bytes_eq q y) (bytes_eq y q) (bytes_eq_sym q y)
  where
    by_case : (a b : Bool) → a ≡ b → (a || false) ≡ b
    by_case true b e = e
    by_case false b e = e
list_any_push (x ∷ xs) y q = by_case (bytes_eq q x) (list_any_push xs y q)
  where
    by_case : (a : Bool) → list_any (bytes_eq q) (xs ++ y ∷ []) ≡ (list_any (bytes_eq q) xs || bytes_eq y q) → (a || list_any (bytes_eq q) (xs ++ y ∷ [])) ≡ (a || list_any (bytes_eq q) xs || bytes_eq y q)
    by_case true h = refl
    by_case false h = h

pub same_bytes : (xs ys : List ℕ) → bytes_eq xs ys ≡ true → xs ≡ ys
same_bytes [] [] e = refl
same_bytes [] (y ∷ ys) e = cc
same_bytes (x ∷ xs) [] e = cc
same_bytes (x ∷ xs) (y ∷ ys) e = by_case (cases_eq x y) (same_bytes xs ys)
  where
    by_case : (x ≡ y) ⊎ (x ≡ y → ⊥) → (bytes_eq xs ys ≡ true → xs ≡ ys) → x ∷ xs ≡ y ∷ ys
    by_case (inl same) rest = let tail : bytes_eq xs ys ≡ true = rw (eq-eqb x y same) at e in let behind = rest tail in cc
    by_case (inr ne) rest = let never : false ≡ true = rw (ne_eqb x y ne) at e in cc

-- a new text at the end: which texts there are, and their places
pub push_met : (xs : List (List ℕ)) (y q : List ℕ) (o : Option ℕ) (end : ℕ) → is_some o ≡ list_any (bytes_eq q) xs
    → is_some (cond (bytes_eq y q) (Some end) o) ≡ list_any (bytes_eq q) (xs ++ y ∷ [])
push_met xs y q o end there = by_case (bytes_eq y q) refl ∙ sym (list_any_push xs y q)
  where
    or_true : (a : Bool) → true ≡ (a || true)
    or_true true = refl
    or_true false = refl

    or_false : (a : Bool) → a ≡ (a || false)
    or_false true = refl
    or_false false = refl

    by_case : (b : Bool) → bytes_eq y q ≡ b → is_some (cond (bytes_eq y q) (Some end) o) ≡ (list_any (bytes_eq q) xs || bytes_eq y q)
    by_case true e = rw e (or_true (list_any (bytes_eq q) xs))
    by_case false e = rw e (there ∙ or_false (list_any (bytes_eq q) xs))

pub push_number : (xs : List (List ℕ)) (y q : List ℕ) (o : Option ℕ) (end next : ℕ)
    → list_any (bytes_eq y) xs ≡ false → end ≡ text_number xs y
    → is_some o ≡ list_any (bytes_eq q) xs → unwrap_or o end ≡ text_number xs q → next ≡ (end + length (user_item y)) % 4294967296
    → unwrap_or (cond (bytes_eq y q) (Some end) o) next ≡ text_number (xs ++ y ∷ []) q
push_number xs y q o end next absent last there number behind = by_case (bytes_eq y q) refl o there number ∙ sym (number_push xs y q)
  where
    once : (a : Bool) (t m : ℕ) → t ≡ cond a t (cond true t m)
    once true t m = refl
    once false t m = refl

    placed : (a : Bool) (p : Option ℕ) → is_some p ≡ a → unwrap_or p end ≡ text_number xs q
        → unwrap_or p next ≡ cond a (text_number xs q) (cond false (text_number xs q) ((text_number xs q + length (user_item y)) % 4294967296))
    placed true (Some k) e h = h
    placed false (Some k) e h = cc
    placed true None e h = cc
    placed false None e h = behind ∙ ap (λ (n : ℕ). (n + length (user_item y)) % 4294967296) h

    by_case : (b : Bool) → bytes_eq y q ≡ b → (p : Option ℕ) → is_some p ≡ list_any (bytes_eq q) xs → unwrap_or p end ≡ text_number xs q
        → unwrap_or (cond (bytes_eq y q) (Some end) p) next ≡ cond (list_any (bytes_eq q) xs) (text_number xs q) (cond (bytes_eq y q) (text_number xs q) ((text_number xs q + length (user_item y)) % 4294967296))
    by_case true e p is_there is_number =
        rw e (last ∙ ap (text_number xs) (same_bytes y q e) ∙ once (list_any (bytes_eq q) xs) (text_number xs q) ((text_number xs q + length (user_item y)) % 4294967296))
    by_case false e p is_there is_number = rw e (placed (list_any (bytes_eq q) xs) p is_there is_number)
