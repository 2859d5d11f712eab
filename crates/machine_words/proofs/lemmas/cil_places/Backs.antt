-- Frames by their numbers, from the top.
use Rattle.std.proofs.Common.{◌≡◌, ◌∙◌, refl, sym, ap, ℕ, ◌+◌, ◌-◌, ◌<◌, ◌≤◌, List, [], ◌∷◌, ◌++◌, length, get_or, drop, map, reverse, Bool, true, false}
use Rattle.std.specs.Prelude.{Option, Some, None}
use Rattle.il_base.specs.declared.cil_values.state.State.{State}
use Rattle.il_base.specs.declared.cil_values.frame.Frame.{Frame}
use Rattle.rules.specs.step_rules.Places.{has_number, frame_with, change_frame, with_frame}
use Rattle.std.proofs.lemmas.Bool.{ne_eqb, eq-eqb}
use Rattle.std.specs.List.{find}
use Rattle.std.proofs.lemmas.List.{drop_more, drop_all, length-reverse, get_or-reverse, reverse-append, reverse-reverse}

-- ---- the first from the back that passes a test

abbrev pub from_back : {A : Type 0} → (A → Bool) → List A → ℕ → Option A
from_back test xs i = find test (drop i (reverse xs))

front_back : {A : Type 0} (xs : List A) (i : ℕ) (x : A) → i < length xs → x ≡ get_or xs (length xs - 1 - i) x → drop i (reverse xs) ≡ x ∷ drop (i + 1) (reverse xs)
front_back {A = A} xs i x p e =
    drop_more (reverse xs) i x (rw (length-reverse xs) p) ∙ ap (λ (y : A). y ∷ drop (i + 1) (reverse xs)) (get_or-reverse xs i x p ∙ sym e)

pub passes : {A : Type 0} (test : A → Bool) (xs : List A) (i : ℕ) (x : A) → i < length xs → x ≡ get_or xs (length xs - 1 - i) x → test x ≡ true → from_back test xs i ≡ Some x
passes test xs i x p e h = rw (front_back xs i x p e, h) refl

pub fails : {A : Type 0} (test : A → Bool) (xs : List A) (i : ℕ) (x : A) → i < length xs → x ≡ get_or xs (length xs - 1 - i) x → test x ≡ false → from_back test xs i ≡ from_back test xs (i + 1)
fails test xs i x p e h = rw (front_back xs i x p e, h) refl

pub none_back : {A : Type 0} (test : A → Bool) (xs : List A) (i : ℕ) → length xs ≤ i → from_back test xs i ≡ None
none_back test xs i p = rw (drop_all i (reverse xs) (rw (length-reverse xs) p)) refl

-- ---- all of a stack

map_append : {A : Type 0} (g : A → A) (xs ys : List A) → map g (xs ++ ys) ≡ map g xs ++ map g ys
map_append g [] ys = refl
map_append {A = A} g (x ∷ xs) ys = ap (λ (zs : List A). g x ∷ zs) (map_append g xs ys)

map_reverse : {A : Type 0} (g : A → A) (xs : List A) → map g (reverse xs) ≡ reverse (map g xs)
map_reverse g [] = refl
map_reverse {A = A} g (x ∷ xs) =
    ap (λ (zs : List A). map g zs) (reverse-append (x ∷ []) xs) ∙ map_append g (reverse xs) (x ∷ [])
    ∙ ap (λ (zs : List A). zs ++ g x ∷ []) (map_reverse g xs) ∙ sym (reverse-append (g x ∷ []) (map g xs))

pub map_back : {A : Type 0} (g : A → A) (xs : List A) → reverse (map g (reverse xs)) ≡ map g xs
map_back {A = A} g xs = ap (λ (zs : List A). reverse zs) (map_reverse g xs) ∙ reverse-reverse (map g xs)

-- ---- frames

frame_below : (n : ℕ) (s : State) → (s.top.number ≡ n → ⊥) → frame_with n s ≡ find (has_number n) s.below
unfolding frame_with
frame_below n s h = rw (ne_eqb s.top.number n h) refl

pub found_below : (n : ℕ) (s : State) (fs : List Frame) (i : ℕ) (f : Frame) → fs ≡ reverse s.below → (s.top.number ≡ n → ⊥)
    → i < length fs → f ≡ get_or fs (length fs - 1 - i) f → f.number ≡ n
    → from_back (has_number n) fs i ≡ find (has_number n) (reverse fs) → Some f ≡ frame_with n s
found_below n s fs i f h t p e k inv =
    sym (passes (has_number n) fs i f p e (eq-eqb f.number n k)) ∙ inv
    ∙ ap (λ (zs : List Frame). find (has_number n) zs) (ap (λ (zs : List Frame). reverse zs) h ∙ reverse-reverse s.below) ∙ sym (frame_below n s t)

pub next_below : (n : ℕ) (fs : List Frame) (i : ℕ) (f : Frame) (found : Option Frame) → i < length fs → f ≡ get_or fs (length fs - 1 - i) f → (f.number ≡ n → ⊥)
    → from_back (has_number n) fs i ≡ found → from_back (has_number n) fs (i + 1) ≡ found
next_below n fs i f found p e k inv = sym (fails (has_number n) fs i f p e (ne_eqb f.number n k)) ∙ inv

pub put_frames : (n : ℕ) (change : Frame → Frame) (s : State) (top : Frame) (fs gs below : List Frame) → top ≡ change_frame n change s.top
    → fs ≡ reverse s.below → gs ≡ map (change_frame n change) fs → below ≡ reverse gs → record s { top = top; below = below } ≡ with_frame n change s
unfolding with_frame
put_frames n change s top fs gs below t f g b =
    let all : below ≡ map (change_frame n change) s.below =
    b ∙ ap (λ (zs : List Frame). reverse zs) (g ∙ ap (λ (zs : List Frame). map (change_frame n change) zs) f) ∙ map_back (change_frame n change) s.below in
    rw (t, all) refl
