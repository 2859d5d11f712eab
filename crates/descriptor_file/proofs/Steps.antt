-- What reading goes on with after whitespace, after a token, and at the end of the file.
use Rattle.std.proofs.Common.{◌≡◌, ℕ, zero, suc, ◌+◌, ◌-◌, ◌<◌, ◌≤◌, Bool, true, false, List, [], ◌∷◌, length, drop, get_or, Option, Some, None, Ok, Err, refl, sym, ap, subst, ◌∙◌, arith, add-zero, length-drop}
use Rattle.std.specs.Prelude.{if◌then◌else◌}
use Rattle.std.proofs.lemmas.List.{drop-drop, get_or-drop}
use Rattle.descriptor_file.specs.declared.state.State.{State}
use Rattle.descriptor_file.specs.Tokens.{is_space}
use Rattle.descriptor_file.specs.Grammar.{is_done}
use Rattle.descriptor_file.specs.Reading.{token_step, read_from, or_bad}
use Rattle.descriptor_file.proofs.Places.{dropped, dropped_all}

skipped : (k : ℕ) (spaced : Bool) (at : ℕ) (bs : List ℕ) (s : State) → k ≤ length bs → read_from k spaced at bs s ≡ read_from 0 spaced (at + k) (drop k bs) s
unfolding read_from
skipped zero spaced at bs s h = ap (λ (n : ℕ). read_from 0 spaced n bs s) (sym (add-zero at))
skipped (suc k) spaced at [] s h = absurd (omega arith)
skipped (suc k) spaced at (b ∷ bs) s h =
    let e : (at + 1) + k ≡ at + suc k = omega arith in
    skipped k spaced (at + 1) bs s (omega arith) ∙ ap (λ (n : ℕ). read_from 0 spaced n (drop k bs) s) e

space_first : (spaced : Bool) (at b : ℕ) (bs : List ℕ) (s : State) → is_space b ≡ true → read_from 0 spaced at (b ∷ bs) s ≡ read_from 0 true (at + 1) bs s
unfolding read_from
space_first spaced at b bs s e = rw e refl

token_first : (spaced : Bool) (at b : ℕ) (bs : List ℕ) (s : State) → is_space b ≡ false
    → read_from 0 spaced at (b ∷ bs) s ≡ or_bad at (token_step s spaced at (b ∷ bs)) (λ x. read_from (x.1 - 1) false (at + 1) bs x.0)
unfolding read_from
token_first spaced at b bs s e = rw e refl

pub front : (bs rest : List ℕ) (at : ℕ) → rest ≡ drop at bs → get_or rest 0 0 ≡ get_or bs at 0
front bs rest at e = ap (λ (xs : List ℕ). get_or xs 0 0) e ∙ get_or-drop at bs 0 0 ∙ ap (λ (n : ℕ). get_or bs n 0) (add-zero at)

module _ (bs : List ℕ) (spaced : Bool) (at : ℕ) (s : State) (inside : at < length bs) where
  pub past_space : is_space (get_or bs at 0) ≡ true → read_from 0 spaced at (drop at bs) s ≡ read_from 0 true (at + 1) (drop (at + 1) bs) s
  past_space e =
      subst (λ (xs : List ℕ). read_from 0 spaced at xs s ≡ read_from 0 true (at + 1) (drop (at + 1) bs) s) (sym (dropped bs at inside))
      (space_first spaced at (get_or bs at 0) (drop (at + 1) bs) s e)

  by_token : is_space (get_or bs at 0) ≡ false
      → read_from 0 spaced at (drop at bs) s ≡ or_bad at (token_step s spaced at (drop at bs)) (λ x. read_from (x.1 - 1) false (at + 1) (drop (at + 1) bs) x.0)
  by_token e =
      subst (λ (xs : List ℕ). read_from 0 spaced at xs s ≡ or_bad at (token_step s spaced at xs) (λ x. read_from (x.1 - 1) false (at + 1) (drop (at + 1) bs) x.0)) (sym (dropped bs at inside))
      (token_first spaced at (get_or bs at 0) (drop (at + 1) bs) s e)

  pub refused : is_space (get_or bs at 0) ≡ false → token_step s spaced at (drop at bs) ≡ None → read_from 0 spaced at (drop at bs) s ≡ Err at
  refused e none = by_token e ∙ ap (λ (o : Option (State × ℕ)). or_bad at o (λ x. read_from (x.1 - 1) false (at + 1) (drop (at + 1) bs) x.0)) none

  pub past_token : (next : State) (n : ℕ) → is_space (get_or bs at 0) ≡ false → token_step s spaced at (drop at bs) ≡ Some (next, n) → 0 < n → n ≤ length (drop at bs)
      → read_from 0 spaced at (drop at bs) s ≡ read_from 0 false (at + n) (drop (at + n) bs) next
  past_token next n e some positive within =
      let d : (at + 1) + (n - 1) ≡ at + n = omega arith in
      let l : n ≤ length bs - at = rw length-drop at within in
      let m : n - 1 ≤ length bs - (at + 1) = omega arith in
      by_token e ∙ ap (λ (o : Option (State × ℕ)). or_bad at o (λ x. read_from (x.1 - 1) false (at + 1) (drop (at + 1) bs) x.0)) some
      ∙ skipped (n - 1) false (at + 1) (drop (at + 1) bs) next (rw length-drop m)
      ∙ ap (λ (xs : List ℕ). read_from 0 false ((at + 1) + (n - 1)) xs next) (drop-drop (n - 1) (at + 1) bs)
      ∙ ap (λ (k : ℕ). read_from 0 false k (drop k bs) next) d

pub done : (bs : List ℕ) (spaced : Bool) (at : ℕ) (s : State) → at ≡ length bs → read_from 0 spaced at (drop at bs) s ≡ (if is_done s.place s.spot then Ok s.roots else Err at)
unfolding read_from
done bs spaced at s e = subst (λ (n : ℕ). read_from 0 spaced n (drop n bs) s ≡ (if is_done s.place s.spot then Ok s.roots else Err n)) (sym e)
    (subst (λ (xs : List ℕ). read_from 0 spaced (length bs) xs s ≡ (if is_done s.place s.spot then Ok s.roots else Err (length bs))) (sym (dropped_all bs)) refl)
