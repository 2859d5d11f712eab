-- The search for a handler, frame by frame.
use Rattle.std.proofs.Common.{◌≡◌, ℕ, suc, ◌+◌, ◌-◌, ◌<◌, ◌≤◌, List, [], ◌∷◌, ◌++◌, length, drop, reverse, Some, get_or, refl, sym, ap, ◌∙◌, arith, inl, inr, add-one}
use Rattle.std.specs.Prelude.{slice_get}
use Rattle.std.proofs.Math.Seq.{drop-cons}
use Rattle.std.proofs.lemmas.List.{get_or-reverse, length-reverse, drop_all}
use Rattle.std.proofs.lemmas.Option.{slice_get_cases, slice_get_read, slice_get_within, get_or_from_slice_get}
use Rattle.il_base.specs.declared.cil_values.state.State.{State}
use Rattle.il_base.specs.declared.cil_values.frame.Frame.{Frame}
use Rattle.rules.specs.step_rules.Queries.{Queries}
use Rattle.rules.specs.step_rules.Words.{object_at, stopped}
use Rattle.rules.specs.step_rules.Objects.{threw}
use Rattle.rules.specs.step_rules.Raising.{nothing_found, bad_clause, by_clause, search, throw, unwind, unwinding_to, caught_or, found_in, passed_on, wrapper}
use Rattle.machine_frames.specs.cil_raising.Searches.{search_on}

-- a list of which the last element is looked up first
pub from_the_top : {X : Type 0} (xs : List X) (k : ℕ) → k < length xs → slice_get (reverse xs) (length (reverse xs) - (k + 1)) ≡ slice_get xs k
from_the_top xs k h =
    elim (slice_get_cases xs k).1 [
      | inl found ↦
          let x = found.0 in
          let is : slice_get xs k ≡ Some x = found.2 in
          let within : length xs - (k + 1) < length xs = omega arith in
          let same : length xs - 1 - (length xs - (k + 1)) ≡ k = omega arith in
          rw length-reverse (slice_get_read (reverse xs) (length xs) (length xs - (k + 1)) x (sym (length-reverse xs)) within (sym (get_or-reverse xs (length xs - (k + 1)) x within ∙ ap (λ n. get_or xs n x) same ∙ found.3)) ∙ sym is)
      | inr past ↦ absurd (omega (arith, past.0))
    ]

-- what is found at a place is the first of those from there on
pub drop_next : {X : Type 0} (xs : List X) (k : ℕ) (x : X) → Some x ≡ slice_get xs k → drop k xs ≡ x ∷ drop (k + 1) xs
drop_next xs k x is =
    let within : k < length xs = slice_get_within xs k x (sym is) in
    let gotten : get_or xs k x ≡ x = get_or_from_slice_get xs k x x (sym is) in
    rw add-one (drop-cons xs k x within ∙ ap (λ y. y ∷ drop (suc k) xs) gotten)

pub search_begins : (q : Queries) (a : ℕ) (s : State) → search_on q a a [] s (s.top ∷ s.below) ≡ throw q a s
unfolding search_on throw
search_begins q a s = refl

pub search_ends : (q : Queries) (first a : ℕ) (later : List ℕ) (s : State) (k : ℕ) (frames : List Frame) → length frames ≤ k → search_on q first a later s (drop k frames) ≡ threw q s (object_at s a)
unfolding search_on
search_ends q first a later s k frames past = ap (search_on q first a later s) (drop_all k frames past)

-- a frame is looked into, and then those below it
search_next : (q : Queries) (first a : ℕ) (later : List ℕ) (s : State) (f : Frame) (fs : List Frame) → search_on q first a later s (f ∷ fs) ≡ caught_or q first later s f (found_in q s a f) (passed_on q (wrapper f.waits) a later s (λ b all s. search_on q first b all s fs))
unfolding search_on search
search_next q first a later s f [] = refl
search_next q first a later s f (g ∷ fs) = refl

module _ (q : Queries) (first a : ℕ) (later : List ℕ) (s : State) (k : ℕ) (frames : List Frame) (f : Frame) (there : Some f ≡ slice_get frames k) where
  looked : search_on q first a later s (drop k frames) ≡ caught_or q first later s f (found_in q s a f) (passed_on q (wrapper f.waits) a later s (λ b all s. search_on q first b all s (drop (k + 1) frames)))
  looked = ap (search_on q first a later s) (drop_next frames k f there) ∙ search_next q first a later s f (drop (k + 1) frames)

  pub at_bad : bad_clause ≡ found_in q s a f → search_on q first a later s (drop k frames) ≡ stopped s
  at_bad is = looked ∙ rw (← is) refl

  pub at_clause : (n : ℕ) → by_clause n ≡ found_in q s a f → search_on q first a later s (drop k frames) ≡ unwind q (unwinding_to q first later s f n) s
  at_clause n is = looked ∙ rw (← is) refl

  pub at_none : nothing_found ≡ found_in q s a f → search_on q first a later s (drop k frames) ≡ passed_on q (wrapper f.waits) a later s (λ b all t. search_on q first b all t (drop (k + 1) frames))
  at_none is = looked ∙ rw (← is) refl
