-- An object that is taken out of the heap, changed and put back.
use Rattle.std.proofs.Common.{◌≡◌, ◌∙◌, refl, sym, ap, ℕ, zero, suc, List, [], ◌∷◌, slice_set, Bool, true, false}
use Rattle.std.specs.Prelude.{Option, Some, None, slice_get, Result, Ok, Err, IfOk, MatchBool}
use Rattle.std.specs.Option.{option_map}
use Rattle.il_base.specs.declared.cil_values.value.Value.{Value}
use Rattle.il_base.specs.declared.cil_values.object.Obj.{Obj}
use Rattle.il_base.specs.declared.cil_values.layout.Cell.{Cell}
use Rattle.il_base.specs.declared.cil_values.state.State.{State}
use Rattle.rules.specs.step_rules.Queries.{Queries}
use Rattle.rules.specs.step_rules.Places.{put_cell_in, with_object}
use Rattle.cil_core.specs.cil_exceptions.Cells.{new_heap}

set_twice : {A : Type 0} (xs : List A) (i : ℕ) (x y : A) → slice_set (slice_set xs i x) i y ≡ slice_set xs i y
set_twice [] i x y = refl
set_twice (z ∷ xs) zero x y = refl
set_twice {A = A} (z ∷ xs) (suc i) x y = ap (λ (ys : List A). z ∷ ys) (set_twice xs i x y)

set_same : {A : Type 0} (xs : List A) (i : ℕ) (x : A) → slice_get xs i ≡ Some x → slice_set xs i x ≡ xs
set_same [] i x e = refl
set_same (z ∷ xs) zero x e = cc
set_same {A = A} (z ∷ xs) (suc i) x e = ap (λ (ys : List A). z ∷ ys) (set_same xs i x e)

abbrev pub Puts : Queries → Cell → Value → List Obj → ℕ → List Obj → Bool → Type 0
Puts q c v heap at new done = MatchBool done (new_heap q c v heap at ≡ Some new) ((new_heap q c v heap at ≡ None) × (new ≡ heap))

puts : (q : Queries) (c : Cell) (v : Value) (heap new : List Obj) (at : ℕ) (hole o p : Obj) (done : Bool) → slice_get heap at ≡ Some o
    → new ≡ slice_set (slice_set heap at hole) at p → MatchBool done (put_cell_in q c v o ≡ Some p) ((put_cell_in q c v o ≡ None) × (p ≡ o))
    → Puts q c v heap at new done
puts q c v heap new at hole o p true e n h = rw (e, h) (ap (λ (os : List Obj). Some os) (sym (n ∙ set_twice heap at hole p)))
puts q c v heap new at hole o p false e n h =
    (rw (e, h.0) refl, n ∙ set_twice heap at hole p ∙ ap (λ (x : Obj). slice_set heap at x) h.1 ∙ set_same heap at o e)

pub put_back : {E : Type 0} (r : Result Bool E) (q : Queries) (c : Cell) (v : Value) (heap out new : List Obj) (at : ℕ) (hole o p : Obj) → slice_get heap at ≡ Some o
    → out ≡ slice_set heap at hole → new ≡ slice_set out at p
    → IfOk r (λ done. MatchBool done (put_cell_in q c v o ≡ Some p) ((put_cell_in q c v o ≡ None) × (p ≡ o)))
    → IfOk r (λ done. MatchBool done (new_heap q c v heap at ≡ Some new) ((new_heap q c v heap at ≡ None) × (new ≡ heap)))
put_back (Err e) q c v heap out new at hole o p g t n h = h
put_back (Ok done) q c v heap out new at hole o p g t n h = puts q c v heap new at hole o p done g (n ∙ ap (λ (os : List Obj). slice_set os at p) t) h

-- ---- in a state

pub heap_is : (s : State) (a : ℕ) (x : Option Obj) (new : List Obj) → option_map (λ o. slice_set s.heap a o) x ≡ Some new → with_object s a x ≡ Some (record s { heap = new })
heap_is s a None new h = absurd cc
heap_is s a (Some o) new h = let e : slice_set s.heap a o ≡ new = cc in ap (λ (os : List Obj). Some (record s { heap = os })) e

pub heap_none : (s : State) (a : ℕ) (x : Option Obj) → option_map (λ o. slice_set s.heap a o) x ≡ None → with_object s a x ≡ None
heap_none s a None h = refl
heap_none s a (Some o) h = absurd cc
