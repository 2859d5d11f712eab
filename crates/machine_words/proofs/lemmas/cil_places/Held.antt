-- An object that is taken out of the heap, changed and put back.
use Rattle.std.proofs.Common.{◌≡◌, ◌∙◌, refl, sym, ap, ℕ, zero, suc, List, [], ◌∷◌, slice_set, Bool, true, false}
use Rattle.std.specs.Prelude.{Some, None, slice_get, Result, Ok, Err, IfOk, MatchBool}
use Rattle.il_base.specs.declared.cil_values.value.Value.{Value}
use Rattle.il_base.specs.declared.cil_values.object.Obj.{Obj}
use Rattle.rules.specs.step_rules.Queries.{Queries}
use Rattle.machine_words.specs.declared.cil_places.objects.Part.{Part}
use Rattle.machine_words.specs.cil_places.Parts.{put_part, new_heap}

set_twice : {A : Type 0} (xs : List A) (i : ℕ) (x y : A) → slice_set (slice_set xs i x) i y ≡ slice_set xs i y
set_twice [] i x y = refl
set_twice (z ∷ xs) zero x y = refl
set_twice {A = A} (z ∷ xs) (suc i) x y = ap (λ (ys : List A). z ∷ ys) (set_twice xs i x y)

set_same : {A : Type 0} (xs : List A) (i : ℕ) (x : A) → slice_get xs i ≡ Some x → slice_set xs i x ≡ xs
set_same [] i x e = refl
set_same (z ∷ xs) zero x e = cc
set_same {A = A} (z ∷ xs) (suc i) x e = ap (λ (ys : List A). z ∷ ys) (set_same xs i x e)

abbrev pub Puts : Queries → Part → Value → List Obj → ℕ → List Obj → Bool → Type 0
Puts q part v heap at new done = MatchBool done (new_heap q part v heap at ≡ Some new) ((new_heap q part v heap at ≡ None) × (new ≡ heap))

puts : (q : Queries) (part : Part) (v : Value) (heap new : List Obj) (at : ℕ) (hole o p : Obj) (done : Bool) → slice_get heap at ≡ Some o
    → new ≡ slice_set (slice_set heap at hole) at p → MatchBool done (put_part q part v o ≡ Some p) ((put_part q part v o ≡ None) × (p ≡ o))
    → Puts q part v heap at new done
puts q part v heap new at hole o p true e n h = rw (e, h) (ap (λ (os : List Obj). Some os) (sym (n ∙ set_twice heap at hole p)))
puts q part v heap new at hole o p false e n h =
    (rw (e, h.0) refl, n ∙ set_twice heap at hole p ∙ ap (λ (x : Obj). slice_set heap at x) h.1 ∙ set_same heap at o e)

pub put_back : {E : Type 0} (r : Result Bool E) (q : Queries) (part : Part) (v : Value) (heap out new : List Obj) (at : ℕ) (hole o p : Obj) → slice_get heap at ≡ Some o
    → out ≡ slice_set heap at hole → new ≡ slice_set out at p
    → IfOk r (λ done. MatchBool done (put_part q part v o ≡ Some p) ((put_part q part v o ≡ None) × (p ≡ o)))
    → IfOk r (λ done. MatchBool done (new_heap q part v heap at ≡ Some new) ((new_heap q part v heap at ≡ None) × (new ≡ heap)))
put_back (Err e) q part v heap out new at hole o p g t n h = h
put_back (Ok done) q part v heap out new at hole o p g t n h = puts q part v heap new at hole o p done g (n ∙ ap (λ (os : List Obj). slice_set os at p) t) h
