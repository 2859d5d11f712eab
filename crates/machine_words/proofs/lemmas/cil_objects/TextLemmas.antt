-- New strings, and the strings of `ldstr`.
use Rattle.std.proofs.Common.{◌≡◌, ◌∙◌, refl, sym, ap, ℕ, ◌<◌, ◌≤◌, List, [], ◌∷◌, ◌++◌, length}
use Rattle.std.specs.Prelude.{Option, Some, None, find, slice_get}
use Rattle.std.proofs.lemmas.Bool.{le-leb, lt-leb}
use Rattle.il_base.specs.declared.cil_values.object.Obj.{Obj}
use Rattle.il_base.specs.declared.cil_values.object.Obj.TheVariants as object
use Rattle.il_base.specs.declared.cil_values.state.State.{State}
use Rattle.rules.specs.step_rules.Next.{Next}
use Rattle.rules.specs.step_rules.Objects.{text_limit, made_text, holds_text, text_object, interned}
use Rattle.machine_words.specs.cil_objects.Made.{goes_on, GoesOn, new_text}

pub too_long : (units : List ℕ) (s t : State) → text_limit < length units → GoesOn (made_text units s) s None t
unfolding made_text
too_long units s t h f = rw (lt-leb (length units) text_limit h) refl

pub is_made : (units : List ℕ) (s : State) (heap : List Obj) (a : ℕ) → length units ≤ text_limit → heap ≡ s.heap ++ object.Str units ∷ [] → a ≡ length s.heap
    → GoesOn (made_text units s) s (Some a) (record s { heap = heap })
unfolding made_text
is_made units s heap a h e k f = rw (le-leb (length units) text_limit h, e, k) refl

pub none_made : (units copy : List ℕ) (s t : State) (answer : Option ℕ) → copy ≡ units → answer ≡ None → GoesOn (made_text copy s) s answer t → GoesOn (new_text units s) s None t
none_made units copy s t answer e k h f =
    let next : ℕ → State → Next = λ a t. f a (record t { texts = t.texts ++ a ∷ [] }) in
    rw (sym e) (h next ∙ ap (λ (o : Option ℕ). goes_on o s t next) k)

pub one_made : (units copy : List ℕ) (s t : State) (answer : Option ℕ) (a : ℕ) (texts : List ℕ) → copy ≡ units → answer ≡ Some a → texts ≡ t.texts ++ a ∷ []
    → GoesOn (made_text copy s) s answer t → GoesOn (new_text units s) s (Some a) (record t { texts = texts })
one_made units copy s t answer a texts e k g h f =
    let next : ℕ → State → Next = λ a t. f a (record t { texts = t.texts ++ a ∷ [] }) in
    rw (sym e, g) (h next ∙ ap (λ (o : Option ℕ). goes_on o s t next) k)

pub was_there : (units : List ℕ) (s : State) (a : ℕ) → Some a ≡ find (λ at. holds_text units (slice_get s.heap at)) s.texts → GoesOn (interned units s) s (Some a) s
unfolding interned text_object
was_there units s a e f = rw (sym e) refl

pub is_new : (units : List ℕ) (s t : State) (answer : Option ℕ) → None ≡ find (λ at. holds_text units (slice_get s.heap at)) s.texts → GoesOn (new_text units s) s answer t
    → GoesOn (interned units s) s answer t
unfolding interned text_object
is_new units s t answer e h f = rw (sym e) (h f)
