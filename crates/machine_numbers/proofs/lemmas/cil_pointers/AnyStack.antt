-- Places don't depend on the evaluation stack.
use Rattle.std.proofs.Common.{◌≡◌, ◌∙◌, refl, sym, ap, ℕ, List, [], nat_eq, Bool, true, false, cond}
use Rattle.std.specs.Prelude.{Option, Some, None, slice_get, MatchBool}
use Rattle.std.specs.Option.{option_map, option_and_then, is_some}
use Rattle.il_base.specs.declared.cil_values.value.Value.{Value}
use Rattle.il_base.specs.declared.cil_values.object.Obj.{Obj}
use Rattle.il_base.specs.declared.cil_values.path.Path.{Path}
use Rattle.il_base.specs.declared.cil_values.path.Root.{Root}
use Rattle.il_base.specs.declared.cil_values.path.Root.TheVariants as root
use Rattle.il_base.specs.declared.cil_values.resolved.Instruction.{Instruction}
use Rattle.il_base.specs.declared.cil_values.resolved.Code.{Code}
use Rattle.il_base.specs.declared.cil_values.frame.Frame.{Frame}
use Rattle.il_base.specs.declared.cil_values.state.State.{State}
use Rattle.rules.specs.step_rules.Queries.{Queries}
use Rattle.rules.specs.step_rules.Next.{Next, went}
use Rattle.rules.specs.step_rules.Words.{Here, goes, goes_with, had, may_go, moved, required, stopped}
use Rattle.rules.specs.step_rules.Places.{has_ended, ended_root, frame_with, global_of, with_global, with_frame, root_value, value_in, place_value, put_in, put_root, put_whole, with_object, with_place, put_at}
use Rattle.machine_numbers.specs.cil_pointers.Reaching.{with_stack}

-- ---- loads

picked : {A : Type 0} (b : Bool) (f : Frame → Option A) (x y : Frame) (rest : Option Frame) → f x ≡ f y → option_and_then f (cond b (Some x) rest) ≡ option_and_then f (cond b (Some y) rest)
picked true f x y rest e = e
picked false f x y rest e = refl

pub root_apart : (q : Queries) (s : State) (vs : List Value) (r : Root) → root_value q (with_stack vs s) r ≡ root_value q s r
unfolding frame_with global_of
root_apart q s vs (root.Arg n k) = picked (nat_eq s.top.number n) (λ (f : Frame). slice_get f.args k) (record s.top { stack = vs }) s.top _ refl
root_apart q s vs (root.Local n k) = picked (nat_eq s.top.number n) (λ (f : Frame). slice_get f.locals k) (record s.top { stack = vs }) s.top _ refl
root_apart q s vs (root.Boxed a) = refl
root_apart q s vs (root.Element a k) = refl
root_apart q s vs (root.Field a f) = refl
root_apart q s vs (root.Static f owner) = refl

pub place_apart : (q : Queries) (s : State) (vs : List Value) (p : Path) → place_value q (with_stack vs s) p ≡ place_value q s p
unfolding place_value
place_apart q s vs p = ap (option_and_then (value_in p.steps)) (root_apart q s vs p.root)

there : (b : Bool) (x y : Frame) (rest : Option Frame) → is_some (cond b (Some x) rest) ≡ is_some (cond b (Some y) rest)
there true x y rest = refl
there false x y rest = refl

ended_by : (s : State) (vs : List Value) (r : Root) → ended_root (with_stack vs s) r ≡ ended_root s r
unfolding frame_with
ended_by s vs (root.Arg n k) = rw (there (nat_eq s.top.number n) (record s.top { stack = vs }) s.top _) refl
ended_by s vs (root.Local n k) = rw (there (nat_eq s.top.number n) (record s.top { stack = vs }) s.top _) refl
ended_by s vs (root.Boxed a) = refl
ended_by s vs (root.Element a k) = refl
ended_by s vs (root.Field a f) = refl
ended_by s vs (root.Static f owner) = refl

pub ended_apart : (s : State) (vs : List Value) (p : Path) → has_ended (with_stack vs s) p ≡ has_ended s p
unfolding has_ended
ended_apart s vs p = ended_by s vs p.root

-- ---- stores

changed : (b : Bool) (vs : List Value) (change : Frame → Frame) (f : Frame) → change (record f { stack = vs }) ≡ record (change f) { stack = vs } → cond b (change (record f { stack = vs })) (record f { stack = vs }) ≡ record (cond b (change f) f) { stack = vs }
changed true vs change f e = e
changed false vs change f e = refl

framed : (n : ℕ) (vs : List Value) (change : Frame → Frame) (s : State) → change (record s.top { stack = vs }) ≡ record (change s.top) { stack = vs } → with_frame n change (with_stack vs s) ≡ with_stack vs (with_frame n change s)
unfolding with_frame
framed n vs change s e = ap (λ (f : Frame). record (with_frame n change s) { top = f }) (changed (nat_eq s.top.number n) vs change s.top e)

object_apart : (s : State) (vs : List Value) (a : ℕ) (o : Option Obj) → with_object (with_stack vs s) a o ≡ option_map (with_stack vs) (with_object s a o)
object_apart s vs a None = refl
object_apart s vs a (Some o) = refl

root_put : (q : Queries) (s : State) (vs : List Value) (r : Root) (v : Value) → put_root q (with_stack vs s) r v ≡ option_map (with_stack vs) (put_root q s r v)
unfolding with_global
root_put q s vs (root.Arg n k) v = ap (λ (t : State). Some t) (framed n vs _ s refl)
root_put q s vs (root.Local n k) v = ap (λ (t : State). Some t) (framed n vs _ s refl)
root_put q s vs (root.Boxed a) v = object_apart s vs a _
root_put q s vs (root.Element a k) v = object_apart s vs a _
root_put q s vs (root.Field a f) v = object_apart s vs a _
root_put q s vs (root.Static f owner) v = refl

whole_put : (q : Queries) (s : State) (vs : List Value) (r : Root) (v : Option Value) → put_whole q (with_stack vs s) r v ≡ option_map (with_stack vs) (put_whole q s r v)
whole_put q s vs r None = refl
whole_put q s vs r (Some v) = root_put q s vs r v

pub put_apart : (q : Queries) (s : State) (vs : List Value) (p : Path) (v : Value) → with_place q (with_stack vs s) p v ≡ option_map (with_stack vs) (with_place q s p v)
unfolding with_place
put_apart q s vs p v =
    ap (λ (old : Option Value). put_whole q (with_stack vs s) p.root (option_and_then (put_in p.steps v) old)) (root_apart q s vs p.root)
    ∙ whole_put q s vs p.root _

-- a store leaves the evaluation stack as it was
abbrev the_state : State → Option State → State
the_state s None = s
the_state s (Some t) = t

pub put_stack : (q : Queries) (s t : State) (p : Path) (v : Value) → with_place q s p v ≡ Some t → t.top.stack ≡ s.top.stack
put_stack q s t p v e =
    let both : Some t ≡ option_map (with_stack s.top.stack) (with_place q s p v) = sym e ∙ put_apart q s s.top.stack p v in
    let same : Some t ≡ option_map (with_stack s.top.stack) (Some t) = both ∙ ap (option_map (with_stack s.top.stack)) e in
    ap (λ (o : Option State). (the_state s o).top.stack) same

required_apart : (b : Bool) (s : State) (vs : List Value) (x : Next) → required b (with_stack vs s) x ≡ required b s x
required_apart true s vs x = refl
required_apart false s vs x = refl

-- going on doesn't depend on the evaluation stack that is left
pub goes_apart : (here : Here) (i : Instruction) (stack : List Value) (s : State) (vs : List Value) → goes here i stack (with_stack vs s) ≡ goes here i stack s
unfolding goes_with
goes_apart here i stack s vs = required_apart (may_go here.code i.at i.next) s vs _

pub goes_alike : (here here' : Here) (i : Instruction) (stack : List Value) (s : State) → here.code ≡ here'.code → goes here i stack s ≡ goes here' i stack s
unfolding goes_with
goes_alike here here' i stack s same = ap (λ (code : Code). required (may_go code i.at i.next) s (went (moved i.next stack s) [])) same

pub put_goes : (q : Queries) (here here' : Here) (i : Instruction) (s t : State) (vs : List Value) (p : Path) (v : Value) → here.code ≡ here'.code → with_place q s p v ≡ Some t → goes here i t.top.stack t ≡ put_at q p v (with_stack vs s) (goes here' i s.top.stack)
unfolding put_at
put_goes q here here' i s t vs p v same e =
    let there : with_place q (with_stack vs s) p v ≡ Some (with_stack vs t) = put_apart q s vs p v ∙ ap (option_map (with_stack vs)) e in
    ap (λ (stack : List Value). goes here i stack t) (put_stack q s t p v e)
    ∙ goes_alike here here' i s.top.stack t same
    ∙ sym (goes_apart here' i s.top.stack t vs)
    ∙ sym (ap (λ (o : Option State). had o (with_stack vs s) (goes here' i s.top.stack)) there)

pub put_stops : (q : Queries) (here : Here) (i : Instruction) (s : State) (vs : List Value) (p : Path) (v : Value) → with_place q s p v ≡ None → stopped s ≡ put_at q p v (with_stack vs s) (goes here i s.top.stack)
unfolding put_at
put_stops q here i s vs p v e =
    let there : with_place q (with_stack vs s) p v ≡ None = put_apart q s vs p v ∙ ap (option_map (with_stack vs)) e in
    sym (ap (λ (o : Option State). had o (with_stack vs s) (goes here i s.top.stack)) there)

-- ---- a store by what it answers

pub was_put : (q : Queries) (s t : State) (p : Path) (v : Value) (done : Bool) → MatchBool done (with_place q s p v ≡ Some t) ((with_place q s p v ≡ None) × (t ≡ s)) → done ≡ true → with_place q s p v ≡ Some t
was_put q s t p v true h is = h
was_put q s t p v false h is = absurd (cc)

pub wasnt_put : (q : Queries) (s t : State) (p : Path) (v : Value) (done : Bool) → MatchBool done (with_place q s p v ≡ Some t) ((with_place q s p v ≡ None) × (t ≡ s)) → done ≡ false → (with_place q s p v ≡ None) × (t ≡ s)
wasnt_put q s t p v true h is = absurd (cc)
wasnt_put q s t p v false h is = h

-- ---- a value that was pushed

pub gave : (here : Here) (i : Instruction) (s : State) (us stack vs : List Value) → us ≡ stack → goes here i us (with_stack us s) ≡ goes here i stack (with_stack vs s)
gave here i s us stack vs e =
    goes_apart here i us s us ∙ ap (λ (xs : List Value). goes here i xs s) e ∙ sym (goes_apart here i stack s vs)
