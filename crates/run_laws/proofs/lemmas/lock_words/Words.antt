-- One lemma for each word in which a form is written.
use Rattle.std.proofs.Common.{◌≡◌, ℕ, List, [], ◌∷◌, ◌++◌, length, Bool, true, false, Option, Some, None, refl, sym, ap, subst, ◌∙◌}
use Rattle.std.specs.Prelude.{IsTrue, if◌then◌else◌}
use Rattle.std.specs.Option.{option_map}
use Rattle.std.proofs.lemmas.List.{length-map, map-append}
use Rattle.std.proofs.lemmas.List.Folds.{list_all-map}
use Rattle.il_base.specs.declared.world_model.known.Known.{Known}
use Rattle.il_base.specs.declared.world_model.known.Known.TheVariants.{Good, Bad}
use Rattle.il_base.specs.world_model.Worlds.{known_map}
use Rattle.il_base.specs.declared.cil_values.value.Value.{Value}
use Rattle.il_base.specs.declared.cil_values.object.Obj.{Obj}
use Rattle.il_base.specs.declared.cil_values.end.End.{End}
use Rattle.il_base.specs.declared.cil_values.end.End.TheVariants.{Ended, Threw, Stopped, Stuck}
use Rattle.il_base.specs.declared.cil_values.resolved.Code.{Code}
use Rattle.il_base.specs.declared.cil_values.resolved.Instruction.{Instruction}
use Rattle.rules.specs.step_rules.Queries.{Queries}
use Rattle.il_base.specs.declared.cil_values.state.State.{State}
use Rattle.rules.specs.step_rules.Next.{Next, went, over}
use Rattle.rules.specs.step_rules.Words.{Here, stuck, stopped, end_at, ends_at, given, had, known, required, within, popped, may_pass, may_go, moved, branches, goes_with, goes, made}
use Rattle.rules.specs.change_rules.Change.{Change}
use Rattle.rules.specs.change_rules.Moves.{move_value, move_values}
use Rattle.rules.specs.change_rules.Answers.{move_clause, move_code, move_here, move_instruction}
use Rattle.rules.specs.change_rules.States.{move_obj, move_state, move_end}
use Rattle.rules.specs.change_rules.Keeps.{keeps_value, keeps_values, if_good}
use Rattle.rules.specs.change_rules.Covered.{Covered, keeps_obj}
use Rattle.rules.specs.change_rules.Lock.{Lock}
use Rattle.base_laws.proofs.lemmas.change_laws.Lists.{all_first, all_rest, all_push, all_joined}

module _ (k : Change) (q : Queries) where
  -- ---- ends

  pub stuck_lock : (s : State) → Lock k q (stuck (move_state k q s)) (stuck s)
  stuck_lock s = record { same = refl; kept = tt }

  pub stopped_lock : (s : State) → Lock k q (stopped (move_state k q s)) (stopped s)
  stopped_lock s = record { same = refl; kept = tt }

  end_moved : (s : State) (e : End) → end_at (move_state k q s) (move_end k.rho e) ≡ move_end k.rho (end_at s e)
  end_moved s (Stuck m at) = refl
  end_moved s (Stopped m at) = refl
  end_moved s (Ended code) = refl
  end_moved s (Threw kind message) = refl

  -- an end because of the code, put at the instruction of a state
  pub ends_at_lock : (s : State) (x y : Next) → Lock k q x y → Lock k q (ends_at (move_state k q s) x) (ends_at s y)
  ends_at_lock s x (went t bytes) l = record { same = ap (ends_at (move_state k q s)) l.same; kept = l.kept }
  ends_at_lock s x (over e) l = record { same = ap (ends_at (move_state k q s)) l.same ∙ ap over (end_moved s e); kept = tt }

  -- ---- what is there

  -- a look-up that both sides do alike
  pub given_lock : {A : Type 0} (o : Option A) (s : State) (f g : A → Next) → ((x : A) → o ≡ Some x → Lock k q (f x) (g x))
      → Lock k q (given o (move_state k q s) f) (given o s g)
  given_lock None s f g h = stuck_lock s
  given_lock (Some x) s f g h = h x refl

  pub given_same : {A : Type 0} (n o : Option A) (s : State) (f g : A → Next) → n ≡ o → ((x : A) → o ≡ Some x → Lock k q (f x) (g x))
      → Lock k q (given n (move_state k q s) f) (given o s g)
  given_same {A} n o s f g e h = subst (λ (m : Option A). Lock k q (given m (move_state k q s) f) (given o s g)) (sym e) (given_lock o s f g h)

  pub had_lock : {A : Type 0} (o : Option A) (s : State) (f g : A → Next) → ((x : A) → o ≡ Some x → Lock k q (f x) (g x))
      → Lock k q (had o (move_state k q s) f) (had o s g)
  had_lock None s f g h = stopped_lock s
  had_lock (Some x) s f g h = h x refl

  -- one whose answer moves
  pub given_moved : {A B : Type 0} (move : A → B) (o : Option A) (n : Option B) (s : State) (f : B → Next) (g : A → Next) → n ≡ option_map move o
      → ((x : A) → o ≡ Some x → Lock k q (f (move x)) (g x)) → Lock k q (given n (move_state k q s) f) (given o s g)
  given_moved {A} {B} move o n s f g e h = subst (λ (m : Option B). Lock k q (given m (move_state k q s) f) (given o s g)) (sym e) (by_cases o h)
    where
      by_cases : (o : Option A) → ((x : A) → o ≡ Some x → Lock k q (f (move x)) (g x)) → Lock k q (given (option_map move o) (move_state k q s) f) (given o s g)
      by_cases None h = stuck_lock s
      by_cases (Some x) h = h x refl

  pub had_moved : {A B : Type 0} (move : A → B) (o : Option A) (n : Option B) (s : State) (f : B → Next) (g : A → Next) → n ≡ option_map move o
      → ((x : A) → o ≡ Some x → Lock k q (f (move x)) (g x)) → Lock k q (had n (move_state k q s) f) (had o s g)
  had_moved {A} {B} move o n s f g e h = subst (λ (m : Option B). Lock k q (had m (move_state k q s) f) (had o s g)) (sym e) (by_cases o h)
    where
      by_cases : (o : Option A) → ((x : A) → o ≡ Some x → Lock k q (f (move x)) (g x)) → Lock k q (had (option_map move o) (move_state k q s) f) (had o s g)
      by_cases None h = stopped_lock s
      by_cases (Some x) h = h x refl

  -- an operand, of which a test says that what is good is kept
  pub known_moved : {A B : Type 0} (move : A → B) (test : A → Bool) (o : Known A) (s : State) (f : B → Next) (g : A → Next) → IsTrue (if_good test o)
      → ((x : A) → IsTrue (test x) → Lock k q (f (move x)) (g x)) → Lock k q (known (known_map move o) (move_state k q s) f) (known o s g)
  known_moved move test (Good x) s f g t h = h x t
  known_moved move test (Bad why) s f g t h = stopped_lock s

  pub required_lock : (a b : Bool) (s : State) (after before : Next) → a ≡ b → (b ≡ true → Lock k q after before)
      → Lock k q (required a (move_state k q s) after) (required b s before)
  required_lock a b s after before e h = subst (λ (x : Bool). Lock k q (required x (move_state k q s) after) (required b s before)) (sym e) (by_cases b h)
    where
      by_cases : (b : Bool) → (b ≡ true → Lock k q after before) → Lock k q (required b (move_state k q s) after) (required b s before)
      by_cases true h = h refl
      by_cases false h = stuck_lock s

  pub within_lock : (a b : Bool) (s : State) (after before : Next) → a ≡ b → (b ≡ true → Lock k q after before)
      → Lock k q (within a (move_state k q s) after) (within b s before)
  within_lock a b s after before e h = subst (λ (x : Bool). Lock k q (within x (move_state k q s) after) (within b s before)) (sym e) (by_cases b h)
    where
      by_cases : (b : Bool) → (b ≡ true → Lock k q after before) → Lock k q (within b (move_state k q s) after) (within b s before)
      by_cases true h = h refl
      by_cases false h = stopped_lock s

  -- a test that both sides do alike
  pub if_lock : (a b : Bool) (x y z w : Next) → a ≡ b → (b ≡ true → Lock k q x y) → (b ≡ false → Lock k q z w) → Lock k q (if a then x else z) (if b then y else w)
  if_lock a b x y z w e f g = subst (λ (c : Bool). Lock k q (if c then x else z) (if b then y else w)) (sym e) (by_cases b f g)
    where
      by_cases : (b : Bool) → (b ≡ true → Lock k q x y) → (b ≡ false → Lock k q z w) → Lock k q (if b then x else z) (if b then y else w)
      by_cases true f g = f refl
      by_cases false f g = g refl

  pub popped_lock : (stack : List Value) (s : State) (f g : Value → List Value → Next) → IsTrue (keeps_values k.keep stack)
      → ((v : Value) (rest : List Value) → IsTrue (keeps_value k.keep v) → IsTrue (keeps_values k.keep rest) → Lock k q (f (move_value k.rho v) (move_values k.rho rest)) (g v rest))
      → Lock k q (popped (move_values k.rho stack) (move_state k q s) f) (popped stack s g)
  popped_lock [] s f g c h = stuck_lock s
  popped_lock (v ∷ rest) s f g c h = h v rest (all_first (keeps_value k.keep) v rest c) (all_rest (keeps_value k.keep) v rest c)

  -- ---- going on

  pub may_go_moved : (c : Code) (at to : ℕ) → may_go (move_code k.rho c) at to ≡ may_go c at to
  unfolding may_go
  may_go_moved c at to = list_all-map (may_pass at to) (move_clause k.rho) c.clauses

  at_covered : (at : ℕ) (stack : List Value) (s : State) → Covered k.keep q s → IsTrue (keeps_values k.keep stack) → Covered k.keep q (moved at stack s)
  at_covered at stack s c st =
      record {
        heap = c.heap;
        statics = c.statics;
        inits = c.inits;
        below = c.below;
        top = record { method = c.top.method; args = c.top.args; locals = c.top.locals; stack = st; prefix = refl; waits = c.top.waits };
      }

  pub goes_with_lock : (here : Here) (i : Instruction) (stack : List Value) (s : State) (bytes : List ℕ) → Covered k.keep q s → IsTrue (keeps_values k.keep stack)
      → Lock k q (goes_with (move_here k.rho here) (move_instruction k.rho i) (move_values k.rho stack) (move_state k q s) bytes) (goes_with here i stack s bytes)
  unfolding goes_with
  goes_with_lock here i stack s bytes c st =
      required_lock _ (may_go here.code i.at i.next) s _ _ (may_go_moved here.code i.at i.next) (λ e. record { same = refl; kept = at_covered i.next stack s c st })

  pub goes_lock : (here : Here) (i : Instruction) (stack : List Value) (s : State) → Covered k.keep q s → IsTrue (keeps_values k.keep stack)
      → Lock k q (goes (move_here k.rho here) (move_instruction k.rho i) (move_values k.rho stack) (move_state k q s)) (goes here i stack s)
  goes_lock here i stack s c st = goes_with_lock here i stack s [] c st

  -- onto the stack as it is
  pub pushes_lock : (here : Here) (i : Instruction) (w v : Value) (s : State) → w ≡ move_value k.rho v → Covered k.keep q s → IsTrue (keeps_value k.keep v)
      → Lock k q (goes (move_here k.rho here) (move_instruction k.rho i) (w ∷ move_values k.rho s.top.stack) (move_state k q s)) (goes here i (v ∷ s.top.stack) s)
  pushes_lock here i w v s e c h =
      subst (λ (x : Value). Lock k q (goes (move_here k.rho here) (move_instruction k.rho i) (x ∷ move_values k.rho s.top.stack) (move_state k q s)) (goes here i (v ∷ s.top.stack) s)) (sym e)
      (goes_lock here i (v ∷ s.top.stack) s c (all_push (keeps_value k.keep) v s.top.stack h c.top.stack))

  -- onto what is left of the stack
  pub push_lock : (here : Here) (i : Instruction) (w v : Value) (stack : List Value) (s : State) → w ≡ move_value k.rho v → Covered k.keep q s → IsTrue (keeps_value k.keep v) → IsTrue (keeps_values k.keep stack)
      → Lock k q (goes (move_here k.rho here) (move_instruction k.rho i) (w ∷ move_values k.rho stack) (move_state k q s)) (goes here i (v ∷ stack) s)
  push_lock here i w v stack s e c h st =
      subst (λ (x : Value). Lock k q (goes (move_here k.rho here) (move_instruction k.rho i) (x ∷ move_values k.rho stack) (move_state k q s)) (goes here i (v ∷ stack) s)) (sym e)
      (goes_lock here i (v ∷ stack) s c (all_push (keeps_value k.keep) v stack h st))

  pub branches_lock : (here : Here) (i : Instruction) (to : ℕ) (stack : List Value) (s : State) → Covered k.keep q s → IsTrue (keeps_values k.keep stack)
      → Lock k q (branches (move_here k.rho here) (move_instruction k.rho i) to (move_values k.rho stack) (move_state k q s)) (branches here i to stack s)
  unfolding branches
  branches_lock here i to stack s c st =
      required_lock _ (may_go here.code i.at to) s _ _ (may_go_moved here.code i.at to) (λ e. record { same = refl; kept = at_covered to stack s c st })

  -- ---- the heap

  pub made_lock : (o : Obj) (s : State) (f g : ℕ → State → Next) → Covered k.keep q s → IsTrue (keeps_obj k.keep q o)
      → ((a : ℕ) (t : State) → Covered k.keep q t → Lock k q (f a (move_state k q t)) (g a t))
      → Lock k q (made (move_obj k q o) (move_state k q s) f) (made o s g)
  made_lock o s f g c ho h =
      let t : State = record s { heap = s.heap ++ o ∷ [] } in
      let ct : Covered k.keep q t = record { heap = all_joined (keeps_obj k.keep q) s.heap (o ∷ []) c.heap (all_push (keeps_obj k.keep q) o [] ho refl); statics = c.statics; inits = c.inits; top = c.top; below = c.below } in
      subst (λ (p : ℕ × List Obj). Lock k q (f p.0 (record (move_state k q s) { heap = p.1 })) (g (length s.heap) t))
      (λ i. (sym (length-map s.heap (move_obj k q)) i, map-append (move_obj k q) s.heap (o ∷ []) i)) (h (length s.heap) t ct)
