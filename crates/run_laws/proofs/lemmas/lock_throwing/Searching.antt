-- The search for a handler, and the way there.
use Rattle.std.proofs.Common.{◌≡◌, ℕ, suc, Bool, true, false, ◌&&◌, List, [], ◌∷◌, ◌++◌, map, Option, Some, None, refl, sym, ap, subst, ◌∙◌}
use Rattle.std.specs.Prelude.{IsTrue, slice_get, nat_eq, if◌then◌else◌}
use Rattle.std.specs.List.{list_all}
use Rattle.std.specs.Option.{option_map, option_and_then}
use Rattle.std.specs.Cmp.{first_so, second_so}
use Rattle.std.proofs.lemmas.Bool.{and_from}
use Rattle.std.proofs.lemmas.Option.{slice_get-map}
use Rattle.il_base.specs.declared.world_model.known.Known.{Known}
use Rattle.il_base.specs.declared.world_model.known.Known.TheVariants.{Good, Bad}
use Rattle.il_base.specs.world_model.Worlds.{known_map}
use Rattle.il_base.specs.declared.world_model.expr.TypeExpr.{TypeExpr}
use Rattle.il_base.specs.world_model.Exprs.{same_expr}
use Rattle.il_base.specs.declared.core_table.names.CoreName.{CoreName}
use Rattle.il_base.specs.declared.cil_values.value.Value.{Value}
use Rattle.il_base.specs.declared.cil_values.value.Value.TheVariants as value
use Rattle.il_base.specs.declared.cil_values.object.Obj.{Obj}
use Rattle.il_base.specs.declared.cil_values.resolved.Code.{Code}
use Rattle.il_base.specs.declared.cil_values.resolved.Clause.{Clause}
use Rattle.il_base.specs.declared.cil_values.state.State.{State}
use Rattle.il_base.specs.declared.cil_values.state.Init.{Init}
use Rattle.il_base.specs.declared.cil_values.state.Init.TheVariants.{Failed as failed}
use Rattle.il_base.specs.declared.cil_values.state.Started.{Started}
use Rattle.il_base.specs.declared.cil_values.frame.Frame.{Frame}
use Rattle.il_base.specs.declared.cil_values.frame.Reason.{Reason}
use Rattle.il_base.specs.declared.cil_values.frame.Reason.TheVariants.{Caught as caught, Unwinding as unwinding}
use Rattle.il_base.specs.declared.cil_values.frame.Unwinding.{Unwinding}
use Rattle.il_base.specs.declared.cil_values.frame.Waits.{Waits}
use Rattle.il_base.specs.declared.cil_values.frame.Waits.TheVariants.{Starts as starts, Opens as opens, Core as calls}
use Rattle.il_base.specs.declared.cil_values.core_call.CoreCall.{CoreCall}
use Rattle.il_base.specs.declared.cil_values.core_call.CoreCall.TheVariants as core
use Rattle.il_base.specs.declared.cil_values.frame.Prefix.TheVariants.{None as none}
use Rattle.rules.specs.step_rules.Queries.{Queries}
use Rattle.rules.specs.step_rules.Next.{Next, went}
use Rattle.rules.specs.step_rules.Words.{Here, good, in_try, here_of, made}
use Rattle.rules.specs.step_rules.Closing.{closed_slot}
use Rattle.rules.specs.step_rules.Objects.{wrapping, new_exception}
use Rattle.rules.specs.step_rules.Raising.{is_catch, handler_begins, change_init, set_init, failing, wrapper_of, wrapper, further_by, further, outside, outer, next_handler, unwind_by, unwind_here, unwind_to, unwind, Found, nothing_found, bad_clause, by_clause, catches_by, caught_type, clause_for, found_here, found_in, passed_on, unwinding_to, caught_or, search, throw, raise}
use Rattle.rules.specs.change_rules.Change.{Change}
use Rattle.rules.specs.change_rules.Moves.{move_expr, move_values}
use Rattle.rules.specs.change_rules.Answers.{move_clause, move_code, move_here}
use Rattle.rules.specs.change_rules.States.{move_waits, move_frame, move_started, move_state}
use Rattle.rules.specs.change_rules.Keeps.{keeps_defined, keeps_use, keeps_values, keeps_clause, if_good}
use Rattle.rules.specs.change_rules.Covered.{keeps_started, CoveredFrames, Covered}
use Rattle.rules.specs.change_rules.Agree.{Agree, is_asked}
use Rattle.rules.specs.change_rules.Lock.{Lock}
use Rattle.base_laws.proofs.lemmas.change_laws.Same.{same_exprs_moved}
use Rattle.base_laws.proofs.lemmas.change_laws.Lists.{change_moved}
use Rattle.base_laws.proofs.lemmas.change_laws.Values.{move_object, keeps_object}
use Rattle.run_laws.proofs.lemmas.lock_words.Words.{stuck_lock, stopped_lock, given_moved, if_lock, made_lock}
use Rattle.run_laws.proofs.lemmas.lock_words.Types.{defined_slot_moved, defined_slot_kept}
use Rattle.run_laws.proofs.lemmas.lock_throwing.Objects.{is_a_defined_at, threw_lock, wrapping_moved, wrapping_kept, new_exception_moved, new_exception_kept}
use Rattle.run_laws.proofs.lemmas.lock_throwing.Here.{KeptHere, here_moved, here_kept, still_running_moved, left_moved}

-- ---- initializers

-- the names of exceptions that wrap others are asked for
abbrev IsWrapper : Option CoreName → Type 0
IsWrapper None = Unit {0}
IsWrapper (Some n) = IsTrue (is_asked n)

member_wrapper : (c : CoreCall) → IsWrapper (wrapper_of c)
unfolding is_asked
member_wrapper core.Create = refl
member_wrapper core.CreateOf = refl
member_wrapper core.Invoke = refl
member_wrapper core.PropertyGet = refl
member_wrapper core.PropertySet = refl
member_wrapper _ = tt

wrapper_asked : (w : Waits) → IsWrapper (wrapper w)
unfolding is_asked wrapper
wrapper_asked (starts e) = refl
wrapper_asked (opens e m) = refl
wrapper_asked (calls c args) = member_wrapper c
wrapper_asked _ = tt

pub all_changed : {A : Type 0} (p : A → Bool) (g : A → A) → ((x : A) → IsTrue (p x) → IsTrue (p (g x))) → (xs : List A) → IsTrue (list_all p xs) → IsTrue (list_all p (map g xs))
all_changed p g f [] h = refl
all_changed p g f (x ∷ xs) h = and_from (p (g x)) (list_all p (map g xs)) (f x (first_so (p x) (list_all p xs) h)) (all_changed p g f xs (second_so (p x) (list_all p xs) h))

module _ (k : Change) where
  init_by : (b : Bool) (i : Init) (x : Started) → (if b then record (move_started k.rho x) { init = i } else move_started k.rho x) ≡ move_started k.rho (if b then record x { init = i } else x)
  init_by true i x = refl
  init_by false i x = refl

  init_moved : (e : TypeExpr) (i : Init) (x : Started) → change_init (move_expr k.rho e) i (move_started k.rho x) ≡ move_started k.rho (change_init e i x)
  init_moved e i x =
      ap (λ (b : Bool). if b then record (move_started k.rho x) { init = i } else move_started k.rho x) (same_exprs_moved k.back k.rho k.undone x.typ e) ∙ init_by (same_expr x.typ e) i x

  pub set_init_moved : (e : TypeExpr) (i : Init) (inits : List Started) → set_init (move_expr k.rho e) i (map (move_started k.rho) inits) ≡ map (move_started k.rho) (set_init e i inits)
  set_init_moved e i inits = change_moved (move_started k.rho) (change_init e i) (change_init (move_expr k.rho e) i) (init_moved e i) inits

  init_kept : (b : Bool) (i : Init) (x : Started) → IsTrue (keeps_started k.keep x) → IsTrue (keeps_started k.keep (if b then record x { init = i } else x))
  init_kept true i x h = h
  init_kept false i x h = h

  pub set_init_kept : (e : TypeExpr) (i : Init) (inits : List Started) → IsTrue (list_all (keeps_started k.keep) inits) → IsTrue (list_all (keeps_started k.keep) (set_init e i inits))
  set_init_kept e i inits h = all_changed (keeps_started k.keep) (change_init e i) (λ x. init_kept (same_expr x.typ e) i x) inits h

  failing_moved : (w : Waits) (later : List ℕ) (inits : List Started) → failing (move_waits k.rho w) later (map (move_started k.rho) inits) ≡ map (move_started k.rho) (failing w later inits)
  failing_moved (starts e) [] inits = refl
  failing_moved (starts e) (x ∷ later) inits = set_init_moved e (failed x) inits
  failing_moved (opens e u) later inits = refl
  failing_moved _ later inits = refl

  failing_kept : (w : Waits) (later : List ℕ) (inits : List Started) → IsTrue (list_all (keeps_started k.keep) inits) → IsTrue (list_all (keeps_started k.keep) (failing w later inits))
  failing_kept (starts e) [] inits h = h
  failing_kept (starts e) (x ∷ later) inits h = set_init_kept e (failed x) inits h
  failing_kept (opens e u) later inits h = h
  failing_kept _ later inits h = h

  wrapper_moved : (w : Waits) → wrapper (move_waits k.rho w) ≡ wrapper w
  unfolding wrapper
  wrapper_moved (starts e) = refl
  wrapper_moved (opens e m) = refl
  wrapper_moved (calls c args) = refl
  wrapper_moved _ = refl

  further_moved : (w : Waits) (u : Unwinding) → further (move_waits k.rho w) u ≡ further w u
  further_moved w u = ap (λ (o : Option CoreName). further_by o u) (wrapper_moved w)

module _ (k : Change) (after before : Queries) (a : Agree k after before) where
  -- ---- a handler begins

  pub handler_lock : (code : Code) (n : ℕ) (reason : Reason) (stack : List Value) (s : State) → Covered k.keep before s → IsTrue (keeps_values k.keep stack)
      → Lock k before (handler_begins (move_code k.rho code) n reason (move_values k.rho stack) (move_state k before s)) (handler_begins code n reason stack s)
  unfolding handler_begins
  handler_lock code n reason stack s c st =
      given_moved k before (move_clause k.rho) (slice_get code.clauses n) _ s _ _ (slice_get-map (move_clause k.rho) code.clauses n) (λ x e.
      record {
        same = λ i. went (record (move_state k before s) { top = record (move_frame k.rho s.top) { at = x.at; stack = move_values k.rho stack; prefix = none; running = record { clause = n; reason = reason } ∷ still_running_moved k.rho code x.at s.top.running i } }) [];
        kept = record {
          heap = c.heap;
          statics = c.statics;
          inits = c.inits;
          below = c.below;
          top = record { method = c.top.method; args = c.top.args; locals = c.top.locals; stack = st; prefix = refl; waits = c.top.waits };
        };
      })

  -- ---- the way to the handler that was found

  next_lock : (code : Code) (u : Unwinding) (ns : List ℕ) (s : State) → Covered k.keep before s → (x y : Next) → Lock k before x y
      → Lock k before (next_handler (move_code k.rho code) u ns (move_state k before s) x) (next_handler code u ns s y)
  next_lock code u (n ∷ ns) s c x y l = handler_lock code n (unwinding (record u { left = ns })) [] s c refl
  next_lock code u [] s c x y l =
      if_lock k before _ (nat_eq s.top.number u.frame) _ _ _ _ refl
      (λ e. subst (λ (v : Value). Lock k before (handler_begins (move_code k.rho code) u.clause (caught u.object) (v ∷ []) (move_state k before s)) (handler_begins code u.clause (caught u.object) (value.Object u.object ∷ []) s))
      (move_object k.rho u.object) (handler_lock code u.clause (caught u.object) (value.Object u.object ∷ []) s c (and_from _ true (keeps_object k.keep u.object) refl)))
      (λ e. l)

  unwind_by_lock : (u : Unwinding) (s : State) → Covered k.keep before s → (x y : Next) → Lock k before x y → (o : Option Here)
      → Lock k before (unwind_by u (move_state k before s) x (option_map (move_here k.rho) o)) (unwind_by u s y o)
  unwind_by_lock u s c x y l None = l
  unwind_by_lock u s c x y l (Some here) = next_lock here.code u u.left s c x y l

  unwind_here_lock : (u : Unwinding) (s : State) → Covered k.keep before s → (x y : Next) → Lock k before x y
      → Lock k before (unwind_here after u (move_state k before s) x) (unwind_here before u s y)
  unwind_here_lock u s c x y l =
      subst (λ (o : Option Here). Lock k before (unwind_by u (move_state k before s) x o) (unwind_by u s y (here_of before s.top))) (sym (here_moved k after before a s.top c.top.method))
      (unwind_by_lock u s c x y l (here_of before s.top))

  outer_moved : (s : State) (u : Unwinding) (f : Frame) → IsTrue (keeps_use k.keep f.method) → outer after (move_state k before s) u (move_frame k.rho f) ≡ outer before s u f
  outer_moved s u f h = λ i. record (further_moved k s.top.waits u i) { left = left_moved k after before a u.frame u.clause f h i }

  outside_moved : (s : State) (u : Unwinding) (f : Frame) (fs : List Frame)
      → outside (move_state k before s) u (move_frame k.rho f) (map (move_frame k.rho) fs) ≡ move_state k before (outside s u f fs)
  outside_moved s u f fs = λ i. record (move_state k before s) { top = move_frame k.rho f; below = map (move_frame k.rho) fs; inits = failing_moved k s.top.waits u.later s.inits i }

  pub unwind_to_lock : (u : Unwinding) (s : State) (fs : List Frame) → Covered k.keep before s → CoveredFrames k.keep fs
      → Lock k before (unwind_to after u (move_state k before s) (map (move_frame k.rho) fs)) (unwind_to before u s fs)
  unfolding unwind_to
  unwind_to_lock u s [] c cs = unwind_here_lock u s c _ _ (stuck_lock k before s)
  unwind_to_lock u s (f ∷ fs) c cs =
      let t : State = outside s u f fs in
      let v : Unwinding = outer before s u f in
      unwind_here_lock u s c _ _
      (subst (λ (p : Unwinding × State). Lock k before (unwind_to after p.0 p.1 (map (move_frame k.rho) fs)) (unwind_to before v t fs))
      (λ i. (sym (outer_moved s u f cs.0.method) i, sym (outside_moved s u f fs) i))
      (unwind_to_lock v t fs (record { heap = c.heap; statics = c.statics; inits = failing_kept k s.top.waits u.later s.inits c.inits; top = cs.0; below = cs.1 }) cs.1))

  -- ---- the search

  abbrev CaughtMoves : Here → Known TypeExpr → Type 0
  CaughtMoves here o = (option_and_then (closed_slot after (move_here k.rho here).targs (move_here k.rho here).margs) (good (known_map (move_expr k.rho) o))
      ≡ option_map (move_expr k.rho) (option_and_then (closed_slot before here.targs here.margs) (good o)))
      × ((e : TypeExpr) → option_and_then (closed_slot before here.targs here.margs) (good o) ≡ Some e → IsTrue (keeps_defined k.keep e))

  caught_moves : (here : Here) → KeptHere k.keep before here → (o : Known TypeExpr) → IsTrue (if_good (keeps_defined k.keep) o) → CaughtMoves here o
  caught_moves here r (Good e) h = (defined_slot_moved k after before a here.targs here.margs r.targs r.margs e h, λ d is. defined_slot_kept k after before a here.targs here.margs r.targs r.margs e d h is)
  caught_moves here r (Bad why) h = (refl, λ d is. cc)

  catches_by_moved : (s : State) → Covered k.keep before s → (x n : ℕ) (o : Option TypeExpr) → ((e : TypeExpr) → o ≡ Some e → IsTrue (keeps_defined k.keep e)) → (new old : Found) → new ≡ old
      → catches_by after (move_state k before s) x n (option_map (move_expr k.rho) o) new ≡ catches_by before s x n o old
  catches_by_moved s c x n None h new old e = refl
  catches_by_moved s c x n (Some d) h new old e = λ i. if is_a_defined_at k after before a s c d (h d refl) x i then by_clause n else e i

  clause_moved : (here : Here) → KeptHere k.keep before here → (s : State) → Covered k.keep before s → (x at n : ℕ) (cs : List Clause) → IsTrue (list_all (keeps_clause k.keep) cs)
      → clause_for after (move_here k.rho here) (move_state k before s) x at n (map (move_clause k.rho) cs) ≡ clause_for before here s x at n cs
  unfolding clause_for
  clause_moved here r s c x at n [] h = refl
  clause_moved here r s c x at n (d ∷ cs) h =
      let rest : clause_for after (move_here k.rho here) (move_state k before s) x at (suc n) (map (move_clause k.rho) cs) ≡ clause_for before here s x at (suc n) cs
      = clause_moved here r s c x at (suc n) cs (second_so (keeps_clause k.keep d) (list_all (keeps_clause k.keep) cs) h) in
      let m : CaughtMoves here d.caught = caught_moves here r d.caught (first_so (keeps_clause k.keep d) (list_all (keeps_clause k.keep) cs) h) in
      let one : catches_by after (move_state k before s) x n (caught_type after (move_here k.rho here) (move_clause k.rho d)) (clause_for after (move_here k.rho here) (move_state k before s) x at (suc n) (map (move_clause k.rho) cs))
      ≡ catches_by before s x n (caught_type before here d) (clause_for before here s x at (suc n) cs)
      = ap (λ (o : Option TypeExpr). catches_by after (move_state k before s) x n o (clause_for after (move_here k.rho here) (move_state k before s) x at (suc n) (map (move_clause k.rho) cs))) m.0
      ∙ catches_by_moved s c x n (caught_type before here d) m.1 _ _ rest in
      λ i. if is_catch d && in_try d at then one i else rest i

  found_by : (s : State) → Covered k.keep before s → (x : ℕ) (f : Frame) → IsTrue (keeps_use k.keep f.method) → (o : Option Here) → here_of before f ≡ o
      → found_here after (move_state k before s) x (move_frame k.rho f) (option_map (move_here k.rho) o) ≡ found_here before s x f o
  found_by s c x f h None e = refl
  found_by s c x f h (Some here) e =
      let r : KeptHere k.keep before here = here_kept k after before a f here h e in
      clause_moved here r s c x f.at 0 here.code.clauses (second_so _ (list_all (keeps_clause k.keep) here.code.clauses) r.code)

  found_moved : (s : State) → Covered k.keep before s → (x : ℕ) (f : Frame) → IsTrue (keeps_use k.keep f.method)
      → found_in after (move_state k before s) x (move_frame k.rho f) ≡ found_in before s x f
  unfolding found_in
  found_moved s c x f h =
      ap (found_here after (move_state k before s) x (move_frame k.rho f)) (here_moved k after before a f h) ∙ found_by s c x f h (here_of before f) refl

  passed_lock : (o : Option CoreName) → IsWrapper o → (x : ℕ) (later : List ℕ) (s : State) → Covered k.keep before s → (f g : ℕ → List ℕ → State → Next)
      → ((y : ℕ) (all : List ℕ) (t : State) → Covered k.keep before t → Lock k before (f y all (move_state k before t)) (g y all t))
      → Lock k before (passed_on after o x later (move_state k before s) f) (passed_on before o x later s g)
  passed_lock None asked x later s c f g h = h x later s c
  passed_lock (Some n) asked x later s c f g h =
      subst (λ (o : Obj). Lock k before (made o (move_state k before s) (λ y t. f y (later ++ y ∷ []) t)) (made (wrapping before n x) s (λ y t. g y (later ++ y ∷ []) t))) (sym (wrapping_moved k after before a n asked x))
      (made_lock k before (wrapping before n x) s (λ y t. f y (later ++ y ∷ []) t) (λ y t. g y (later ++ y ∷ []) t) c (wrapping_kept k after before a n asked x)
      (λ y t ct. h y (later ++ y ∷ []) t ct))

  unwinding_moved : (first : ℕ) (later : List ℕ) (s : State) (f : Frame) (n : ℕ) → IsTrue (keeps_use k.keep s.top.method)
      → unwinding_to after first later (move_state k before s) (move_frame k.rho f) n ≡ unwinding_to before first later s f n
  unwinding_moved first later s f n h = λ i. record { object = first; later = later; frame = f.number; clause = n; left = left_moved k after before a f.number n s.top h i }

  caught_by : (first : ℕ) (later : List ℕ) (s : State) → Covered k.keep before s → (f : Frame) (found : Found) (x y : Next) → Lock k before x y
      → Lock k before (caught_or after first later (move_state k before s) (move_frame k.rho f) found x) (caught_or before first later s f found y)
  caught_by first later s c f nothing_found x y l = l
  caught_by first later s c f bad_clause x y l = stopped_lock k before s
  caught_by first later s c f (by_clause n) x y l =
      let u : Unwinding = unwinding_to before first later s f n in
      subst (λ (v : Unwinding). Lock k before (unwind_to after v (move_state k before s) (map (move_frame k.rho) s.below)) (unwind before u s))
      (sym (unwinding_moved first later s f n c.top.method)) (unwind_to_lock u s s.below c c.below)

  caught_lock : (first x : ℕ) (later : List ℕ) (s : State) → Covered k.keep before s → (f : Frame) → IsTrue (keeps_use k.keep f.method) → (w y : Next) → Lock k before w y
      → Lock k before (caught_or after first later (move_state k before s) (move_frame k.rho f) (found_in after (move_state k before s) x (move_frame k.rho f)) w)
      (caught_or before first later s f (found_in before s x f) y)
  caught_lock first x later s c f h w y l =
      subst (λ (found : Found). Lock k before (caught_or after first later (move_state k before s) (move_frame k.rho f) found w) (caught_or before first later s f (found_in before s x f) y))
      (sym (found_moved s c x f h)) (caught_by first later s c f (found_in before s x f) w y l)

  goes_out_lock : (f : Frame) (x : ℕ) (later : List ℕ) (s : State) → Covered k.keep before s → (g h : ℕ → List ℕ → State → Next)
      → ((y : ℕ) (all : List ℕ) (t : State) → Covered k.keep before t → Lock k before (g y all (move_state k before t)) (h y all t))
      → Lock k before (passed_on after (wrapper (move_frame k.rho f).waits) x later (move_state k before s) g) (passed_on before (wrapper f.waits) x later s h)
  goes_out_lock f x later s c g h l =
      subst (λ (o : Option CoreName). Lock k before (passed_on after o x later (move_state k before s) g) (passed_on before (wrapper f.waits) x later s h)) (sym (wrapper_moved k f.waits))
      (passed_lock (wrapper f.waits) (wrapper_asked f.waits) x later s c g h l)

  search_lock : (first x : ℕ) (later : List ℕ) (s : State) (f : Frame) (fs : List Frame) → Covered k.keep before s → IsTrue (keeps_use k.keep f.method) → CoveredFrames k.keep fs
      → Lock k before (search after first x later (move_state k before s) (move_frame k.rho f) (map (move_frame k.rho) fs)) (search before first x later s f fs)
  unfolding search
  search_lock first x later s f [] c h cs = caught_lock first x later s c f h _ _ (goes_out_lock f x later s c _ _ (λ y all t ct. threw_lock k after before a t ct y))
  search_lock first x later s f (g ∷ fs) c h cs =
      caught_lock first x later s c f h _ _ (goes_out_lock f x later s c _ _ (λ y all t ct. search_lock first y all t g fs ct cs.0.method cs.1))

  pub throw_lock : (x : ℕ) (s : State) → Covered k.keep before s → Lock k before (throw after x (move_state k before s)) (throw before x s)
  unfolding throw
  throw_lock x s c = search_lock x x [] s s.top s.below c c.top.method c.below

  pub raise_lock : (n : CoreName) → IsTrue (is_asked n) → (s : State) → Covered k.keep before s → Lock k before (raise after n (move_state k before s)) (raise before n s)
  unfolding raise
  raise_lock n h s c =
      subst (λ (o : Obj). Lock k before (made o (move_state k before s) (throw after)) (made (new_exception before n) s (throw before))) (sym (new_exception_moved k after before a n h))
      (made_lock k before (new_exception before n) s (throw after) (throw before) c (new_exception_kept k after before a n h) (λ x t ct. throw_lock x t ct))
