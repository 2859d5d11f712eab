-- The state after a value is put into a place.
use Rattle.std.proofs.Common.{◌≡◌, ℕ, Bool, true, false, List, [], ◌∷◌, map, Option, Some, None, refl, ap, subst, ◌∙◌}
use Rattle.std.specs.Prelude.{IsTrue, slice_get, slice_set, if◌then◌else◌}
use Rattle.std.specs.Option.{option_map, option_and_then}
use Rattle.std.specs.Cmp.{first_so, second_so}
use Rattle.std.proofs.lemmas.Bool.{and_from}
use Rattle.std.proofs.lemmas.Option.{slice_get-map}
use Rattle.il_base.specs.declared.world_model.expr.TypeExpr.{TypeExpr}
use Rattle.il_base.specs.declared.cil_values.path.Path.{Path}
use Rattle.il_base.specs.declared.cil_values.path.Root.{Root}
use Rattle.il_base.specs.declared.cil_values.path.Root.TheVariants as root
use Rattle.il_base.specs.declared.cil_values.value.Value.{Value}
use Rattle.il_base.specs.declared.cil_values.object.Obj.{Obj}
use Rattle.il_base.specs.declared.cil_values.object.Obj.TheVariants as object
use Rattle.il_base.specs.declared.cil_values.layout.Cell.{Cell}
use Rattle.il_base.specs.declared.cil_values.layout.Cell.TheVariants.{Field as of_field}
use Rattle.il_base.specs.declared.cil_values.state.State.{State}
use Rattle.il_base.specs.declared.cil_values.state.Global.{Global}
use Rattle.il_base.specs.declared.cil_values.frame.Frame.{Frame}
use Rattle.rules.specs.step_rules.Queries.{Queries}
use Rattle.rules.specs.step_rules.Next.{Next}
use Rattle.rules.specs.step_rules.Words.{object_at}
use Rattle.rules.specs.step_rules.Places.{set_if, with_cell, put_cell_in, put_in, has_number, change_frame, with_frame, is_global, change_global, with_global, root_value, with_object, put_boxed, put_element, set_arg, set_local, put_root, put_whole, with_place, put_at}
use Rattle.rules.specs.change_rules.Change.{Keep, Change}
use Rattle.rules.specs.change_rules.Moves.{move_expr, move_value, move_values, move_root, move_path}
use Rattle.rules.specs.change_rules.Answers.{move_cell}
use Rattle.rules.specs.change_rules.States.{keeps_cell, move_cells, move_obj, move_frame, move_global, move_state}
use Rattle.rules.specs.change_rules.Keeps.{keeps_made, shows_expr, keeps_root, keeps_path, keeps_value, keeps_values}
use Rattle.rules.specs.change_rules.Covered.{keeps_obj, keeps_global, CoveredFrame, CoveredFrames, Covered}
use Rattle.rules.specs.change_rules.Agree.{Agree}
use Rattle.rules.specs.change_rules.Lock.{Lock}
use Rattle.base_laws.proofs.lemmas.change_laws.Same.{same_globals_moved}
use Rattle.base_laws.proofs.lemmas.change_laws.Lists.{change_moved, all_set}
use Rattle.base_laws.proofs.lemmas.change_laws.Cells.{set_map, cells_written}
use Rattle.run_laws.proofs.lemmas.lock_words.Words.{had_moved}
use Rattle.run_laws.proofs.lemmas.lock_throwing.Objects.{made_kept, object_moved, object_kept, cell_set_kept}
use Rattle.run_laws.proofs.lemmas.lock_throwing.Searching.{all_changed}
use Rattle.run_laws.proofs.lemmas.lock_places.Options.{Through, through_is, Made, made_is, some_is}
use Rattle.run_laws.proofs.lemmas.lock_places.Places.{put_in_moved, put_in_kept, root_moved, root_kept}

-- ---- frames

module _ (k : Change) (n : ℕ) (f g : Frame → Frame) (same : (x : Frame) → g (move_frame k.rho x) ≡ move_frame k.rho (f x)) where
  frame_by : (b : Bool) (x : Frame) → (if b then g (move_frame k.rho x) else move_frame k.rho x) ≡ move_frame k.rho (if b then f x else x)
  frame_by true x = same x
  frame_by false x = refl

  changed_frame : (x : Frame) → change_frame n g (move_frame k.rho x) ≡ move_frame k.rho (change_frame n f x)
  changed_frame x = frame_by (has_number n x) x

  pub with_frame_moved : (q : Queries) (s : State) → with_frame n g (move_state k q s) ≡ move_state k q (with_frame n f s)
  unfolding with_frame
  with_frame_moved q s =
      λ i. record (move_state k q s) { top = changed_frame s.top i; below = change_moved (move_frame k.rho) (change_frame n f) (change_frame n g) changed_frame s.below i }

module _ (k : Keep) (n : ℕ) (f : Frame → Frame) (stays : (x : Frame) → CoveredFrame k x → CoveredFrame k (f x)) where
  frame_covered : (b : Bool) (x : Frame) → CoveredFrame k x → CoveredFrame k (if b then f x else x)
  frame_covered true x c = stays x c
  frame_covered false x c = c

  frames_covered : (fs : List Frame) → CoveredFrames k fs → CoveredFrames k (map (change_frame n f) fs)
  frames_covered [] c = tt
  frames_covered (x ∷ fs) c = (frame_covered (has_number n x) x c.0, frames_covered fs c.1)

  pub with_frame_covered : (q : Queries) (s : State) → Covered k q s → Covered k q (with_frame n f s)
  unfolding with_frame
  with_frame_covered q s c =
      record { heap = c.heap; statics = c.statics; inits = c.inits; top = frame_covered (has_number n s.top) s.top c.top; below = frames_covered s.below c.below }

arg_set : (k : Change) (j : ℕ) (v : Value) (x : Frame) → set_arg j (move_value k.rho v) (move_frame k.rho x) ≡ move_frame k.rho (set_arg j v x)
arg_set k j v x = λ i. record (move_frame k.rho x) { args = set_map (move_value k.rho) x.args j v i }

local_set : (k : Change) (j : ℕ) (v : Value) (x : Frame) → set_local j (move_value k.rho v) (move_frame k.rho x) ≡ move_frame k.rho (set_local j v x)
local_set k j v x = λ i. record (move_frame k.rho x) { locals = set_map (move_value k.rho) x.locals j v i }

arg_covered : (k : Keep) (j : ℕ) (v : Value) → IsTrue (keeps_value k v) → (x : Frame) → CoveredFrame k x → CoveredFrame k (set_arg j v x)
arg_covered k j v h x c = record { method = c.method; args = all_set (keeps_value k) x.args j v c.args h; locals = c.locals; stack = c.stack; prefix = c.prefix; waits = c.waits }

local_covered : (k : Keep) (j : ℕ) (v : Value) → IsTrue (keeps_value k v) → (x : Frame) → CoveredFrame k x → CoveredFrame k (set_local j v x)
local_covered k j v h x c = record { method = c.method; args = c.args; locals = all_set (keeps_value k) x.locals j v c.locals h; stack = c.stack; prefix = c.prefix; waits = c.waits }

-- ---- static fields

module _ (k : Change) (q : Queries) (f : ℕ) (owner : TypeExpr) (v : Value) where
  global_by : (b : Bool) (g : Global) → (if b then record (move_global k.rho g) { value = move_value k.rho v } else move_global k.rho g) ≡ move_global k.rho (if b then record g { value = v } else g)
  global_by true g = refl
  global_by false g = refl

  global_changed : (g : Global) → change_global (k.rho.field f) (move_expr k.rho owner) (move_value k.rho v) (move_global k.rho g) ≡ move_global k.rho (change_global f owner v g)
  global_changed g =
      ap (λ (b : Bool). if b then record (move_global k.rho g) { value = move_value k.rho v } else move_global k.rho g) (same_globals_moved k.back k.rho k.undone f owner g) ∙ global_by (is_global f owner g) g

  pub with_global_moved : (s : State) → with_global (k.rho.field f) (move_expr k.rho owner) (move_value k.rho v) (move_state k q s) ≡ move_state k q (with_global f owner v s)
  unfolding with_global
  with_global_moved s =
      λ i. record (move_state k q s) { statics = change_moved (move_global k.rho) (change_global f owner v) (change_global (k.rho.field f) (move_expr k.rho owner) (move_value k.rho v)) global_changed s.statics i }

  global_stays : IsTrue (keeps_value k.keep v) → (b : Bool) (g : Global) → IsTrue (keeps_global k.keep g) → IsTrue (keeps_global k.keep (if b then record g { value = v } else g))
  global_stays h true g e = and_from _ (keeps_value k.keep v) (first_so _ (keeps_value k.keep g.value) e) h
  global_stays h false g e = e

  pub with_global_covered : (s : State) → Covered k.keep q s → IsTrue (keeps_value k.keep v) → Covered k.keep q (with_global f owner v s)
  unfolding with_global
  with_global_covered s c h =
      record { heap = c.heap; statics = all_changed (keeps_global k.keep) (change_global f owner v) (λ g. global_stays h (is_global f owner g) g) s.statics c.statics; inits = c.inits; top = c.top; below = c.below }

module _ (k : Change) (after before : Queries) (a : Agree k after before) where
  -- ---- objects

  pub with_object_moved : (s : State) (n : ℕ) (o : Option Obj) (new : Option Obj) → new ≡ option_map (move_obj k before) o
      → with_object (move_state k before s) n new ≡ option_map (move_state k before) (with_object s n o)
  with_object_moved s n o new e = ap (with_object (move_state k before s) n) e ∙ by_cases o
    where
      by_cases : (o : Option Obj) → with_object (move_state k before s) n (option_map (move_obj k before) o) ≡ option_map (move_state k before) (with_object s n o)
      by_cases None = refl
      by_cases (Some x) = λ i. Some (record (move_state k before s) { heap = set_map (move_obj k before) s.heap n x i })

  pub with_object_covered : (s : State) (n : ℕ) (o : Option Obj) (t : State) → Covered k.keep before s → ((x : Obj) → o ≡ Some x → IsTrue (keeps_obj k.keep before x)) → with_object s n o ≡ Some t → Covered k.keep before t
  with_object_covered s n None t c h e = cc
  with_object_covered s n (Some x) t c h e =
      some_is (Covered k.keep before) (record s { heap = slice_set s.heap n x }) t e
      (record { heap = all_set (keeps_obj k.keep before) s.heap n x c.heap (h x refl); statics = c.statics; inits = c.inits; top = c.top; below = c.below })

  boxed_put : (v : Value) (o : Option Obj) → option_and_then (put_boxed (move_value k.rho v)) (option_map (move_obj k before) o) ≡ option_map (move_obj k before) (option_and_then (put_boxed v) o)
  boxed_put v None = refl
  boxed_put v (Some (object.Instance of cells)) = refl
  boxed_put v (Some (object.Boxed of w)) = refl
  boxed_put v (Some (object.Array of cells)) = refl
  boxed_put v (Some (object.Str units)) = refl
  boxed_put v (Some (object.TypeOf e)) = refl
  boxed_put v (Some (object.Member i e)) = refl

  boxed_put_kept : (v : Value) (o x : Obj) → IsTrue (keeps_value k.keep v) → IsTrue (keeps_obj k.keep before o) → put_boxed v o ≡ Some x → IsTrue (keeps_obj k.keep before x)
  boxed_put_kept v (object.Instance of cells) x g h e = cc
  boxed_put_kept v (object.Boxed of w) x g h e =
      some_is (λ y. IsTrue (keeps_obj k.keep before y)) (object.Boxed of v) x e (and_from (keeps_made k.keep of) (keeps_value k.keep v) (first_so (keeps_made k.keep of) (keeps_value k.keep w) h) g)
  boxed_put_kept v (object.Array of cells) x g h e = cc
  boxed_put_kept v (object.Str units) x g h e = cc
  boxed_put_kept v (object.TypeOf t) x g h e = cc
  boxed_put_kept v (object.Member i t) x g h e = cc

  pub set_if_moved : (cells : List Value) (v : Value) (j : ℕ) → set_if (move_values k.rho cells) (move_value k.rho v) j ≡ option_map (move_values k.rho) (set_if cells v j)
  set_if_moved cells v j = ap (option_map (λ (old : Value). slice_set (move_values k.rho cells) j (move_value k.rho v))) (slice_get-map (move_value k.rho) cells j) ∙ by_cases (slice_get cells j)
    where
      by_cases : (o : Option Value) → option_map (λ (old : Value). slice_set (move_values k.rho cells) j (move_value k.rho v)) (option_map (move_value k.rho) o) ≡ option_map (move_values k.rho) (option_map (λ (old : Value). slice_set cells j v) o)
      by_cases None = refl
      by_cases (Some old) = ap (λ (xs : List Value). Some xs) (set_map (move_value k.rho) cells j v)

  arrays_by : (of : TypeExpr) (o : Option (List Value)) → option_map (λ vs. object.Array (move_expr k.rho of) vs) (option_map (move_values k.rho) o) ≡ option_map (move_obj k before) (option_map (λ vs. object.Array of vs) o)
  arrays_by of None = refl
  arrays_by of (Some vs) = refl

  element_put : (j : ℕ) (v : Value) (o : Option Obj) → option_and_then (put_element j (move_value k.rho v)) (option_map (move_obj k before) o) ≡ option_map (move_obj k before) (option_and_then (put_element j v) o)
  element_put j v None = refl
  element_put j v (Some (object.Instance of cells)) = refl
  element_put j v (Some (object.Boxed of w)) = refl
  element_put j v (Some (object.Array of cells)) = ap (option_map (λ vs. object.Array (move_expr k.rho of) vs)) (set_if_moved cells v j) ∙ arrays_by of (set_if cells v j)
  element_put j v (Some (object.Str units)) = refl
  element_put j v (Some (object.TypeOf e)) = refl
  element_put j v (Some (object.Member i e)) = refl

  element_put_kept : (j : ℕ) (v : Value) (o x : Obj) → IsTrue (keeps_value k.keep v) → IsTrue (keeps_obj k.keep before o) → put_element j v o ≡ Some x → IsTrue (keeps_obj k.keep before x)
  element_put_kept j v (object.Instance of cells) x g h e = cc
  element_put_kept j v (object.Boxed of w) x g h e = cc
  element_put_kept j v (object.Array of cells) x g h e =
      let m : Made (λ vs. object.Array of vs) (set_if cells v j) x = made_is _ _ _ e in
      let c : Made (λ (old : Value). slice_set cells j v) (slice_get cells j) m.x = made_is _ _ _ m.there in
      subst (λ (y : Obj). IsTrue (keeps_obj k.keep before y)) m.is
      (and_from (shows_expr k.keep of) (keeps_values k.keep m.x) (first_so (shows_expr k.keep of) (keeps_values k.keep cells) h)
      (subst (λ (ws : List Value). IsTrue (keeps_values k.keep ws)) c.is (all_set (keeps_value k.keep) cells j v (second_so (shows_expr k.keep of) (keeps_values k.keep cells) h) g)))
  element_put_kept j v (object.Str units) x g h e = cc
  element_put_kept j v (object.TypeOf t) x g h e = cc
  element_put_kept j v (object.Member i t) x g h e = cc

  instances_by : (of : TypeExpr) (o : Option (List Value)) → option_map (λ vs. object.Instance (move_expr k.rho of) vs) (option_map (move_cells k before of) o) ≡ option_map (move_obj k before) (option_map (λ vs. object.Instance of vs) o)
  instances_by of None = refl
  instances_by of (Some vs) = refl

  cell_put_in : (c : Cell) → IsTrue (keeps_cell k.keep c) → (v : Value) (o : Obj) → IsTrue (keeps_obj k.keep before o)
      → put_cell_in after (move_cell k.rho c) (move_value k.rho v) (move_obj k before o) ≡ option_map (move_obj k before) (put_cell_in before c v o)
  cell_put_in c h v (object.Instance of cells) g =
      ap (option_map (λ vs. object.Instance (move_expr k.rho of) vs)) (cells_written k after before a of (made_kept k.keep of (first_so (keeps_made k.keep of) _ g)) cells c v h) ∙ instances_by of (with_cell before of cells c v)
  cell_put_in c h v (object.Boxed of w) g = refl
  cell_put_in c h v (object.Array of cells) g = refl
  cell_put_in c h v (object.Str units) g = refl
  cell_put_in c h v (object.TypeOf t) g = refl
  cell_put_in c h v (object.Member i t) g = refl

  cell_put_by : (c : Cell) → IsTrue (keeps_cell k.keep c) → (v : Value) (o : Option Obj) → ((x : Obj) → o ≡ Some x → IsTrue (keeps_obj k.keep before x))
      → option_and_then (put_cell_in after (move_cell k.rho c) (move_value k.rho v)) (option_map (move_obj k before) o) ≡ option_map (move_obj k before) (option_and_then (put_cell_in before c v) o)
  cell_put_by c h v None f = refl
  cell_put_by c h v (Some o) f = cell_put_in c h v o (f o refl)

  pub cell_put_kept : (c : Cell) (v : Value) (o x : Obj) → IsTrue (keeps_value k.keep v) → IsTrue (keeps_obj k.keep before o) → put_cell_in before c v o ≡ Some x → IsTrue (keeps_obj k.keep before x)
  cell_put_kept c v (object.Instance of cells) x g h e =
      let m : Made (λ vs. object.Instance of vs) (with_cell before of cells c v) x = made_is _ _ _ e in
      subst (λ (y : Obj). IsTrue (keeps_obj k.keep before y)) m.is
      (and_from (keeps_made k.keep of) _ (first_so (keeps_made k.keep of) _ h) (cell_set_kept k after before a of cells m.x c v m.there (second_so (keeps_made k.keep of) _ h) g))
  cell_put_kept c v (object.Boxed of w) x g h e = cc
  cell_put_kept c v (object.Array of cells) x g h e = cc
  cell_put_kept c v (object.Str units) x g h e = cc
  cell_put_kept c v (object.TypeOf t) x g h e = cc
  cell_put_kept c v (object.Member i t) x g h e = cc

  -- ---- a cell of the object with a number

  pub put_cell_moved : (s : State) → Covered k.keep before s → (n : ℕ) (c : Cell) → IsTrue (keeps_cell k.keep c) → (v : Value)
      → with_object (move_state k before s) n (option_and_then (put_cell_in after (move_cell k.rho c) (move_value k.rho v)) (object_at (move_state k before s) n))
      ≡ option_map (move_state k before) (with_object s n (option_and_then (put_cell_in before c v) (object_at s n)))
  put_cell_moved s cs n c h v =
      with_object_moved s n (option_and_then (put_cell_in before c v) (object_at s n)) _
      (ap (option_and_then (put_cell_in after (move_cell k.rho c) (move_value k.rho v))) (object_moved k after before a s n) ∙ cell_put_by c h v (object_at s n) (λ x e. object_kept k after before a s cs n x e))

  pub put_cell_covered : (s t : State) → Covered k.keep before s → (n : ℕ) (c : Cell) (v : Value) → IsTrue (keeps_value k.keep v)
      → with_object s n (option_and_then (put_cell_in before c v) (object_at s n)) ≡ Some t → Covered k.keep before t
  put_cell_covered s t cs n c v h e =
      with_object_covered s n (option_and_then (put_cell_in before c v) (object_at s n)) t cs
      (λ x is. let u : Through (put_cell_in before c v) (object_at s n) x = through_is _ _ _ is in
      cell_put_kept c v u.x x h (object_kept k after before a s cs n u.x u.there) u.is) e

  -- ---- the root

  put_root_moved : (s : State) → Covered k.keep before s → (p : Root) → IsTrue (keeps_root k.keep p) → (v : Value)
      → put_root after (move_state k before s) (move_root k.rho p) (move_value k.rho v) ≡ option_map (move_state k before) (put_root before s p v)
  put_root_moved s c (root.Arg n j) h v = ap (λ (t : State). Some t) (with_frame_moved k n (set_arg j v) (set_arg j (move_value k.rho v)) (arg_set k j v) before s)
  put_root_moved s c (root.Local n j) h v = ap (λ (t : State). Some t) (with_frame_moved k n (set_local j v) (set_local j (move_value k.rho v)) (local_set k j v) before s)
  put_root_moved s c (root.Boxed n) h v =
      with_object_moved s n (option_and_then (put_boxed v) (object_at s n)) _ (ap (option_and_then (put_boxed (move_value k.rho v))) (object_moved k after before a s n) ∙ boxed_put v (object_at s n))
  put_root_moved s c (root.Element n j) h v =
      with_object_moved s n (option_and_then (put_element j v) (object_at s n)) _ (ap (option_and_then (put_element j (move_value k.rho v))) (object_moved k after before a s n) ∙ element_put j v (object_at s n))
  put_root_moved s c (root.Field n f) h v = put_cell_moved s c n (of_field f.0) h v
  put_root_moved s c (root.Static f owner) h v = ap (λ (t : State). Some t) (with_global_moved k before f.0 owner v s)

  put_root_covered : (s : State) → Covered k.keep before s → (p : Root) (v : Value) (t : State) → IsTrue (keeps_value k.keep v) → put_root before s p v ≡ Some t → Covered k.keep before t
  put_root_covered s c (root.Arg n j) v t h e = some_is (Covered k.keep before) (with_frame n (set_arg j v) s) t e (with_frame_covered k.keep n (set_arg j v) (arg_covered k.keep j v h) before s c)
  put_root_covered s c (root.Local n j) v t h e = some_is (Covered k.keep before) (with_frame n (set_local j v) s) t e (with_frame_covered k.keep n (set_local j v) (local_covered k.keep j v h) before s c)
  put_root_covered s c (root.Boxed n) v t h e =
      with_object_covered s n (option_and_then (put_boxed v) (object_at s n)) t c
      (λ x is. let u : Through (put_boxed v) (object_at s n) x = through_is _ _ _ is in boxed_put_kept v u.x x h (object_kept k after before a s c n u.x u.there) u.is) e
  put_root_covered s c (root.Element n j) v t h e =
      with_object_covered s n (option_and_then (put_element j v) (object_at s n)) t c
      (λ x is. let u : Through (put_element j v) (object_at s n) x = through_is _ _ _ is in element_put_kept j v u.x x h (object_kept k after before a s c n u.x u.there) u.is) e
  put_root_covered s c (root.Field n f) v t h e = put_cell_covered s t c n (of_field f.0) v h e
  put_root_covered s c (root.Static f owner) v t h e = some_is (Covered k.keep before) (with_global f.0 owner v s) t e (with_global_covered k before f.0 owner v s c h)

  whole_by : (s : State) → Covered k.keep before s → (p : Root) → IsTrue (keeps_root k.keep p) → (o : Option Value)
      → put_whole after (move_state k before s) (move_root k.rho p) (option_map (move_value k.rho) o) ≡ option_map (move_state k before) (put_whole before s p o)
  whole_by s c p h None = refl
  whole_by s c p h (Some v) = put_root_moved s c p h v

  whole_covered : (s : State) → Covered k.keep before s → (p : Root) (o : Option Value) (t : State) → ((v : Value) → o ≡ Some v → IsTrue (keeps_value k.keep v)) → put_whole before s p o ≡ Some t → Covered k.keep before t
  whole_covered s c p None t h e = cc
  whole_covered s c p (Some v) t h e = put_root_covered s c p v t (h v refl) e

  puts_by : (ks : List ℕ) (new : Value) (o : Option Value) → option_and_then (put_in ks (move_value k.rho new)) (option_map (move_value k.rho) o) ≡ option_map (move_value k.rho) (option_and_then (put_in ks new) o)
  puts_by ks new None = refl
  puts_by ks new (Some v) = put_in_moved k.rho ks new v

  pub with_place_moved : (s : State) → Covered k.keep before s → (p : Path) → IsTrue (keeps_path k.keep p) → (v : Value)
      → with_place after (move_state k before s) (move_path k.rho p) (move_value k.rho v) ≡ option_map (move_state k before) (with_place before s p v)
  unfolding with_place
  with_place_moved s c p h v =
      let r : IsTrue (keeps_root k.keep p.root) = first_so (keeps_root k.keep p.root) _ h in
      ap (λ (o : Option Value). put_whole after (move_state k before s) (move_root k.rho p.root) (option_and_then (put_in p.steps (move_value k.rho v)) o)) (root_moved k after before a s c p.root r)
      ∙ ap (put_whole after (move_state k before s) (move_root k.rho p.root)) (puts_by p.steps v (root_value before s p.root))
      ∙ whole_by s c p.root r (option_and_then (put_in p.steps v) (root_value before s p.root))

  pub with_place_covered : (s : State) → Covered k.keep before s → (p : Path) (v : Value) (t : State) → IsTrue (keeps_path k.keep p) → IsTrue (keeps_value k.keep v) → with_place before s p v ≡ Some t → Covered k.keep before t
  unfolding with_place
  with_place_covered s c p v t h g e =
      whole_covered s c p.root (option_and_then (put_in p.steps v) (root_value before s p.root)) t
      (λ w is. let u : Through (put_in p.steps v) (root_value before s p.root) w = through_is _ _ _ is in
      put_in_kept k.keep p.steps v u.x w g (root_kept k after before a s c p.root u.x (first_so (keeps_root k.keep p.root) _ h) u.there) u.is) e

  pub put_at_lock : (p : Path) (v : Value) (s : State) (f g : State → Next) → Covered k.keep before s → IsTrue (keeps_path k.keep p) → IsTrue (keeps_value k.keep v)
      → ((t : State) → Covered k.keep before t → Lock k before (f (move_state k before t)) (g t))
      → Lock k before (put_at after (move_path k.rho p) (move_value k.rho v) (move_state k before s) f) (put_at before p v s g)
  unfolding put_at
  put_at_lock p v s f g c h hv l = had_moved k before (move_state k before) (with_place before s p v) _ s f g (with_place_moved s c p h v) (λ t e. l t (with_place_covered s c p v t h hv e))
